-- Keys, as they lie.
use Rattle.std.proofs.Common.{◌≡◌, ◌≢◌, ℕ, suc, zero, ◌-◌, ◌<◌, ◌≤◌, List, [], ◌∷◌, ◌++◌, inl, inr, length, get_or, take, drop, refl, sym, ap, ◌∙◌, arith, slice_index, slice_get, slice_range, Option, None, Some}
use Rattle.std.proofs.lemmas.Bool.{cases_eq, cases_lt}
use Rattle.std.proofs.lemmas.List.{take-append-le, drop-append-le, drop_at, take_all, length-drop, length-append, map-append, get_or-map, length-map}
use Rattle.std.proofs.lemmas.Option.{same_Some, slice_get_within, none-some, get_or_from_slice_get}
use Rattle.rawk_keys.specs.declared.keys.KeyRange.{KeyRange}
use Rattle.rawk_keys.specs.Nearest.{IsNearest}
use Rattle.rawk_keys.specs.ArrayKey.{Bytes, ArrayKey, array_key, IsLastOf}
use Rattle.rawk_keys.specs.Hash.{hash_of}
use Rattle.rawk_keys.specs.Found.{IsSearching}
use Rattle.rawk_keys.specs.KeysLaid.{AreWithin, IsWithin, AreLaid, keys_of, hashes_of}

pub names_length : (text : Bytes) (arrays : List ℕ) (spans : List KeyRange) → length arrays ≡ length spans → length (keys_of text arrays spans) ≡ length spans
names_length text [] [] e = refl
names_length text [] (s ∷ spans) e = absurd (omega (arith, e))
names_length text (a ∷ arrays) [] e = refl
names_length text (a ∷ arrays) (s ∷ spans) e = ap suc (names_length text arrays spans (omega (arith, e)))

pub name_at : (text : Bytes) (arrays : List ℕ) (spans : List KeyRange) (i : ℕ) (d : KeyRange) → length arrays ≡ length spans → i < length spans → slice_get (keys_of text arrays spans) i ≡ Some (array_key (slice_index arrays i) (slice_range text (get_or spans i d).start (get_or spans i d).end))
name_at text [] [] i d e lt = absurd (omega (arith, lt))
name_at text [] (s ∷ spans) i d e lt = absurd (omega (arith, e))
name_at text (a ∷ arrays) [] i d e lt = absurd (omega (arith, lt))
name_at text (a ∷ arrays) (s ∷ spans) zero d e lt = refl
name_at text (a ∷ arrays) (s ∷ spans) (suc i) d e lt = name_at text arrays spans i d (omega (arith, e)) (omega (arith, lt))

pub within_at : (text : Bytes) (spans : List KeyRange) (i : ℕ) (d : KeyRange) → AreWithin text spans → i < length spans → IsWithin text (get_or spans i d)
within_at text [] i d h lt = absurd (omega (arith, lt))
within_at text (s ∷ spans) zero d h lt = h.0
within_at text (s ∷ spans) (suc i) d h lt = within_at text spans i d h.1 (omega (arith, lt))

-- a longer text has the same keys
range_more : (text more : Bytes) (s : KeyRange) → IsWithin text s → slice_range (text ++ more) s.start s.end ≡ slice_range text s.start s.end
range_more text more s h =
    ap (take (s.end - s.start)) (drop-append-le s.start text more (omega (arith, h.ordered, h.inside)))
    ∙ take-append-le (s.end - s.start) (drop s.start text) more (omega (arith, h.inside, length-drop s.start text))

pub names_text : (text more : Bytes) (arrays : List ℕ) (spans : List KeyRange) → AreWithin text spans → keys_of (text ++ more) arrays spans ≡ keys_of text arrays spans
names_text text more [] spans h = refl
names_text text more (a ∷ arrays) [] h = refl
names_text text more (a ∷ arrays) (s ∷ spans) h =
    ap (λ (key : Bytes). array_key a key ∷ keys_of (text ++ more) arrays spans) (range_more text more s h.0)
    ∙ ap (λ (keys : List ArrayKey). array_key a (slice_range text s.start s.end) ∷ keys) (names_text text more arrays spans h.1)

pub within_text : (text more : Bytes) (spans : List KeyRange) → AreWithin text spans → AreWithin (text ++ more) spans
within_text text more [] h = tt
within_text text more (s ∷ spans) h = (record { ordered = h.0.ordered; inside = omega (arith, h.0.inside, length-append text more) }, within_text text more spans h.1)

pub names_push : (text : Bytes) (arrays : List ℕ) (spans : List KeyRange) (a : ℕ) (s : KeyRange) → length arrays ≡ length spans → keys_of text (arrays ++ a ∷ []) (spans ++ s ∷ []) ≡ keys_of text arrays spans ++ array_key a (slice_range text s.start s.end) ∷ []
names_push text [] [] a s e = refl
names_push text [] (x ∷ spans) a s e = absurd (omega (arith, e))
names_push text (b ∷ arrays) [] a s e = absurd (omega (arith, e))
names_push text (b ∷ arrays) (x ∷ spans) a s e = ap (λ (keys : List ArrayKey). array_key b (slice_range text x.start x.end) ∷ keys) (names_push text arrays spans a s (omega (arith, e)))

within_push : (text : Bytes) (spans : List KeyRange) (s : KeyRange) → AreWithin text spans → IsWithin text s → AreWithin text (spans ++ s ∷ [])
within_push text [] s h w = (w, tt)
within_push text (x ∷ spans) s h w = (h.0, within_push text spans s h.1 w)

new_key : (text key : Bytes) → slice_range (text ++ key) (length text) (length (text ++ key)) ≡ key
new_key text key =
    ap (take (length (text ++ key) - length text)) (drop_at text key (length text) refl)
    ∙ take_all (length (text ++ key) - length text) key (omega (arith, length-append text key))

-- the keys with one more
pub named_more : (text key : Bytes) (arrays : List ℕ) (spans : List KeyRange) (a : ℕ) (s : KeyRange) → s.start ≡ length text → s.end ≡ length (text ++ key) → AreWithin text spans → length arrays ≡ length spans →
    keys_of (text ++ key) (arrays ++ a ∷ []) (spans ++ s ∷ []) ≡ keys_of text arrays spans ++ array_key a key ∷ []
named_more text key arrays spans a s p q h e =
    names_push (text ++ key) arrays spans a s e
    ∙ (ap (λ (keys : List ArrayKey). keys ++ array_key a (slice_range (text ++ key) s.start s.end) ∷ []) (names_text text key arrays spans h)
    ∙ ap (λ (k : Bytes). keys_of text arrays spans ++ array_key a k ∷ []) (rw (p, q) (new_key text key)))

pub AreLaid-more : (basis : ℕ) (text key : Bytes) (hashes arrays : List ℕ) (spans : List KeyRange) (a h : ℕ) (s : KeyRange) → s.start ≡ length text → s.end ≡ length (text ++ key) → h ≡ hash_of basis a key → AreLaid basis text spans hashes arrays →
    AreLaid basis (text ++ key) (spans ++ s ∷ []) (hashes ++ h ∷ []) (arrays ++ a ∷ [])
AreLaid-more basis text key hashes arrays spans a h s p q is n = record {
  within = within_push (text ++ key) spans s (within_text text key spans n.within) (record { ordered = omega (arith, p, q, length-append text key); inside = omega (arith, q) });
  arrays_size = omega (arith, n.arrays_size, length-append arrays (a ∷ []), length-append spans (s ∷ []));
  hashed =
      let keys : keys_of (text ++ key) (arrays ++ a ∷ []) (spans ++ s ∷ []) ≡ keys_of text arrays spans ++ array_key a key ∷ [] = named_more text key arrays spans a s p q n.within n.arrays_size in
      let more : hashes_of basis (keys_of text arrays spans ++ array_key a key ∷ []) ≡ hashes_of basis (keys_of text arrays spans) ++ hash_of basis a key ∷ [] = map-append (λ (entry : ArrayKey). hash_of basis entry.array entry.key) (keys_of text arrays spans) (array_key a key ∷ []) in
      rw (keys, more, n.hashed, is) refl;
}

-- a text that grew alone
pub AreLaid-text : (basis : ℕ) (text key : Bytes) (hashes arrays : List ℕ) (spans : List KeyRange) → AreLaid basis text spans hashes arrays → AreLaid basis (text ++ key) spans hashes arrays
AreLaid-text basis text key hashes arrays spans n = record {
  within = within_text text key spans n.within;
  arrays_size = n.arrays_size;
  hashed = n.hashed ∙ ap (hashes_of basis) (sym (names_text text key arrays spans n.within));
}

pub array_of : (text : Bytes) (arrays : List ℕ) (spans : List KeyRange) (j : ℕ) (entry : ArrayKey) → length arrays ≡ length spans → slice_get (keys_of text arrays spans) j ≡ Some entry → slice_index arrays j ≡ entry.array
array_of text arrays spans j entry e h =
    let inside : j < length spans = omega (arith, slice_get_within (keys_of text arrays spans) j entry h, names_length text arrays spans e) in
    ap (λ (x : ArrayKey). x.array) (same_Some _ _ (sym (name_at text arrays spans j (record { start = 0; end = 0 }) e inside) ∙ h))

-- from arrays' numbers to keys
pub last_of : (text : Bytes) (arrays : List ℕ) (spans : List KeyRange) (n array : ℕ) (at : Option ℕ) → length arrays ≡ length spans → n ≤ length spans → IsNearest arrays n array at → IsLastOf array (keys_of text arrays spans) n at
last_of text arrays spans n array None e le h = λ j entry lt is same. h j lt (array_of text arrays spans j entry e is ∙ same)
last_of text arrays spans n array (Some i) e le h = (
  h.0,
  λ entry is. sym (array_of text arrays spans i entry e is) ∙ h.1,
  λ j entry lt less is same. h.2 j lt less (array_of text arrays spans j entry e is ∙ same),
)

-- the key of an entry that is there
pub key_of : (text : Bytes) (arrays : List ℕ) (spans : List KeyRange) (j : ℕ) (entry : ArrayKey) (d : KeyRange) → length arrays ≡ length spans → slice_get (keys_of text arrays spans) j ≡ Some entry → slice_range text (get_or spans j d).start (get_or spans j d).end ≡ entry.key
key_of text arrays spans j entry d e h =
    let inside : j < length spans = omega (arith, slice_get_within (keys_of text arrays spans) j entry h, names_length text arrays spans e) in
    ap (λ (x : ArrayKey). x.key) (same_Some _ _ (sym (name_at text arrays spans j d e inside) ∙ h))

-- the hash of an entry that is there
pub hash_at : (basis : ℕ) (text : Bytes) (hashes arrays : List ℕ) (spans : List KeyRange) (j : ℕ) (entry : ArrayKey) → AreLaid basis text spans hashes arrays → slice_get (keys_of text arrays spans) j ≡ Some entry → slice_index hashes j ≡ hash_of basis entry.array entry.key
hash_at basis text hashes arrays spans j entry n h =
    let keys : List ArrayKey = keys_of text arrays spans in
    let inside : j < length keys = slice_get_within keys j entry h in
    ap (λ (hs : List ℕ). slice_index hs j) n.hashed
    ∙ (get_or-map (λ (x : ArrayKey). hash_of basis x.array x.key) keys j entry 0 inside
    ∙ ap (λ (x : ArrayKey). hash_of basis x.array x.key) (get_or_from_slice_get keys j entry entry h))

-- a search goes on to the nearest entry with the hash
search_on : (basis : ℕ) (keys : List ArrayKey) (hashes : List ℕ) (entry : ArrayKey) (n : ℕ) (at : Option ℕ) → n ≤ length hashes → ((j : ℕ) → n ≤ j → slice_get keys j ≢ Some entry) → ((j : ℕ) → slice_get keys j ≡ Some entry → slice_index hashes j ≡ hash_of basis entry.array entry.key) →
    IsNearest hashes n (hash_of basis entry.array entry.key) at → IsSearching basis keys hashes entry at
search_on basis keys hashes entry n None le past hashed h = record {
  within = omega arith;
  here = λ i e. absurd (none-some i e);
  none = λ j after. elim (cases_lt j n) [ inl lt ↦ λ is. h j lt (hashed j is) | inr ge ↦ past j ge ];
}
search_on basis keys hashes entry n (Some i) le past hashed h = record {
  within = omega (arith, h.0);
  here = λ k e. ap (slice_index hashes) (sym (same_Some i k e)) ∙ h.1;
  none = λ j after. elim (cases_lt j n) [ inl lt ↦ λ is. h.2 j after lt (hashed j is) | inr ge ↦ past j ge ];
}

hashes_length : (basis : ℕ) (text : Bytes) (hashes arrays : List ℕ) (spans : List KeyRange) → AreLaid basis text spans hashes arrays → length hashes ≡ length (keys_of text arrays spans)
hashes_length basis text hashes arrays spans n = ap length n.hashed ∙ length-map (keys_of text arrays spans) (λ (x : ArrayKey). hash_of basis x.array x.key)

pub search_begins : (basis : ℕ) (text : Bytes) (hashes arrays : List ℕ) (spans : List KeyRange) (array : ℕ) (key : Bytes) (h : ℕ) (at : Option ℕ) → h ≡ hash_of basis array key → AreLaid basis text spans hashes arrays → IsNearest hashes (length hashes) h at →
    IsSearching basis (keys_of text arrays spans) hashes (array_key array key) at
search_begins basis text hashes arrays spans array key h at is n near =
    let keys : List ArrayKey = keys_of text arrays spans in
    search_on basis keys hashes (array_key array key) (length hashes) at (omega arith)
    (λ j ge e. absurd (omega (arith, ge, slice_get_within keys j (array_key array key) e, hashes_length basis text hashes arrays spans n)))
    (λ j e. hash_at basis text hashes arrays spans j (array_key array key) n e)
    (rw is at near)

pub search_next : (basis : ℕ) (text : Bytes) (hashes arrays : List ℕ) (spans : List KeyRange) (array : ℕ) (key : Bytes) (i : ℕ) (here at : Option ℕ) → here ≡ Some i → AreLaid basis text spans hashes arrays → IsSearching basis (keys_of text arrays spans) hashes (array_key array key) here →
    (slice_get (keys_of text arrays spans) i ≡ Some (array_key array key) → ⊥) → IsNearest hashes i (slice_index hashes i) at → IsSearching basis (keys_of text arrays spans) hashes (array_key array key) at
search_next basis text hashes arrays spans array key i here at is n s ne near =
    let keys : List ArrayKey = keys_of text arrays spans in
    let t : IsSearching basis keys hashes (array_key array key) (Some i) = rw is at s in
    search_on basis keys hashes (array_key array key) i at (omega (arith, t.within))
    (λ j ge. elim (cases_eq j i) [
      | inl e ↦ λ q. ne (ap (slice_get keys) (sym e) ∙ q)
      | inr d ↦ t.none j (omega (arith, ge, d))
    ])
    (λ j e. hash_at basis text hashes arrays spans j (array_key array key) n e)
    (rw (t.here i refl) at near)

pub search_within : (basis : ℕ) (text : Bytes) (hashes arrays : List ℕ) (spans : List KeyRange) (entry : ArrayKey) (i : ℕ) (here : Option ℕ) → here ≡ Some i → AreLaid basis text spans hashes arrays → IsSearching basis (keys_of text arrays spans) hashes entry here → i < length spans
search_within basis text hashes arrays spans entry i here is n s =
    let t : IsSearching basis (keys_of text arrays spans) hashes entry (Some i) = rw is at s in
    omega (arith, t.within, hashes_length basis text hashes arrays spans n, names_length text arrays spans n.arrays_size)

-- an entry is there where its array and its key are
pub named_if : (text : Bytes) (arrays : List ℕ) (spans : List KeyRange) (i array : ℕ) (key : Bytes) (d : KeyRange) → length arrays ≡ length spans → i < length spans → slice_index arrays i ≡ array → slice_range text (get_or spans i d).start (get_or spans i d).end ≡ key →
    slice_get (keys_of text arrays spans) i ≡ Some (array_key array key)
named_if text arrays spans i array key d e lt is same =
    name_at text arrays spans i d e lt ∙ (ap (λ a. Some (array_key a (slice_range text (get_or spans i d).start (get_or spans i d).end))) is ∙ ap (λ (k : Bytes). Some (array_key array k)) same)
