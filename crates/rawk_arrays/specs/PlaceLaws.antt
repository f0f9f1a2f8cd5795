-- Where an element's slot stands, and what changes of slots make of the arrays.
use Rattle.std.proofs.Common.{◌≡◌, ◌≢◌, ℕ, suc, zero, ◌+◌, ◌<◌, ◌≤◌, ◌==◌, Bool, true, false, ◌&&◌, cond, append_assoc, ◌-◌, List, [], ◌∷◌, ◌++◌, inl, inr, length, set, replicate, refl, sym, ap, ◌∙◌, arith, slice_get, Option, None, Some, get_or-set_other, get_or-set_same}
use Rattle.std.proofs.lemmas.Bool.{cases_lt, false≢true}
use Rattle.std.proofs.lemmas.Bool.Decides.{Decides-eqb}
use Rattle.std.proofs.lemmas.List.{get_or_past, length-set, length-append, get_or_append_left, get_or-replicate, length-replicate, replicate-append-replicate}
use Rattle.std.proofs.Math.Seq.{get_or-append_right}
use Rattle.std.proofs.lemmas.Option.{same_Some, none-some}
use Rattle.std.proofs.lemmas.Map.Views.{tells_apart}
use Rattle.std.proofs.lemmas.Map.Lookups.{exact_bytes}
use Rattle.std.specs.FinMap.{get, get-empty, get-insert, get-remove, same_map}
use Rattle.std.specs.Ordering.{nat_cmp}
use Rattle.std.specs.Cmp.{eq_by_cmp_equiv}
use Rattle.std.specs.Cmp.Lexicographic.{slice_cmp, nat_list_cmp_total}
use Rattle.rawk_value.specs.Values.{Bytes}
use Rattle.rawk_value.specs.declared.value.Value.{Value}
use Rattle.rawk_slots.specs.Journaled.{Journaled, Longer}
use Rattle.rawk_keys.specs.ArrayKey.{ArrayKey, array_key, IsAbsent}
use Rattle.rawk_arrays.specs.Elements.{Elements, no_elements, put}
use Rattle.rawk_arrays.specs.Place.{same_key, is_here, place}
use Rattle.rawk_arrays.specs.Laid.{AreDistinct, AreLaid, IsLaid, IsCovered, IsSpread, IsPut, elements_of, slot}

pub get-put : (m : Elements) (k : Bytes) (s : Option Value) (q : Bytes) → get (put m k s) q ≡ cond (same_key q k) s (get m q)
get-put m k (Some v) q = get-insert nat_list_cmp_total m k v q
get-put m k None q = get-remove nat_list_cmp_total m k q

slot_here : (b : Bool) (s : Option Value) (slots : List (Option Value)) (p : ℕ) (r : Option Value) → r ≡ slot slots p → cond b s r ≡ slot (s ∷ slots) (cond b 0 (suc p))
slot_here true s slots p r e = refl
slot_here false s slots p r e = e

get_of : (b : Bool) (m : Elements) (k : Bytes) (s : Option Value) (slots : List (Option Value)) (q : Bytes) (p : ℕ) → get m q ≡ slot slots p → get (cond b (put m k s) m) q ≡ slot (s ∷ slots) (cond (b && same_key q k) 0 (suc p))
get_of true m k s slots q p e = get-put m k s q ∙ slot_here (same_key q k) s slots p (get m q) e
get_of false m k s slots q p e = e

-- an element is what stands in the slot of its name
pub get_at : (a : ℕ) (q : Bytes) (index : List ArrayKey) (slots : List (Option Value)) → length slots ≤ length index → get (elements_of a index slots) q ≡ slot slots (place a q index)
get_at a q [] [] le = get-empty (slice_cmp nat_cmp) q
get_at a q [] (s ∷ slots) le = absurd (omega (arith, le))
get_at a q (name ∷ index) [] le = get-empty (slice_cmp nat_cmp) q
get_at a q (name ∷ index) (s ∷ slots) le = get_of (name.array == a) (elements_of a index slots) name.key s slots q (place a q index) (get_at a q index slots (omega (arith, le)))

pub key_is : (q k : Bytes) → same_key q k ≡ true → q ≡ k
key_is q k e = tells_apart exact_bytes q k e

pub key_itself : (k : Bytes) → same_key k k ≡ true
key_itself k = (eq_by_cmp_equiv nat_list_cmp_total).refl k

first_true : (b c : Bool) → b && c ≡ true → b ≡ true
first_true true c e = refl
first_true false c e = e

second_true : (b c : Bool) → b && c ≡ true → c ≡ true
second_true true c e = e
second_true false c e = absurd (false≢true e)

both_true : (b c : Bool) → b ≡ true → c ≡ true → b && c ≡ true
both_true true c p q = q
both_true false c p q = p

here_is : (a : ℕ) (q : Bytes) (name : ArrayKey) → is_here a q name ≡ true → name ≡ array_key a q
here_is a q name e =
    let array : name.array ≡ a = (Decides-eqb name.array a).0 (first_true (name.array == a) (same_key q name.key) e) in
    let key : q ≡ name.key = key_is q name.key (second_true (name.array == a) (same_key q name.key) e) in
    ap (λ n. array_key n name.key) array ∙ ap (λ (k : Bytes). array_key a k) (sym key)

here_itself : (a : ℕ) (q : Bytes) → is_here a q (array_key a q) ≡ true
here_itself a q = both_true (a == a) (same_key q q) ((Decides-eqb a a).1 refl) (key_itself q)

finds_go : (a : ℕ) (q : Bytes) (name : ArrayKey) (index : List ArrayKey) (i : ℕ) (b : Bool) → is_here a q name ≡ b → slice_get (name ∷ index) i ≡ Some (array_key a q) → ((j : ℕ) → slice_get index j ≡ Some (array_key a q) → slice_get index (place a q index) ≡ Some (array_key a q)) →
    slice_get (name ∷ index) (cond b 0 (suc (place a q index))) ≡ Some (array_key a q)
finds_go a q name index i true e h rest = ap (λ (n : ArrayKey). Some n) (here_is a q name e)
finds_go a q name index zero false e h rest = absurd (false≢true (sym e ∙ (ap (is_here a q) (same_Some name (array_key a q) h) ∙ here_itself a q)))
finds_go a q name index (suc j) false e h rest = rest j h

place_finds : (a : ℕ) (q : Bytes) (index : List ArrayKey) (i : ℕ) → slice_get index i ≡ Some (array_key a q) → slice_get index (place a q index) ≡ Some (array_key a q)
place_finds a q [] i h = absurd (none-some (array_key a q) h)
place_finds a q (name ∷ index) i h = finds_go a q name index i (is_here a q name) refl h (λ j k. place_finds a q index j k)

pub place_is : (a : ℕ) (q : Bytes) (index : List ArrayKey) (i : ℕ) → AreDistinct index → slice_get index i ≡ Some (array_key a q) → place a q index ≡ i
place_is a q index i d h = d (place a q index) i (array_key a q) (place_finds a q index i h) h

there_go : (a : ℕ) (q : Bytes) (name : ArrayKey) (index : List ArrayKey) (b : Bool) → is_here a q name ≡ b → cond b 0 (suc (place a q index)) < suc (length index) → (place a q index < length index → slice_get index (place a q index) ≡ Some (array_key a q)) →
    slice_get (name ∷ index) (cond b 0 (suc (place a q index))) ≡ Some (array_key a q)
there_go a q name index true e lt rest = ap (λ (n : ArrayKey). Some n) (here_is a q name e)
there_go a q name index false e lt rest = rest (omega (arith, lt))

pub place_there : (a : ℕ) (q : Bytes) (index : List ArrayKey) → place a q index < length index → slice_get index (place a q index) ≡ Some (array_key a q)
place_there a q [] lt = absurd (omega (arith, lt))
place_there a q (name ∷ index) lt = there_go a q name index (is_here a q name) refl lt (λ l. place_there a q index l)

-- arrays that answer alike at each key are the same
pub elements_same : (b : ℕ) (index more : List ArrayKey) (slots slots2 : List (Option Value)) → length slots ≤ length index → length slots2 ≤ length more → ((q : Bytes) → slot slots2 (place b q more) ≡ slot slots (place b q index)) → elements_of b more slots2 ≡ elements_of b index slots
elements_same b index more slots slots2 le le2 h =
    same_map nat_list_cmp_total exact_bytes (elements_of b more slots2) (elements_of b index slots) (λ q. get_at b q more slots2 le2 ∙ (h q ∙ sym (get_at b q index slots le)))

put_go : (a : ℕ) (q k : Bytes) (v : Option Value) (index : List ArrayKey) (slots : List (Option Value)) (i : ℕ) (b : Bool) → same_key q k ≡ b → AreDistinct index → length slots ≤ length index → slice_get index i ≡ Some (array_key a k) → i < length slots →
    slot (set slots i v) (place a q index) ≡ cond b v (slot slots (place a q index))
put_go a q k v index slots i true e d le h lt =
    let at : place a q index ≡ i = ap (λ (x : Bytes). place a x index) (key_is q k e) ∙ place_is a k index i d h in
    ap (slot (set slots i v)) at ∙ get_or-set_same slots i v None lt
put_go a q k v index slots i false e d le h lt =
    let apart : place a q index ≢ i = λ at.
    let there : slice_get index i ≡ Some (array_key a q) = ap (slice_get index) (sym at) ∙ place_there a q index (omega (arith, at, le, lt)) in
    let same : q ≡ k = ap (λ (n : ArrayKey). n.key) (same_Some (array_key a q) (array_key a k) (sym there ∙ h)) in
    false≢true (sym e ∙ (ap (same_key q) (sym same) ∙ key_itself q)) in
    get_or-set_other slots i (place a q index) v None apart

-- a slot that is written is the element of its name
pub put_at : (a : ℕ) (k : Bytes) (v : Option Value) (index : List ArrayKey) (slots : List (Option Value)) (i : ℕ) → AreDistinct index → length slots ≤ length index → slice_get index i ≡ Some (array_key a k) → i < length slots → IsPut a k v index slots index (set slots i v)
put_at a k v index slots i d le h lt =
    let size : length (set slots i v) ≡ length slots = length-set slots i v in
    let le2 : length (set slots i v) ≤ length index = omega arith in
    record {
      here = same_map nat_list_cmp_total exact_bytes (elements_of a index (set slots i v)) (put (elements_of a index slots) k v) (λ q.
          get_at a q index (set slots i v) le2
          ∙ (put_go a q k v index slots i (same_key q k) refl d le h lt
          ∙ sym (get-put (elements_of a index slots) k v q ∙ ap (cond (same_key q k) v) (get_at a q index slots le))));
      other = λ b ne. elements_same b index index slots (set slots i v) le le2 (λ q.
          get_or-set_other slots i (place b q index) v None (λ at.
          let there : slice_get index i ≡ Some (array_key b q) = ap (slice_get index) (sym at) ∙ place_there b q index (omega (arith, at, le, lt)) in
          ne (ap (λ (n : ArrayKey). n.array) (same_Some (array_key b q) (array_key a k) (sym there ∙ h)))));
    }

nothing_put : (b : Bool) (k : Bytes) → cond b (put no_elements k None) no_elements ≡ no_elements
nothing_put true k = same_map nat_list_cmp_total exact_bytes (put no_elements k None) no_elements (λ q. get-put no_elements k None q ∙ nothing_at (same_key q k) q)
  where
    nothing_at : (c : Bool) (q : Bytes) → cond c None (get no_elements q) ≡ get no_elements q
    nothing_at true q = sym (get-empty (slice_cmp nat_cmp) q)
    nothing_at false q = refl
nothing_put false k = refl

-- empty slots hold no element
empty_slots : (a : ℕ) (index : List ArrayKey) (slots : List (Option Value)) → ((i : ℕ) → slot slots i ≡ None) → elements_of a index slots ≡ no_elements
empty_slots a [] slots h = refl
empty_slots a (name ∷ index) [] h = refl
empty_slots a (name ∷ index) (s ∷ slots) h =
    ap (λ (e : Elements). cond (name.array == a) (put e name.key s) e) (empty_slots a index slots (λ i. h (suc i)))
    ∙ (ap (λ (o : Option Value). cond (name.array == a) (put no_elements name.key o) no_elements) (h 0) ∙ nothing_put (name.array == a) name.key)

same_slots : (a : ℕ) (index more : List ArrayKey) (slots slots2 : List (Option Value)) → length slots ≤ length index → ((i : ℕ) → slot slots2 i ≡ slot slots i) → elements_of a (index ++ more) slots2 ≡ elements_of a index slots
same_slots a [] more [] slots2 le h = empty_slots a more slots2 h
same_slots a [] more (s ∷ slots) slots2 le h = absurd (omega (arith, le))
same_slots a (name ∷ index) more [] slots2 le h = empty_slots a (name ∷ index ++ more) slots2 h
same_slots a (name ∷ index) more (s ∷ slots) [] le h = sym (empty_slots a (name ∷ index) (s ∷ slots) (λ i. sym (h i)))
same_slots a (name ∷ index) more (s ∷ slots) (s2 ∷ slots2) le h =
    ap (λ (e : Elements). cond (name.array == a) (put e name.key s2) e) (same_slots a index more slots slots2 (omega (arith, le)) (λ i. h (suc i)))
    ∙ ap (λ (o : Option Value). cond (name.array == a) (put (elements_of a index slots) name.key o) (elements_of a index slots)) (h 0)

-- added index and empty slots change no array, also where a name was added twice
pub spread_same : (b : ℕ) (index more : List ArrayKey) (slots slots2 : List (Option Value)) → length slots ≤ length index → IsSpread slots slots2 → elements_of b (index ++ more) slots2 ≡ elements_of b index slots
spread_same b index more slots slots2 le s = same_slots b index more slots slots2 le s.same

pub found_slot : (a : ℕ) (q : Bytes) (index : List ArrayKey) (slots : List (Option Value)) (i : ℕ) → IsLaid index slots → slice_get index i ≡ Some (array_key a q) → get (elements_of a index slots) q ≡ slot slots i
found_slot a q index slots i h e = get_at a q index slots h.array_key ∙ ap (slot slots) (place_is a q index i h.distinct e)

pub absent_none : (a : ℕ) (q : Bytes) (index : List ArrayKey) (slots : List (Option Value)) → length slots ≤ length index → IsAbsent (array_key a q) index → get (elements_of a index slots) q ≡ None
absent_none a q index slots le h =
    get_at a q index slots le
    ∙ elim (cases_lt (place a q index) (length index)) [
      | inl lt ↦ absurd (h (place a q index) (place_there a q index lt))
      | inr ge ↦ get_or_past slots (place a q index) None (omega (arith, le, ge))
    ]

-- ---- slots that are added

one_more : (xs ys zs : List (Option Value)) (n : ℕ) → ys ≡ xs ++ replicate n None → zs ≡ ys ++ None ∷ [] → zs ≡ xs ++ replicate (n + 1) None
one_more xs ys zs n e f = f ∙ (ap (λ (ws : List (Option Value)). ws ++ None ∷ []) e ∙ (append_assoc xs (replicate n None) (None ∷ []) ∙ ap (λ (ws : List (Option Value)). xs ++ ws) (replicate-append-replicate n 1 None)))

pub covered_more : (count : ℕ) (old mid new : Journaled (List (Option Value))) → IsCovered count old mid → length mid.now < count → new.now ≡ mid.now ++ None ∷ [] → new.start ≡ mid.start ++ None ∷ [] → IsCovered count old new
covered_more count old mid new h lt now start = record {
  added = h.added + 1;
  now = one_more old.now mid.now new.now h.added h.now now;
  start = one_more old.start mid.start new.start h.added h.start start;
  most = omega (arith, lt, ap length now, length-append mid.now (None ∷ []));
}

pub spread_nones : (xs ys : List (Option Value)) (n : ℕ) → ys ≡ xs ++ replicate n None → IsSpread xs ys
spread_nones xs ys n e = record {
  longer = omega (arith, ap length e, length-append xs (replicate n None));
  same = λ i. ap (λ (zs : List (Option Value)). slot zs i) e ∙ elim (cases_lt i (length xs)) [
    | inl lt ↦ get_or_append_left xs (replicate n None) None i lt
    | inr ge ↦ get_or-append_right xs (replicate n None) i None ge ∙ (nones n (i - length xs) ∙ sym (get_or_past xs i None ge))
  ];
}
  where
    nones : (n i : ℕ) → slot (replicate n None) i ≡ None
    nones n i = elim (cases_lt i n) [
      | inl lt ↦ get_or-replicate n i None None lt
      | inr ge ↦ get_or_past (replicate n None) i None (let k : length (replicate {A = Option Value} n None) ≡ n = length-replicate n None in omega (arith, k))
    ]

pub covered_now : (count : ℕ) (old new : Journaled (List (Option Value))) → IsCovered count old new → IsSpread old.now new.now
covered_now count old new h = spread_nones old.now new.now h.added h.now

pub laid_covered : (count : ℕ) (index names2 : List ArrayKey) (old new : Journaled (List (Option Value))) → AreLaid index old → Longer index names2 → AreDistinct names2 → IsCovered count old new → count ≤ length names2 → AreLaid names2 new
laid_covered count index names2 old new h more d c le = record {
  distinct = d;
  array_key = omega (arith, h.array_key, c.most, le, ap length more.is, length-append index more.more);
  sizes = omega (arith, h.sizes, ap length c.now, ap length c.start, length-append old.now (replicate c.added None), length-append old.start (replicate c.added None));
}

-- a write over added index and slots
pub put_done : (a : ℕ) (k : Bytes) (v : Option Value) (index names2 : List ArrayKey) (slots mid new : List (Option Value)) (i : ℕ) → length slots ≤ length index → Longer index names2 → AreDistinct names2 → length mid ≤ length names2 → IsSpread slots mid →
    slice_get names2 i ≡ Some (array_key a k) → i < length mid → new ≡ set mid i v → IsPut a k v index slots names2 new
put_done a k v index names2 slots mid new i le more d le2 s h lt e =
    let p : IsPut a k v names2 mid names2 (set mid i v) = put_at a k v names2 mid i d le2 h lt in
    let same : (b : ℕ) → elements_of b names2 mid ≡ elements_of b index slots = λ b.
    ap (λ (ns : List ArrayKey). elements_of b ns mid) more.is ∙ spread_same b index more.more slots mid le s in
    record {
      here = ap (elements_of a names2) e ∙ (p.here ∙ ap (λ (m : Elements). put m k v) (same a));
      other = λ b ne. ap (elements_of b names2) e ∙ (p.other b ne ∙ same b);
    }
