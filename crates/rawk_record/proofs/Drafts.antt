-- Fields that are added to a record in the making.
use Rattle.std.proofs.Common.{◌≡◌, ◌≤◌, ◌<◌, ◌+◌, ◌-◌, ℕ, zero, suc, Bool, true, cond, List, [], ◌∷◌, Option, None, Some, length, ◌++◌, take, drop, get_or, slice_range, nat_lt, arith, sym, ◌∙◌, ap, refl, map, max, replicate, inl, inr, append_assoc}
use Rattle.std.proofs.lemmas.List.{length-append, append-nil, drop-append-le, take-append-le, drop_at, take_all, take_more, length-drop, length-take, length-replicate, length-map, map_push, drop-drop, set_split}
use Rattle.std.proofs.Math.Seq.{take-add}
use Rattle.std.proofs.lemmas.Grind.{replicate_next}
use Rattle.std.proofs.lemmas.Bool.{lt-ltb, cases_lt}
use Rattle.std.proofs.lemmas.List.Elements.{All-head, All-tail}
use Rattle.rawk_value.specs.Values.{Bytes, text_of}
use Rattle.rawk_value.specs.declared.value.Value.{Value}
use Rattle.rawk_value.specs.declared.value.Value.TheVariants.{Uninitialized, Input}
use Rattle.rawk_pieces.specs.Laws.{AllInRange-push}
use Rattle.rawk_pieces.specs.Pieces.{IsInRange, AllInRange}
use Rattle.rawk_record.specs.Shown.{values, piece_value}
use Rattle.rawk_record.specs.Changed.{joined, resized, with_value}
use Rattle.rawk_record.specs.Drafts.{values_of, with_ahead, IsDraftOf, IsKept, IsOwn}
use Rattle.rawk_pieces.specs.declared.pieces.Piece.{Piece}
use Rattle.rawk_record.specs.declared.parts.Parts.{Parts}
use Rattle.rawk_record.proofs.Values.{length-values}

-- a field behind those that there are, without a value of its own and with one
values-none : (text : List ℕ) (pieces : List Piece) (kept : List (Option Value)) (piece : Piece) → length kept ≤ length pieces → values text (pieces ++ piece ∷ []) kept ≡ values text pieces kept ++ piece_value text piece None ∷ []
values-none text [] [] piece h = refl
values-none text [] (k ∷ ks) piece h = absurd (omega arith)
values-none text (p ∷ ps) [] piece h = ap (λ (x : List Value). piece_value text p None ∷ x) (values-none text ps [] piece (omega arith))
values-none text (p ∷ ps) (k ∷ ks) piece h = ap (λ (x : List Value). piece_value text p k ∷ x) (values-none text ps ks piece (omega arith))

values-some : (text : List ℕ) (pieces : List Piece) (kept : List (Option Value)) (n : ℕ) (piece : Piece) (v : Value) → length kept + n ≡ length pieces → values text (pieces ++ piece ∷ []) (kept ++ (replicate n None ++ Some v ∷ [])) ≡ values text pieces kept ++ v ∷ []
values-some text [] [] zero piece v h = refl
values-some text [] [] (suc n) piece v h = absurd (omega arith)
values-some text [] (k ∷ ks) n piece v h = absurd (omega arith)
values-some text (p ∷ ps) [] zero piece v h = absurd (omega arith)
values-some text (p ∷ ps) [] (suc n) piece v h = ap (λ (x : List Value). piece_value text p None ∷ x) (values-some text ps [] n piece v (omega arith))
values-some text (p ∷ ps) (k ∷ ks) n piece v h = ap (λ (x : List Value). piece_value text p k ∷ x) (values-some text ps ks n piece v (omega arith))

pub kept-none : (count : ℕ) (kept : List (Option Value)) (own : Option Value) → own ≡ None → length kept ≤ count → IsKept count own kept kept
kept-none count kept own is h = λ text pieces piece e. values-none text pieces kept piece (omega (arith, e)) ∙ ap (λ (o : Option Value). values text pieces kept ++ piece_value text piece o ∷ []) (sym is)

pub kept-some : (count : ℕ) (kept new : List (Option Value)) (n : ℕ) (v : Value) (own : Option Value) → own ≡ Some v → length kept + n ≡ count → new ≡ kept ++ (replicate n None ++ Some v ∷ []) → IsKept count own kept new
kept-some count kept new n v own is h all = λ text pieces piece e.
    ap (values text (pieces ++ piece ∷ [])) all ∙ (values-some text pieces kept n piece v (h ∙ sym e) ∙ ap (λ (o : Option Value). values text pieces kept ++ piece_value text piece o ∷ []) (sym is))

-- a place in a text stays when the text grows
slice_range-grown : (text more : List ℕ) (start end : ℕ) → start ≤ end → end ≤ length text → slice_range (text ++ more) start end ≡ slice_range text start end
slice_range-grown text more start end low high =
    let l : start ≤ length text = omega arith in
    let m : end - start ≤ length (drop start text) = omega (arith, length-drop start text) in
    ap (take (end - start)) (drop-append-le start text more l) ∙ take-append-le (end - start) (drop start text) more m

piece_value-grown : (text more : List ℕ) (piece : Piece) (own : Option Value) → IsInRange text piece → piece_value (text ++ more) piece own ≡ piece_value text piece own
piece_value-grown text more piece None h = ap Input (slice_range-grown text more piece.start piece.end h.0 h.1)
piece_value-grown text more piece (Some v) h = refl

values-grown : (text more : List ℕ) (pieces : List Piece) (kept : List (Option Value)) → AllInRange text pieces → values (text ++ more) pieces kept ≡ values text pieces kept
values-grown text more [] kept h = refl
values-grown text more (p ∷ ps) [] h = ap (λ (x : Value). x ∷ values (text ++ more) ps []) (piece_value-grown text more p None (All-head (IsInRange text) p ps h)) ∙ ap (λ (x : List Value). piece_value text p None ∷ x) (values-grown text more ps [] (All-tail (IsInRange text) p ps h))
values-grown text more (p ∷ ps) (k ∷ ks) h = ap (λ (x : Value). x ∷ values (text ++ more) ps ks) (piece_value-grown text more p k (All-head (IsInRange text) p ps h)) ∙ ap (λ (x : List Value). piece_value text p k ∷ x) (values-grown text more ps ks (All-tail (IsInRange text) p ps h))

-- the bytes at the end of a text
slice_range-end : (text more : List ℕ) (n : ℕ) → n ≡ length (text ++ more) → slice_range (text ++ more) (length text) n ≡ more
slice_range-end text more n e =
    let l : length more ≤ n - length text = omega (arith, length-append text more) in
    ap (take (n - length text)) (drop_at text more (length text) refl) ∙ take_all (n - length text) more l

piece_value-end : (text more : List ℕ) (n : ℕ) (v : Value) (own : Option Value) → n ≡ length (text ++ more) → more ≡ text_of v → IsOwn v own → piece_value (text ++ more) (record { start = length text; end = n }) own ≡ v
piece_value-end text more n v None e m k = ap Input (slice_range-end text more n e ∙ m) ∙ sym k
piece_value-end text more n v (Some w) e m k = k

-- texts with one more
joined-push : (separator first : Bytes) (texts : List Bytes) (more : Bytes) → joined separator (first ∷ texts ++ more ∷ []) ≡ joined separator (first ∷ texts) ++ (separator ++ more)
joined-push separator first [] more = append_assoc first separator more
joined-push separator first (next ∷ texts) more = ap (λ (x : Bytes). (first ++ separator) ++ x) (joined-push separator next texts more) ∙ sym (append_assoc (first ++ separator) (joined separator (next ∷ texts)) (separator ++ more))

joined-more : (separator : Bytes) (texts : List Bytes) (more : Bytes) → joined separator (texts ++ more ∷ []) ≡ joined separator texts ++ (cond (nat_lt 0 (length texts)) separator [] ++ more)
joined-more separator [] more = refl
joined-more separator (first ∷ texts) more =
    let t : nat_lt 0 (suc (length texts)) ≡ true = lt-ltb _ _ (omega arith) in
    joined-push separator first texts more ∙ ap (λ b. joined separator (first ∷ texts) ++ (cond b separator [] ++ more)) (sym t)

-- one field more, behind what stands there
module _ (separator text spaced grown : Bytes) (pieces new_pieces : List Piece) (kept new_kept : List (Option Value)) (n start end : ℕ) (v : Value) (own : Option Value) (draft : IsDraftOf separator text pieces kept) (count : n ≡ length pieces)
    (sep : spaced ≡ text ++ cond (nat_lt 0 n) separator []) (more : grown ≡ spaced ++ text_of v) (owns : IsOwn v own) (from : start ≡ length spaced) (to : end ≡ length grown)
    (pushed : new_pieces ≡ pieces ++ record { start = start; end = end } ∷ []) (keeps : IsKept (length pieces) own kept new_kept) (aligns : length new_kept ≤ length pieces + 1) where
  tail : Bytes
  tail = cond (nat_lt 0 n) separator [] ++ text_of v

  grown-is : grown ≡ text ++ tail
  unfolding tail
  grown-is = more ∙ (ap (λ (x : Bytes). x ++ text_of v) sep ∙ append_assoc text _ _)

  last-is : piece_value grown (record { start = start; end = end }) own ≡ v
  last-is =
      let e : end ≡ length (spaced ++ text_of v) = to ∙ ap length more in
      ap (λ (x : Bytes). piece_value x (record { start = start; end = end }) own) more
      ∙ (ap (λ k. piece_value (spaced ++ text_of v) (record { start = k; end = end }) own) from
      ∙ piece_value-end spaced (text_of v) end v own e refl owns)

  pub more-fields : values grown new_pieces new_kept ≡ values text pieces kept ++ v ∷ []
  more-fields =
      ap (λ (x : List Piece). values grown x new_kept) pushed
      ∙ (keeps grown pieces (record { start = start; end = end }) refl
      ∙ (ap (λ (x : Value). values grown pieces kept ++ x ∷ []) last-is
      ∙ ap (λ (x : List Value). x ++ v ∷ []) (ap (λ (x : Bytes). values x pieces kept) grown-is ∙ values-grown text tail pieces kept draft.placed)))

  more-text : grown ≡ joined separator (map text_of (values grown new_pieces new_kept))
  unfolding tail
  more-text =
      let texts : List Bytes = map text_of (values text pieces kept) in
      let len : n ≡ length texts = count ∙ sym (length-map (values text pieces kept) text_of ∙ length-values text pieces kept) in
      grown-is ∙ (ap (λ (x : Bytes). x ++ tail) draft.text ∙ (ap (λ k. joined separator texts ++ (cond (nat_lt 0 k) separator [] ++ text_of v)) len
      ∙ (sym (joined-more separator texts (text_of v)) ∙ ap (joined separator) (sym (ap (map text_of) more-fields ∙ map_push text_of (values text pieces kept) v)))))

  more-placed : AllInRange grown new_pieces
  more-placed =
      let g : length grown ≡ length spaced + length (text_of v) = ap length more ∙ length-append spaced (text_of v) in
      let l : length spaced ≡ length text + length (cond (nat_lt 0 n) separator []) = ap length sep ∙ length-append text (cond (nat_lt 0 n) separator []) in
      let wide : AllInRange grown pieces = λ k d h. let in_old = draft.placed k d h in (in_old.0, omega (arith, in_old.1)) in
      AllInRange-push grown pieces new_pieces start end pushed wide (omega arith) (omega arith)

  pub more-draft : IsDraftOf separator grown new_pieces new_kept
  more-draft = record {
    aligned = omega (arith, aligns, ap length pushed, length-append pieces (record { start = start; end = end } ∷ []));
    placed = more-placed;
    text = more-text;
  }

  -- both
  pub more-both : IsDraftOf separator grown new_pieces new_kept × (values grown new_pieces new_kept ≡ values text pieces kept ++ v ∷ [])
  more-both = (more-draft, more-fields)

-- two runs of a list, one behind the other
slice_range-join : (xs : List ℕ) (a m b : ℕ) → a ≤ m → m ≤ b → slice_range xs a b ≡ slice_range xs a m ++ slice_range xs m b
slice_range-join xs a m b p q =
    let e : b - a ≡ (m - a) + (b - m) = omega arith in
    let at : a + (m - a) ≡ m = omega arith in
    ap (λ n. take n (drop a xs)) e ∙ (take-add (m - a) (b - m) (drop a xs) ∙ ap (λ (l : List ℕ). slice_range xs a m ++ take (b - m) l) (drop-drop (m - a) a xs ∙ ap (λ n. drop n xs) at))

pub length-slice_range : (xs : List ℕ) (a b : ℕ) → b ≤ length xs → length (slice_range xs a b) ≡ b - a
length-slice_range xs a b h = omega (arith, length-take (b - a) (drop a xs), length-drop a xs)

pub length-with_ahead : (text from : List ℕ) (ahead : Piece) → IsInRange from ahead → length (with_ahead text from ahead) ≡ length text + (ahead.end - ahead.start)
length-with_ahead text from ahead h = length-append text (slice_range from ahead.start ahead.end) ∙ ap (λ n. length text + n) (length-slice_range from ahead.start ahead.end h.1)

-- a piece behind the bytes ahead and the separator
pub ahead-more : (text from separator : Bytes) (needed : Bool) (ahead piece : Piece) → needed ≡ true → ahead.start ≤ ahead.end → piece.start ≤ piece.end → ahead.end + length separator ≡ piece.start → slice_range from ahead.end piece.start ≡ separator
    → with_ahead text from (record { start = ahead.start; end = piece.end }) ≡ (with_ahead text from ahead ++ cond needed separator []) ++ slice_range from piece.start piece.end
ahead-more text from separator needed ahead piece n a p at is =
    let first : Bytes = slice_range from ahead.start ahead.end in
    let last : Bytes = slice_range from piece.start piece.end in
    ap (λ (x : Bytes). text ++ x) (slice_range-join from ahead.start ahead.end piece.end a (omega arith)
    ∙ ap (λ (x : Bytes). first ++ x) (slice_range-join from ahead.end piece.start piece.end (omega arith) p ∙ ap (λ (x : Bytes). x ++ last) is))
    ∙ (sym (append_assoc text first (separator ++ last))
    ∙ (sym (append_assoc (text ++ first) separator last)
    ∙ ap (λ b. ((text ++ first) ++ cond b separator []) ++ last) (sym n)))

pub empty-fields : (parts : Parts) → parts.pieces.items ≡ [] → values_of parts ≡ []
empty-fields parts pieces = ap (λ (x : List Piece). values parts.text.items x parts.kept.items) pieces

past : (xs : List Value) (k : ℕ) (d : Value) → length xs ≤ k → get_or xs k d ≡ d
past [] k d h = refl
past (x ∷ xs) zero d h = absurd (omega arith)
past (x ∷ xs) (suc k) d h = past xs k d (omega arith)

pub length-resized : (n : ℕ) (fields : List Value) → length (resized n fields) ≡ n
length-resized n fields =
    length-append (take n fields) (replicate (n - length fields) Uninitialized) ∙ omega (arith, length-take n fields, length-replicate (n - length fields) Uninitialized)

resized-more : (n : ℕ) (fields : List Value) → resized (n + 1) fields ≡ resized n fields ++ get_or fields n Uninitialized ∷ []
resized-more n fields =
    elim (cases_lt n (length fields)) [
      | inl l ↦
          let now : n - length fields ≡ 0 = omega arith in
          let then : n + 1 - length fields ≡ 0 = omega arith in
          ap (λ k. take (n + 1) fields ++ replicate k Uninitialized) then
          ∙ (append-nil (take (n + 1) fields)
          ∙ (take_more fields n Uninitialized l
          ∙ ap (λ (x : List Value). x ++ get_or fields n Uninitialized ∷ []) (sym (ap (λ k. take n fields ++ replicate k Uninitialized) now ∙ append-nil (take n fields)))))
      | inr g ↦
          let then : n + 1 - length fields ≡ n - length fields + 1 = omega arith in
          let all : take n fields ≡ fields = take_all n fields g in
          let all_more : take (n + 1) fields ≡ fields = take_all (n + 1) fields (omega arith) in
          ap (λ (x : List Value). x ++ replicate (n + 1 - length fields) Uninitialized) (all_more ∙ sym all)
          ∙ (ap (λ k. take n fields ++ replicate k Uninitialized) then
          ∙ (ap (λ (x : List Value). take n fields ++ x) (replicate_next (n - length fields) Uninitialized)
          ∙ (sym (append_assoc (take n fields) (replicate (n - length fields) Uninitialized) (Uninitialized ∷ []))
          ∙ ap (λ (x : Value). resized n fields ++ x ∷ []) (sym (past fields n Uninitialized g)))))
    ]

-- the fields from a place on, with one more
pub rest-more : (from n : ℕ) (fields : List Value) → from ≤ n → drop from (resized (n + 1) fields) ≡ drop from (resized n fields) ++ get_or fields n Uninitialized ∷ []
rest-more from n fields low =
    ap (drop from) (resized-more n fields) ∙ drop-append-le from (resized n fields) (get_or fields n Uninitialized ∷ []) (omega (arith, length-resized n fields))

take-resized-add : (n k : ℕ) (fields : List Value) → take n (resized (n + k) fields) ≡ resized n fields
take-resized-add n zero fields = let e : n + 0 ≡ n = omega arith in ap (λ m. take n (resized m fields)) e ∙ take_all n (resized n fields) (omega (arith, length-resized n fields))
take-resized-add n (suc k) fields =
    let e : n + suc k ≡ n + k + 1 = omega arith in
    ap (λ m. take n (resized m fields)) e
    ∙ (ap (take n) (resized-more (n + k) fields)
    ∙ (take-append-le n (resized (n + k) fields) (get_or fields (n + k) Uninitialized ∷ []) (omega (arith, length-resized (n + k) fields)) ∙ take-resized-add n k fields))

-- the fields before the one that is assigned, that one, and those behind it
pub with_value-is : (number : ℕ) (v : Value) (fields : List Value) → 0 < number → with_value number v fields ≡ (resized (number - 1) fields ++ v ∷ []) ++ drop number (resized (max (length fields) number) fields)
with_value-is number v fields low =
    let count = max (length fields) number in
    let all : List Value = resized count fields in
    let inside : number - 1 < length all = omega (arith, length-resized count fields) in
    let next : suc (number - 1) ≡ number = omega arith in
    let split : number - 1 + (count - (number - 1)) ≡ count = omega arith in
    let front : take (number - 1) all ≡ resized (number - 1) fields = ap (λ m. take (number - 1) (resized m fields)) (sym split) ∙ take-resized-add (number - 1) (count - (number - 1)) fields in
    set_split all (number - 1) v inside
    ∙ (ap (λ k. take (number - 1) all ++ v ∷ drop k all) next
    ∙ (ap (λ (x : List Value). x ++ v ∷ drop number all) front ∙ sym (append_assoc (resized (number - 1) fields) (v ∷ []) (drop number all))))
