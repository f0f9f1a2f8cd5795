-- The values of fields.
use Rattle.std.proofs.Common.{◌≡◌, ◌≤◌, ◌<◌, ℕ, zero, suc, List, [], ◌∷◌, Option, None, Some, length, get_or, slice_get, slice_range, map, unwrap_or, arith, sym, ◌∙◌, ap, refl, inl, inr}
use Rattle.std.proofs.lemmas.Option.{slice_get_cases, slice_get-get_or, unwrap_or-slice_get}
use Rattle.rawk_value.specs.declared.value.Value.{Value}
use Rattle.rawk_value.specs.declared.value.Value.TheVariants.{Uninitialized, Input}
use Rattle.rawk_pieces.specs.declared.pieces.Piece.{Piece}
use Rattle.rawk_pieces.specs.Pieces.{texts}
use Rattle.rawk_record.specs.Shown.{values, piece_value}

-- fields that were split have no values of their own
values-split : (text : List ℕ) (pieces : List Piece) → values text pieces [] ≡ map Input (texts text pieces)
values-split text [] = refl
values-split text (piece ∷ pieces) = ap (λ (x : List Value). Input (slice_range text piece.start piece.end) ∷ x) (values-split text pieces)

pub length-values : (text : List ℕ) (pieces : List Piece) (kept : List (Option Value)) → length (values text pieces kept) ≡ length pieces
length-values text [] kept = refl
length-values text (piece ∷ pieces) [] = ap suc (length-values text pieces [])
length-values text (piece ∷ pieces) (own ∷ kept) = ap suc (length-values text pieces kept)

-- one field
get_or-values : (text : List ℕ) (pieces : List Piece) (kept : List (Option Value)) (at : ℕ) (d : Value) (p : Piece) → at < length pieces → get_or (values text pieces kept) at d ≡ piece_value text (get_or pieces at p) (get_or kept at None)
get_or-values text [] kept at d p h = absurd (omega arith)
get_or-values text (piece ∷ pieces) [] zero d p h = refl
get_or-values text (piece ∷ pieces) [] (suc n) d p h = get_or-values text pieces [] n d p (omega arith)
get_or-values text (piece ∷ pieces) (own ∷ kept) zero d p h = refl
get_or-values text (piece ∷ pieces) (own ∷ kept) (suc n) d p h = get_or-values text pieces kept n d p (omega arith)

pub field_kept : (text : List ℕ) (pieces : List Piece) (kept : List (Option Value)) (at : ℕ) (d value : Value) → at < length pieces → Some value ≡ get_or kept at None → get_or (values text pieces kept) at d ≡ value
field_kept text pieces kept at d value h e =
    let p : Piece = record { start = 0; end = 0 } in
    get_or-values text pieces kept at d p h ∙ ap (piece_value text (get_or pieces at p)) (sym e)

pub field_placed : (text lent : List ℕ) (pieces : List Piece) (kept : List (Option Value)) (at : ℕ) (d : Value) (p : Piece) → at < length pieces → None ≡ get_or kept at None → p ≡ get_or pieces at p → lent ≡ text → get_or (values text pieces kept) at d ≡ Input (slice_range lent p.start p.end)
field_placed text lent pieces kept at d p h e q t =
    get_or-values text pieces kept at d p h ∙ (ap (piece_value text (get_or pieces at p)) (sym e) ∙ (ap (λ (x : Piece). piece_value text x None) (sym q) ∙ ap (λ (x : List ℕ). Input (slice_range x p.start p.end)) (sym t)))

-- the values of the pieces that a text was cut into
pub values-cut : (text text' lent : List ℕ) (pieces : List Piece) (kept : List (Option Value)) (fields : List ℕ → List (List ℕ)) → kept ≡ [] → text ≡ text' → lent ≡ text → texts lent pieces ≡ fields lent → values text pieces kept ≡ map Input (fields text')
values-cut text text' lent pieces kept fields none same e cut =
    ap (values text pieces) none ∙ (values-split text pieces ∙ (ap (λ (x : List ℕ). map Input (texts x pieces)) (sym e) ∙ (ap (map Input) cut ∙ ap (λ (x : List ℕ). map Input (fields x)) (e ∙ same))))

get_past : (xs : List Value) (i : ℕ) → length xs ≤ i → None ≡ slice_get xs i
get_past xs i h = elim ((slice_get_cases xs i).1) [ inl w ↦ absurd (omega (arith, w.1)) | inr w ↦ sym w.1 ]

pub get_there : (text : List ℕ) (pieces : List Piece) (kept : List (Option Value)) (fields : List Value) (i : ℕ) (v : Value) → values text pieces kept ≡ fields → i < length pieces → ((d : Value) → get_or (values text pieces kept) i d ≡ v) → Some v ≡ slice_get fields i
get_there text pieces kept fields i v e low is =
    let l : i < length (values text pieces kept) = omega (arith, length-values text pieces kept) in
    sym (ap (λ (x : List Value). slice_get x i) (sym e) ∙ (slice_get-get_or (values text pieces kept) i Uninitialized l ∙ ap Some (is Uninitialized)))

pub get_beyond : (text : List ℕ) (pieces : List Piece) (kept : List (Option Value)) (fields : List Value) (i : ℕ) → values text pieces kept ≡ fields → length pieces ≤ i → None ≡ slice_get fields i
get_beyond text pieces kept fields i e high =
    let l : length (values text pieces kept) ≤ i = omega (arith, length-values text pieces kept) in
    get_past (values text pieces kept) i l ∙ ap (λ (x : List Value). slice_get x i) e

-- the field at a place, or an uninitialised value
pub field_or-is : (xs : List Value) (i j : ℕ) (o : Option Value) → i ≡ j → o ≡ slice_get xs i → get_or xs j Uninitialized ≡ unwrap_or o Uninitialized
field_or-is xs i j o e h = ap (λ k. get_or xs k Uninitialized) (sym e) ∙ (sym (unwrap_or-slice_get xs i Uninitialized) ∙ ap (λ (x : Option Value). unwrap_or x Uninitialized) (sym h))
