-- Putting back keeps the number of slots, and works over slots that were added.
use Rattle.std.specs.Prelude.{◌≡◌, ℕ, ◌-◌, ◌≤◌, List, [], ◌∷◌, ◌++◌, length, slice_index, slice_set, refl}
use Rattle.std.proofs.Common.{ap, sym, ◌∙◌, arith, suc, zero}
use Rattle.std.proofs.lemmas.List.{length-append, length-set, set-append_left}
use Rattle.rawk_slots.specs.declared.saved.Saved.{Saved}
use Rattle.rawk_slots.specs.Back.{back, places, AreBelow, AreDistinctFrom, HasDistinctPlaces}

pub length-back : {T : Type 0} (xs : List T) (es : List (Saved T)) → length (back xs es) ≡ length xs
length-back xs [] = refl
length-back xs (e ∷ es) = length-set (back xs es) e.place e.old ∙ length-back xs es

pub back_grow : {T : Type 0} (xs : List T) (es : List (Saved T)) (ys : List T) → AreBelow (length xs) es → back (xs ++ ys) es ≡ back xs es ++ ys
back_grow xs [] ys h = refl
back_grow {T} xs (e ∷ es) ys h =
    ap (λ (zs : List T). slice_set zs e.place e.old) (back_grow xs es ys h.1)
    ∙ set-append_left (back xs es) ys e.place e.old (let k : length (back xs es) ≡ length xs = length-back xs es in rw k h.0)

pub AreBelow-more : {T : Type 0} (n m : ℕ) (es : List (Saved T)) → n ≤ m → AreBelow n es → AreBelow m es
AreBelow-more n m [] le h = tt
AreBelow-more n m (e ∷ es) le h = (omega (arith, h.0), AreBelow-more n m es le h.1)

pub length-places : {T : Type 0} (xs : List (Saved T)) → length (places xs) ≡ length xs
length-places [] = refl
length-places (x ∷ xs) = ap suc (length-places xs)

place_behind : {T : Type 0} (xs ys : List (Saved T)) (i : ℕ) → length xs ≤ i → slice_index (places (xs ++ ys)) i ≡ slice_index (places ys) (i - length xs)
place_behind [] ys i le = let e : i - 0 ≡ i = omega arith in ap (λ k. slice_index (places ys) k) (sym e)
place_behind (x ∷ xs) ys zero le = absurd (omega arith)
place_behind (x ∷ xs) ys (suc i) le = let e : suc i - length (x ∷ xs) ≡ i - length xs = omega arith in place_behind xs ys i (omega arith) ∙ ap (λ k. slice_index (places ys) k) (sym e)

-- places that are distinct are so behind a list
pub distinct_behind : {T : Type 0} (xs ys : List (Saved T)) → HasDistinctPlaces ys → AreDistinctFrom (length xs) (xs ++ ys)
distinct_behind xs ys h i j le le2 p q e =
    let size = length-places (xs ++ ys) in
    let other = length-places ys in
    let sum = length-append xs ys in
    let same : i - length xs ≡ j - length xs = h (i - length xs) (j - length xs) (omega arith) (omega arith) (omega (arith, p, le, size, other, sum)) (omega (arith, q, le2, size, other, sum))
    (sym (place_behind xs ys i le) ∙ (e ∙ place_behind xs ys j le2)) in
    omega (arith, same, le, le2)
