-- Stacks that lie in slots.
use Rattle.std.proofs.Common.{◌≡◌, ℕ, ◌+◌, ◌-◌, ◌<◌, ◌≤◌, List, [], ◌∷◌, ◌++◌, get_or, set, length, take, drop, reverse, sym, ap, ◌∙◌, arith, ◌⊎◌, inl, inr}
use Rattle.std.proofs.lemmas.Bool.{cases_lt}
use Rattle.std.proofs.lemmas.List.{take-take, take-append-drop, take-append-le, take_all, drop-take, reverse-reverse, reverse-append, length-reverse, length-drop, length-take-le, drop_at, drop_all, take_more_set, take_more}

-- the newest ones are dropped
pub drop-live : {T : Type 0} (xs : List T) (live n : ℕ) → live ≤ length xs → reverse (take (live - n) xs) ≡ drop n (reverse (take live xs))
drop-live {T} xs live n le =
    let ys : List T = take live xs in
    let size : length ys ≡ live = length-take-le live xs le in
    let first : take (live - n) xs ≡ take (live - n) ys = sym (take-take (live - n) live xs (omega arith)) in
    elim (cases_lt live n) [
      | inl lt ↦
          let none : live - n ≡ 0 = omega arith in
          ap (λ k. reverse (take k xs)) none ∙ sym (drop_all n (reverse ys) (omega (arith, length-reverse ys)))
      | inr ge ↦
          let cut : reverse ys ≡ reverse (drop (live - n) ys) ++ reverse (take (live - n) ys) =
          ap reverse (sym (take-append-drop (live - n) ys)) ∙ reverse-append (take (live - n) ys) (drop (live - n) ys) in
          let count : length (reverse (drop (live - n) ys)) ≡ n = omega (arith, length-reverse (drop (live - n) ys), length-drop (live - n) ys) in
          ap reverse first ∙ sym (ap (drop n) cut ∙ drop_at (reverse (drop (live - n) ys)) (reverse (take (live - n) ys)) n count)
    ]

-- the newest one is another
pub set-newest : {T : Type 0} (xs : List T) (live : ℕ) (v : T) → 0 < live → live ≤ length xs → reverse (take live (set xs (live - 1) v)) ≡ set (reverse (take live xs)) 0 v
set-newest {T} xs live v pos le =
    let k : ℕ = live - 1 in
    let n : live ≡ k + 1 = omega arith in
    let inside : k < length xs = omega arith in
    let new : take live (set xs k v) ≡ take k xs ++ v ∷ [] = ap (λ m. take m (set xs k v)) n ∙ take_more_set xs k v inside in
    let old : take live xs ≡ take k xs ++ get_or xs k v ∷ [] = ap (λ m. take m xs) n ∙ take_more xs k v inside in
    ap (λ (ys : List T). reverse ys) new
    ∙ (reverse-append (take k xs) (v ∷ [])
    ∙ sym (ap (λ (ys : List T). set (reverse ys) 0 v) old ∙ ap (λ (ys : List T). set ys 0 v) (reverse-append (take k xs) (get_or xs k v ∷ []))))

-- the newest ones, the oldest of them first
pub newest-range : {T : Type 0} (xs : List T) (live size count : ℕ) → live ≤ length xs → (count ≤ live → size ≡ count) → (live ≤ count → size ≡ live) → take (live - (live - size)) (drop (live - size) xs) ≡ reverse (take count (reverse (take live xs)))
newest-range {T} xs live size count le few all =
    let ys : List T = take live xs in
    let long : length ys ≡ live = length-take-le live xs le in
    let at : ℕ = live - size in
    let b : List T = drop at ys in
    let within : size ≤ live = by_cases (cases_lt live count) in
    let long_b : length b ≡ size = omega (arith, long, within, length-drop at ys) in
    let long_rb : length (reverse b) ≡ size = length-reverse b ∙ long_b in
    let cut : reverse ys ≡ reverse b ++ reverse (take at ys) = ap reverse (sym (take-append-drop at ys)) ∙ reverse-append (take at ys) b in
    let newest : take count (reverse ys) ≡ reverse b = elim (cases_lt live count) [
      | inl lt ↦
          let same : size ≡ live = all (omega (arith, lt)) in
          let whole : at ≡ 0 = omega (arith, same) in
          take_all count (reverse ys) (omega (arith, lt, length-reverse ys, long)) ∙ ap (λ k. reverse (drop k ys)) (sym whole)
      | inr ge ↦
          let same : size ≡ count = few ge in
          ap (take count) cut ∙ (take-append-le count (reverse b) (reverse (take at ys)) (omega (arith, long_rb, same)) ∙ take_all count (reverse b) (omega (arith, long_rb, same)))
    ] in
    let sum : at + size ≡ live = omega (arith, within) in
    let rest : live - at ≡ size = omega (arith, within) in
    ap (λ k. take k (drop at xs)) rest
    ∙ (sym (drop-take at size xs)
    ∙ (ap (λ k. drop at (take k xs)) sum
    ∙ (sym (reverse-reverse b) ∙ ap reverse (sym newest))))
  where
    by_cases : (live < count) ⊎ (count ≤ live) → size ≤ live
    by_cases (inl lt) = omega (arith, all (omega (arith, lt)))
    by_cases (inr ge) = omega (arith, few ge, ge)
