-- Places that are passed over.
use Rattle.std.proofs.Common.{◌≡◌, ◌≢◌, ℕ, ◌+◌, ◌-◌, ◌<◌, ◌≤◌, inl, inr, true, List, length, get_or, sym, ap, ◌∙◌, arith, subst, bit_and}
use Rattle.std.specs.Int.{bit_at}
use Rattle.std.proofs.lemmas.Bool.{cases_eq}
use Rattle.rawk_ere_begins.specs.declared.filter.Filter.{Filter}
use Rattle.rawk_ere_begins.specs.Filters.{marks_of, pair_marks, IsPassedOver}

module _ (f : Filter) (s : List ℕ) (start at marked rest : ℕ)
    (set : (k : ℕ) → k < 32 → pair_marks f (get_or s (start + k) 0) (get_or s (start + k + 1) 0) ≢ 0 → bit_at marked k ≡ 1)
    (shifted : (k : ℕ) → bit_at rest k ≡ bit_at marked (at - start + k)) where
  pub unmarked_passed : start ≤ at → (k : ℕ) → at ≤ k → k < start + 32 → k + 1 < length s → bit_at rest (k - at) ≡ 0 → IsPassedOver f s k
  unmarked_passed le k low high within zero = inr (inr (
    within,
    elim (cases_eq (pair_marks f (get_or s k 0) (get_or s (k + 1) 0)) 0) [
      | inl e ↦ e
      | inr n ↦
          let here : start + (k - start) ≡ k = omega arith in
          let place : at - start + (k - at) ≡ k - start = omega arith in
          let there : pair_marks f (get_or s (start + (k - start)) 0) (get_or s (start + (k - start) + 1) 0) ≢ 0 = subst (λ x. pair_marks f (get_or s x 0) (get_or s (x + 1) 0) ≢ 0) (sym here) n in
          let one = set (k - start) (omega arith) there in
          absurd (omega (arith, sym zero ∙ shifted (k - at) ∙ ap (bit_at marked) place ∙ one))
    ],
  ))

-- a place whose byte and the next one have a mark in common is not passed over
pub not_passed : (f : Filter) (s : List ℕ) (at k : ℕ) → at ≡ k → (f.is_empty ≡ true → ⊥) → pair_marks f (get_or s at 0) (get_or s (at + 1) 0) ≢ 0 → IsPassedOver f s k → ⊥
not_passed f s at k e full n (inl x) = full x
not_passed f s at k e full n (inr (inl x)) = n (ap (λ m. bit_and m (marks_of f.second (get_or s (at + 1) 0))) (ap (λ j. marks_of f.first (get_or s j 0)) e ∙ x))
not_passed f s at k e full n (inr (inr x)) = n (ap (λ j. pair_marks f (get_or s j 0) (get_or s (j + 1) 0)) e ∙ x.1)
