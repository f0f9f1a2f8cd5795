-- Where a part stands first.
use Rattle.std.proofs.Common.{◌≡◌, ℕ, zero, suc, ◌+◌, ◌-◌, ◌<◌, ◌≤◌, Bool, true, false, List, length, take, drop, Some, None, refl, sym, ap, ◌∙◌, arith, ⊎_elim, length-drop, min}
use Rattle.std.proofs.lemmas.List.{length-take}
use Rattle.std.specs.Prelude.{unwrap_or}
use Rattle.std.specs.List.{find, range_with_len}
use Rattle.std.proofs.lemmas.Bool.{cond-true, cond-false, cases_Bool, cases_eq}
use Rattle.std.proofs.lemmas.Slice.Eq.{bytes_eq-Decides}
use Rattle.memchr.specs.Find.{OccursAt, FindsNeedle}
use Rattle.memchr.proofs.lemmas.MatchLemmas.{OccursAt-part, OccursAt-from_part}
use Rattle.rawk_builtins.specs.Builtins.{stands_at, place_of}

-- the first of the numbers from a on that passes
find-first : (test : ℕ → Bool) (a n k : ℕ) → a ≤ k → k < a + n → ((p : ℕ) → a ≤ p → p < k → test p ≡ false) → test k ≡ true → find test (range_with_len a n) ≡ Some k
find-first test a zero k low high before at = absurd (omega arith)
find-first test a (suc n) k low high before at =
    ⊎_elim
    (λ same. cond-true _ _ _ (ap test same ∙ at) ∙ ap Some same)
    (λ other. cond-false _ _ _ (before a (omega arith) (omega arith)) ∙ find-first test (a + 1) n k (omega arith) (omega arith) (λ p l h. before p (omega arith) h) at)
    (cases_eq a k)

-- none of the numbers from a on passes
find-none : (test : ℕ → Bool) (a n : ℕ) → ((p : ℕ) → a ≤ p → p < a + n → test p ≡ false) → find test (range_with_len a n) ≡ None
find-none test a zero fails = refl
find-none test a (suc n) fails = cond-false _ _ _ (fails a (omega arith) (omega arith)) ∙ find-none test (a + 1) n (λ p l h. fails p (omega arith) (omega arith))

module _ (text part : List ℕ) where
  back : (k : ℕ) → take (length part) (drop (k + 1 - 1) text) ≡ take (length part) (drop k text)
  back k = let same : k + 1 - 1 ≡ k = omega arith in ap (λ q. take (length part) (drop q text)) same

  stands : (k : ℕ) → OccursAt text part k → stands_at text part (k + 1) ≡ true
  stands k h = (bytes_eq-Decides part _).1 (sym (back k ∙ OccursAt-part text part k h))

  stands_not : (k : ℕ) → k ≤ length text → ¬ OccursAt text part k → stands_at text part (k + 1) ≡ false
  stands_not k within h =
      ⊎_elim
      (λ yes.
      let same : take (length part) (drop k text) ≡ part = sym (back k) ∙ sym ((bytes_eq-Decides part _).0 yes) in
      let size : min (length part) (length text - k) ≡ length part = ap (min (length part)) (sym (length-drop k text)) ∙ sym (length-take (length part) (drop k text)) ∙ ap length same in
      absurd (h (OccursAt-from_part text part k (omega arith) same)))
      (λ no. no)
      (cases_Bool (stands_at text part (k + 1)))

  -- the same of a place
  fails_at : (p : ℕ) → 1 ≤ p → p ≤ length text + 1 → ¬ OccursAt text part (p - 1) → stands_at text part p ≡ false
  fails_at p low high h =
      let same : p ≡ p - 1 + 1 = omega arith in
      ap (stands_at text part) same ∙ stands_not (p - 1) (omega arith) h

  -- what a search finds, as a place
  pub place_of-found : (k : ℕ) → FindsNeedle text part 0 (Some k) → place_of text part ≡ k + 1
  place_of-found k h =
      let first = h.0 in
      let high = first.high in
      ap (λ o. unwrap_or o 0)
      (find-first (stands_at text part) 1 (length text + 1) (k + 1) (omega arith) (omega arith)
      (λ p l b. fails_at p l (omega arith) (first.before (p - 1) (omega arith) (omega arith)))
      (stands k h.1))

  pub place_of-nowhere : FindsNeedle text part 0 None → place_of text part ≡ 0
  place_of-nowhere h =
      ap (λ o. unwrap_or o 0)
      (find-none (stands_at text part) 1 (length text + 1)
      (λ p l b. fails_at p l (omega arith) (h (p - 1) (omega arith) (omega arith))))
