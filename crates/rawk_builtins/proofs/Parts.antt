-- The bytes at places that follow one another.
use Rattle.std.proofs.Common.{◌≡◌, ℕ, zero, suc, ◌+◌, ◌-◌, ◌<◌, ◌≤◌, ◌↔◌, Bool, true, false, not, ◌&&◌, nat_le, nat_lt, List, [], ◌∷◌, length, take, drop, refl, sym, ap, ◌∙◌, arith, max, Some, None, ℤ, pos, ◌+ℤ◌, ◌<ℤ◌, length-drop, add-zero, ⊎_elim}
use Rattle.std.specs.Prelude.{int_lt}
use Rattle.std.specs.List.{slice_range}
use Rattle.std.proofs.Math.Seq.{take-nil}
use Rattle.std.proofs.lemmas.Bool.{cond-true, cond-false, cases_Bool, le-leb, leb-true, false≢true}
use Rattle.std.proofs.lemmas.Bool.Decides.{nat_tests}
use Rattle.std.proofs.lemmas.Int.{ints}
use Rattle.std.proofs.lemmas.Float.{T_from_true}
use Rattle.std.specs.Int.Signed.{lt_z_yes}
use Rattle.rawk_builtins.specs.Builtins.{bytes_at, is_asked, substring}

module _ (test : ℕ → Bool) where
  -- of the first n places
  bytes_at-take : (n k : ℕ) (xs : List ℕ) → ((p : ℕ) → k ≤ p → p < k + length xs → test p ≡ nat_lt p (k + n)) → bytes_at test k xs ≡ take n xs
  bytes_at-take n k [] h = sym (take-nil n)
  bytes_at-take zero k (x ∷ xs) h =
      cond-false _ _ _ (h k (omega arith) (omega arith) ∙ grind (arith, nat_tests))
      ∙ bytes_at-take zero (k + 1) xs (λ p a b. h p (omega arith) (omega arith) ∙ grind (arith, nat_tests))
  bytes_at-take (suc n) k (x ∷ xs) h =
      cond-true _ _ _ (h k (omega arith) (omega arith) ∙ grind (arith, nat_tests))
      ∙ ap (λ l. x ∷ l) (bytes_at-take n (k + 1) xs (λ p a b. h p (omega arith) (omega arith) ∙ grind (arith, nat_tests)))

  -- the first i places pass over
  bytes_at-drop : (i k : ℕ) (xs : List ℕ) → ((p : ℕ) → k ≤ p → p < k + i → p < k + length xs → test p ≡ false) → bytes_at test k xs ≡ bytes_at test (k + i) (drop i xs)
  bytes_at-drop zero k xs h = ap (λ q. bytes_at test q xs) (sym (add-zero k))
  bytes_at-drop (suc i) k [] h = refl
  bytes_at-drop (suc i) k (x ∷ xs) h =
      let further : k + 1 + i ≡ k + suc i = omega arith in
      cond-false _ _ _ (h k (omega arith) (omega arith) (omega arith))
      ∙ bytes_at-drop i (k + 1) xs (λ p a b c. h p (omega arith) (omega arith) (omega arith))
      ∙ ap (λ q. bytes_at test q (drop i xs)) further

  -- the places above s up to e
  pub bytes_at-range : (s e : ℕ) (xs : List ℕ) → ((p : ℕ) → 0 < p → p ≤ length xs → test p ≡ not (nat_le p s) && nat_le p e) → bytes_at test 1 xs ≡ take (max e s - s) (drop s xs)
  bytes_at-range s e xs h =
      bytes_at-drop s 1 xs (λ p a b c. h p (omega arith) (omega arith) ∙ grind (arith, nat_tests))
      ∙ bytes_at-take (max e s - s) (1 + s) (drop s xs) (λ p a b. h p (omega arith) (grind (arith, length-drop)) ∙ grind (arith, nat_tests))

-- a test of numbers that tells the same as one of places
same_test : (p s : ℕ) (from : ℤ) → (p ≤ s) ↔ (pos p <ℤ from) → int_lt (pos p) from ≡ nat_le p s
same_test p s from h =
    ⊎_elim
    (λ yes. let le : p ≤ s = h.1 (lt_z_yes (T_from_true _ yes)) in yes ∙ sym (le-leb p s le))
    (λ no. ⊎_elim
    (λ below. absurd (false≢true (sym no ∙ less p from (h.0 (leb-true p s below)))))
    (λ above. no ∙ sym above)
    (cases_Bool (nat_le p s)))
    (cases_Bool (int_lt (pos p) from))
  where
    less : (q : ℕ) (z : ℤ) → pos q <ℤ z → int_lt (pos q) z ≡ true
    less q z lt = grind (arith, ints)

module _ (from : ℤ) (xs : List ℕ) (s : ℕ) (before : (p : ℕ) → 0 < p → p ≤ length xs → (p ≤ s) ↔ (pos p <ℤ from)) where
  pub substring-from : slice_range xs s (max (length xs) s) ≡ substring xs from None
  substring-from =
      sym (bytes_at-range (is_asked from None) s (length xs) xs
      (λ p low high. ap not (same_test p s from (before p low high)) ∙ grind (arith, nat_tests)))

  pub substring-counted : (count : ℤ) (e : ℕ) → ((p : ℕ) → 0 < p → p ≤ length xs → (p ≤ e) ↔ (pos p <ℤ (from +ℤ count))) → slice_range xs s (max e s) ≡ substring xs from (Some count)
  substring-counted count e ends =
      sym (bytes_at-range (is_asked from (Some count)) s e xs
      (λ p low high. ap (λ b. not b && int_lt (pos p) (from +ℤ count)) (same_test p s from (before p low high)) ∙ ap (λ b. not (nat_le p s) && b) (same_test p e (from +ℤ count) (ends p low high))))
