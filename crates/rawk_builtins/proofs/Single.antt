-- Where a part of one byte stands first.
use Rattle.std.proofs.Common.{◌≡◌, ℕ, zero, suc, ◌+◌, ◌<◌, ◌≤◌, List, [], ◌∷◌, length, get_or, Option, Some, None, refl, sym, ap, ◌∙◌, arith}
use Rattle.std.specs.Prelude.{slice_index}
use Rattle.std.proofs.lemmas.Bool.{eq-eqb, eqb-true}
use Rattle.memchr.specs.Find.{OccursAt, FindsNeedle, IsFirstByte, Passes, is_byte}

-- a list of one byte
pub one_byte : (xs : List ℕ) → 1 ≤ length xs → length xs < 2 → xs ≡ get_or xs 0 0 ∷ []
one_byte [] some few = absurd (omega arith)
one_byte (x ∷ []) some few = refl
one_byte (x ∷ y ∷ ys) some few = absurd (omega arith)

module _ (text : List ℕ) (byte : ℕ) where
  at_zero : (k : ℕ) → slice_index text (k + 0) ≡ slice_index text k
  at_zero k = let e : k + 0 ≡ k = omega arith in ap (slice_index text) e

  passes : (k : ℕ) → OccursAt text (byte ∷ []) k → Passes (is_byte byte) text k
  passes k o = eq-eqb (slice_index text k) byte (sym (at_zero k) ∙ o.reads 0 (omega arith))

  reads : (k : ℕ) → slice_index text k ≡ byte → (j : ℕ) → j < 1 → slice_index text (k + j) ≡ slice_index (byte ∷ []) j
  reads k e zero low = at_zero k ∙ e
  reads k e (suc j) low = absurd (omega arith)

  occurs : (k : ℕ) → k < length text → Passes (is_byte byte) text k → OccursAt text (byte ∷ []) k
  occurs k high h = record { fits = omega arith; reads = reads k (eqb-true (slice_index text k) byte h) }

  pub first_of_one : (r : Option ℕ) → IsFirstByte (is_byte byte) text r → FindsNeedle text (byte ∷ []) 0 r
  first_of_one None h = λ k low high o. h k low (omega (arith, o.fits)) (passes k o)
  first_of_one (Some k) h =
      let first = h.0 in
      (record { low = first.low; high = omega (arith, first.high); before = λ i low high o. first.before i low high (passes i o) }, occurs k first.high h.1)
