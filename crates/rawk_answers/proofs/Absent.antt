-- What is not in a list.
use Rattle.std.proofs.Common.{◌≡◌, ◌≢◌, false, ℕ, zero, suc, List, [], ◌∷◌, None, refl, arith}
use Rattle.std.proofs.lemmas.Bool.Decides.{nat_tests}
use Rattle.std.specs.Prelude.{◌==◌, slice_get, slice_index_or}

-- where nothing stands in a list, what is read is the other value
pub absent_is : {X : Type 0} (xs : List X) (i : ℕ) (d : X) → slice_get xs i ≡ None → slice_index_or xs i d ≡ d
absent_is [] i d h = refl
absent_is (x ∷ xs) zero d h = absurd (cc)
absent_is (x ∷ xs) (suc i) d h = absent_is xs i d h

pub past_zero : (n : ℕ) → n ≢ 0 → n == 0 ≡ false
past_zero n h = grind (arith, nat_tests)
