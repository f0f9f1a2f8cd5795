-- What stands past the end of a list.
use Rattle.std.proofs.Common.{◌≡◌, ℕ, zero, suc, List, [], ◌∷◌, None, refl}
use Rattle.std.specs.Prelude.{slice_get, slice_index_or}

pub value_missing : {T : Type 0} (xs : List T) (n : ℕ) (d : T) → None ≡ slice_get xs n → d ≡ slice_index_or xs n d
value_missing [] n d e = refl
value_missing (x ∷ xs) zero d e = cc
value_missing (x ∷ xs) (suc n) d e = value_missing xs n d e
