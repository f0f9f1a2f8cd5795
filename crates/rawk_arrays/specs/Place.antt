-- Where the name of a key stands.
use Rattle.std.specs.Prelude.{ℕ, suc, ◌==◌, ◌&&◌, Bool, cond, List, [], ◌∷◌}
use Rattle.std.specs.Ordering.{nat_cmp, eq_by_cmp}
use Rattle.std.specs.Cmp.Lexicographic.{slice_cmp}
use Rattle.rawk_value.specs.Values.{Bytes}
use Rattle.rawk_keys.specs.ArrayKey.{ArrayKey}

abbrev pub same_key : Bytes → Bytes → Bool
same_key q k = eq_by_cmp (slice_cmp nat_cmp) q k

-- the name is of this array and this key
abbrev pub is_here : ℕ → Bytes → ArrayKey → Bool
is_here a q name = name.array == a && same_key q name.key

-- the place of a name, or the length
abbrev pub place : ℕ → Bytes → List ArrayKey → ℕ
place a q [] = 0
place a q (name ∷ index) = cond (is_here a q name) 0 (suc (place a q index))
