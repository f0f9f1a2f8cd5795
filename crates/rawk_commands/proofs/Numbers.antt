-- Lemmas on decimal digits that are read one by one.
use Rattle.std.proofs.Common.{◌≡◌, refl, ◌∙◌, ℕ, ◌+◌, ◌-◌, ◌*◌, ◌<◌, ◌≤◌, Bool, true, false, ◌&&◌, cond, List, [], ◌∷◌, length, Option, Some, None, arith}
use Rattle.std.specs.Prelude.{nat_lt, if◌then◌else◌}
use Rattle.std.proofs.lemmas.Bool.Decides.{nat_tests}
use Rattle.std.specs.Char.{is_ascii_digit, digit_value}
use Rattle.std.specs.List.{list_all}
use Rattle.std.specs.Str.Parse.{digits_value_after}
use Rattle.rawk_commands.specs.Reading.{number_below}

-- the number of digits that follow those of n, if it is below a limit
abbrev pub below_after : ℕ → ℕ → List ℕ → Option ℕ
below_after limit n ds = if list_all is_ascii_digit ds && nat_lt (digits_value_after 10 n ds) limit then Some (digits_value_after 10 n ds) else None

digit_is : (b : ℕ) → is_ascii_digit b ≡ true → digit_value b ≡ b - 48
digit_is b h = grind (arith, nat_tests)

-- digits make a number no smaller
grows : (n : ℕ) (ds : List ℕ) → n ≤ digits_value_after 10 n ds
grows n [] = omega arith
grows n (d ∷ ds) = let r = grows (n * 10 + digit_value d) ds in omega arith

-- a digit that is not too much
pub one_digit : (limit n b : ℕ) (ds : List ℕ) → is_ascii_digit b ≡ true → below_after limit n (b ∷ ds) ≡ below_after limit (n * 10 + (b - 48)) ds
one_digit limit n b ds h = rw (h, digit_is b h) refl

-- a byte that is no digit
pub no_digit : (limit n b : ℕ) (ds : List ℕ) → is_ascii_digit b ≡ false → below_after limit n (b ∷ ds) ≡ None
no_digit limit n b ds h = rw h refl

none_if : (p t : Bool) (v : ℕ) → t ≡ false → cond (p && t) (Some v) None ≡ None
none_if true t v h = rw h refl
none_if false t v h = refl

too_large : (limit n : ℕ) (ds : List ℕ) → limit ≤ n → below_after limit n ds ≡ None
too_large limit n ds h =
    let g = grows n ds in
    let e : nat_lt (digits_value_after 10 n ds) limit ≡ false = grind (arith, nat_tests) in
    none_if (list_all is_ascii_digit ds) _ _ e

-- a digit that is too much
pub too_much : (limit n b : ℕ) (ds : List ℕ) → is_ascii_digit b ≡ true → limit ≤ n * 10 + (b - 48) → below_after limit n (b ∷ ds) ≡ None
too_much limit n b ds d h = one_digit limit n b ds d ∙ too_large limit (n * 10 + (b - 48)) ds h

-- the end of the digits
pub last_digit : (limit n : ℕ) → n < limit → below_after limit n [] ≡ Some n
last_digit limit n h = let e : nat_lt n limit ≡ true = grind (arith, nat_tests) in rw e refl

-- a number's digits are those that follow none
pub from_none : (limit : ℕ) (ds : List ℕ) → 0 < length ds → below_after limit 0 ds ≡ number_below limit ds
from_none limit [] h = absurd (omega arith)
from_none limit (d ∷ ds) h = refl
