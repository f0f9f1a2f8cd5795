-- What is shown of a number reads as the number.
use Rattle.std.proofs.Common.{◌≡◌, refl, subst, ℕ, ◌<◌, ◌^◌, Bool, true, false, ◌&&◌, List, [], ◌∷◌, ◌++◌, length, Some, arith}
use Rattle.std.specs.Prelude.{nat_lt}
use Rattle.std.specs.List.{list_all, prefix_len}
use Rattle.std.specs.Char.{is_ascii_digit, digit_value}
use Rattle.std.specs.Fmt as fmt
use Rattle.std.specs.Str.Parse.{AllDigits, digits_value}
use Rattle.std.proofs.lemmas.Bool.Decides.{nat_tests}
use Rattle.std.proofs.lemmas.Fmt.{decimal_is_IsNumeral}
use Rattle.rawk_value.specs.Values.{Bytes, decimal}
use Rattle.rawk_commands.specs.Reading.{number_below}
use Rattle.rawk_commands.proofs.Decimals.{decimal_is}

pub and_first : (a b : Bool) → (a && b) ≡ true → a ≡ true
and_first true b h = refl
and_first false b h = h

pub and_second : (a b : Bool) → (a && b) ≡ true → b ≡ true
and_second true b h = h
and_second false b h = cc

-- all elements pass, and what comes after them begins with none that does
pub prefix_all : {X : Type 0} (p : X → Bool) (xs after : List X) → list_all p xs ≡ true → prefix_len p after ≡ 0 → prefix_len p (xs ++ after) ≡ length xs
prefix_all p [] after h e = e
prefix_all p (x ∷ xs) after h e =
    let first : p x ≡ true = and_first (p x) (list_all p xs) h in
    let rest : list_all p xs ≡ true = and_second (p x) (list_all p xs) h in
    let r = prefix_all p xs after rest e in
    rw (first, r) (omega arith)

digit_passes : (c : ℕ) → digit_value c < 10 → is_ascii_digit c ≡ true
digit_passes c h = grind (arith, nat_tests)

digits_pass : (ds : Bytes) → AllDigits 10 ds → list_all is_ascii_digit ds ≡ true
digits_pass [] h = refl
digits_pass (d ∷ ds) h = rw (digit_passes d h.0, digits_pass ds h.1) refl

-- a text that is the decimal text of a number
pub record Writes (n : ℕ) (ds : Bytes) : Type 0 where
  pub some : 0 < length ds
  pub digits : list_all is_ascii_digit ds ≡ true
  pub value : digits_value 10 ds ≡ n

printed : (n : ℕ) → n < 2 ^ 64 → Writes n (fmt.decimal n)
printed n h = let t = decimal_is_IsNumeral n h in record { some = t.0.0; digits = digits_pass (fmt.decimal n) t.0.1; value = t.1 }

pub writes : (n : ℕ) → n < 2 ^ 64 → Writes n (decimal n)
writes n h = subst (Writes n) (decimal_is n h) (printed n h)

-- digits read as their number
pub number_written : (limit n : ℕ) (ds : Bytes) → Writes n ds → n < limit → number_below limit ds ≡ Some n
number_written limit n [] w h = let z = w.some in absurd (omega arith)
number_written limit n (d ∷ ds) w h =
    let e : nat_lt n limit ≡ true = grind (arith, nat_tests) in
    rw (w.digits, w.value, e) refl
