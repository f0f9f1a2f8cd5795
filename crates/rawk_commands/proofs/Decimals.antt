-- The digits that are printed are those of the definition.
use Rattle.std.proofs.Common.{◌≡◌, refl, ap, ◌∙◌, ℕ, ◌+◌, ◌<◌, ◌^◌, [], ◌∷◌, arith, map, Bool, true, false, cond, ◌==◌, lit<}
use Rattle.std.specs.Int.Digits.{digits_of}
use Rattle.std.proofs.lemmas.Bool.Decides.{nat_tests}
use Rattle.std.specs.Fmt as fmt
use Rattle.std.proofs.lemmas.Fmt.{decimal_digit, decimal-digits_of}
use Rattle.rawk_value.specs.Values.{decimal}

decimal_from : (n : ℕ) (b : Bool) → (n == 0) ≡ b → n < 2 ^ 64 → fmt.decimal n ≡ cond b (48 ∷ []) (map (λ d. 48 + d) (digits_of 10 n))
decimal_from n true e h = let z : n ≡ 0 = grind (arith, nat_tests) in ap fmt.decimal z ∙ decimal_digit 0 (lit< tt)
decimal_from n false e h = let p : 0 < n = grind (arith, nat_tests) in decimal-digits_of n p h

pub decimal_is : (n : ℕ) → n < 2 ^ 64 → fmt.decimal n ≡ decimal n
decimal_is n h = decimal_from n (n == 0) refl h
