-- Lemmas on the texts of numbers.
use Rattle.std.proofs.Common.{◌≡◌, refl, sym, ap, ◌∙◌, ℕ, ◌+◌, ◌<◌, ◌^◌, [], ◌∷◌, ◌++◌, arith, add-one, map, Bool, true, false, cond, ◌==◌, Result, Ok, Err, lit<}
use Rattle.std.specs.Prelude.{ℤ, pos, negsuc, OnOk, if◌then◌else◌, is_ok}
use Rattle.std.specs.Int.RustNames.{FitsSigned}
use Rattle.std.specs.Int.{w64, cast_signed, cast_unsigned}
use Rattle.std.specs.Int.Digits.{digits_of}
use Rattle.std.proofs.lemmas.Bool.Decides.{nat_tests}
use Rattle.std.specs.Fmt as fmt
use Rattle.std.proofs.lemmas.Fmt.{decimal_digit, decimal-digits_of}
use Rattle.std.proofs.lemmas.Int.{to_z-of_z}
use Rattle.rawk_value.specs.Values.{Bytes, decimal, int_text}

decimal_from : (n : ℕ) (b : Bool) → (n == 0) ≡ b → n < 2 ^ 64 → fmt.decimal n ≡ cond b (48 ∷ []) (map (λ d. 48 + d) (digits_of 10 n))
decimal_from n true e h = let z : n ≡ 0 = grind (arith, nat_tests) in ap fmt.decimal z ∙ decimal_digit 0 (lit< tt)
decimal_from n false e h = let p : 0 < n = grind (arith, nat_tests) in decimal-digits_of n p h

pub decimal_is : (n : ℕ) → n < 2 ^ 64 → fmt.decimal n ≡ decimal n
decimal_is n h = decimal_from n (n == 0) refl h

signed_is : (z : ℤ) → FitsSigned w64 z → fmt.signed_decimal z ≡ int_text z
signed_is (pos n) h = decimal_is n (omega (arith, h.sfits))
signed_is (negsuc n) h = ap (λ t. 45 ∷ t) (ap fmt.decimal (sym (add-one n)) ∙ decimal_is (n + 1) (omega (arith, h.sfits)))

pub int_text_is : (z : ℤ) → FitsSigned w64 z → fmt.signed_decimal (cast_signed w64 (cast_unsigned w64 z)) ≡ int_text z
int_text_is z h = ap fmt.signed_decimal (to_z-of_z w64 z h) ∙ signed_is z h

-- what was added is a text, where the adding went well
pub added : {E : Type 0} (r : Result (Unit {0}) E) (new old bytes text : Bytes) → new ≡ (if is_ok r then old ++ bytes else old) → bytes ≡ text → OnOk r (new ≡ old ++ text)
added (Ok u) new old bytes text h e = h ∙ ap (λ t. old ++ t) e
added (Err x) new old bytes text h e = tt
