-- Texts that are no numbers by their first byte.
use Rattle.std.proofs.Common.{◌≡◌, ℕ, true, false, nat_lt, ◌==◌, ◌||◌, [], ◌∷◌, get_or, refl, arith, true≢false, sym}
use Rattle.std.proofs.lemmas.Bool.Decides.{nat_tests}
use Rattle.rawk_value.specs.Values.{Bytes, is_blank, is_digit, is_numeric}

-- a byte past the digits is no blank, no sign, no digit and no point
no_blank : (b : ℕ) → nat_lt 57 b ≡ true → is_blank b ≡ false
no_blank b h = grind (arith, nat_tests)

no_sign : (b : ℕ) → nat_lt 57 b ≡ true → (b == 43 || b == 45) ≡ false
no_sign b h = grind (arith, nat_tests)

no_digit : (b : ℕ) → nat_lt 57 b ≡ true → is_digit b ≡ false
no_digit b h = grind (arith, nat_tests)

no_point : (b : ℕ) → nat_lt 57 b ≡ true → (b == 46) ≡ false
no_point b h = grind (arith, nat_tests)

pub past_digits : (text : Bytes) → nat_lt 57 (get_or text 0 0) ≡ true → is_numeric text ≡ false
past_digits [] h = absurd (true≢false (sym h))
past_digits (b ∷ text) h = rw (no_blank b h, no_sign b h, no_digit b h, no_point b h) refl
