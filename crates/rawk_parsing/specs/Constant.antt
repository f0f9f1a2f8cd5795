-- The numbers of constants (POSIX awk, "Lexical Conventions").
use Rattle.std.specs.Prelude.{ℤ, List, ℕ, Option}
use Rattle.std.specs.Result.{result_ok}
use Rattle.rawk_value.specs.Values.{front, front_number}

-- the number of a constant, which is that of its text; none where it is a fraction, has an exponent or does not fit 64 bits
unfoldable pub constant : List ℕ → Option ℤ
constant word = result_ok (front_number (front word))
