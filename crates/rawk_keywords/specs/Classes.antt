-- Classes of bytes (POSIX awk, "Lexical Conventions"). Bytes are written by their codes: 9 is a tab, 10 a newline, 32 a space, 95 `_`.
use Rattle.std.specs.Prelude.{ℕ, Bool, not, ◌||◌, ◌==◌}
use Rattle.std.specs.Char.{is_ascii_digit, is_ascii_alphanumeric}
use Rattle.rawk_keywords.specs.declared.class.Class.{Class}
use Rattle.rawk_keywords.specs.declared.class.Class.TheVariants as class

-- whether a byte is of the class
abbrev pub is_in : Class → ℕ → Bool
is_in class.Blank b = b == 32 || b == 9
is_in class.Digit b = is_ascii_digit b
is_in class.Word b = is_ascii_alphanumeric b || b == 95
is_in class.Line b = not (b == 10)
