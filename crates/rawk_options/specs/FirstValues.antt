-- The first values that options give to variables (POSIX awk, Options, -F and -v). 61 is `=`.
use Rattle.std.specs.Prelude.{◌≡◌, ◌<◌, ℕ, length, ◌==◌, Bool, if◌then◌else◌, List, codes}
use Rattle.std.specs.List.{before_first, after_first, position_or_len}
use Rattle.std.specs.Str.{bytes_eq}
use Rattle.rawk_lexer.specs.Escape.{unescaped_of}
use Rattle.rawk_code.specs.declared.settings.FirstValue.{FirstValue}

abbrev pub is_equals : ℕ → Bool
is_equals b = b == 61

-- there is an `=` in a text
abbrev pub HasEquals : List ℕ → Type 0
HasEquals value = position_or_len is_equals value < length value

abbrev pub LacksEquals : List ℕ → Type 0
LacksEquals value = position_or_len is_equals value ≡ length value

-- of `NAME=TEXT`, where TEXT has the escapes of a string
abbrev pub assigned : List ℕ → FirstValue
assigned value = record { name = before_first is_equals value; text = unescaped_of (after_first is_equals value) }

-- `t` is a tab
abbrev pub separator_of : List ℕ → List ℕ
separator_of value = if bytes_eq value (codes "t") then codes "\t" else value

-- that of FS
abbrev pub separated_by : List ℕ → FirstValue
separated_by value = record { name = codes "FS"; text = unescaped_of (separator_of value) }
