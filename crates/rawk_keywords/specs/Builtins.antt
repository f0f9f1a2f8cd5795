-- The built-in functions (POSIX awk, "Arithmetic Functions", "String Functions").
use Rattle.std.specs.Prelude.{ℕ, Bool, false, ◌&&◌, if◌then◌else◌, nat_le, List, [], ◌∷◌, map, Option, Some, None, codes}
use Rattle.std.specs.Borrow.{Bor}
use Rattle.std.specs.Str.{bytes_eq}
use denote.Enum.Bare.{sameb}
use Rattle.rawk_keywords.specs.contracts.builtin.Builtin.{the_type}
use Rattle.rawk_keywords.specs.declared.builtin.Builtin.{Builtin}
use Rattle.rawk_keywords.specs.declared.builtin.Builtin.TheVariants as function

-- a function's word, the function, and how many arguments it takes at least and, where there is a most, at most
abbrev pub Row : Type 0
Row = List ℕ × Builtin × ℕ × Option ℕ

-- the rows of a table of the program
abbrev pub rows_of : List (Bor (List ℕ) × Builtin × ℕ × Option ℕ) → List Row
rows_of = map (λ row. (row.0.now, row.1, row.2, row.3))

-- the built-in functions
abbrev pub builtins : List Row
builtins =
    (codes "length", function.Length, 0, Some 1)
    ∷ (codes "index", function.Index, 2, Some 2)
    ∷ (codes "substr", function.Substr, 2, Some 3)
    ∷ (codes "split", function.Split, 2, Some 3)
    ∷ (codes "sub", function.Sub, 2, Some 3)
    ∷ (codes "gsub", function.Gsub, 2, Some 3)
    ∷ (codes "match", function.Match, 2, Some 2)
    ∷ (codes "sprintf", function.Sprintf, 1, None)
    ∷ (codes "tolower", function.Tolower, 1, Some 1)
    ∷ (codes "toupper", function.Toupper, 1, Some 1)
    ∷ (codes "int", function.Int, 1, Some 1) ∷ []

-- the function of a word, by a table of functions
abbrev pub named_in : List Row → List ℕ → Option Builtin
named_in [] word = None
named_in (row ∷ rows) word = if bytes_eq word row.0 then Some row.1 else named_in rows word

-- the built-in function that a word names
unfoldable pub builtin_named : List ℕ → Option Builtin
builtin_named = named_in builtins

-- whether a count is no less than the least and, where there is a most, no more than that
abbrev pub is_within : ℕ → ℕ → Option ℕ → Bool
is_within count least None = nat_le least count
is_within count least (Some most) = nat_le least count && nat_le count most

-- `==` on built-in functions
abbrev pub same_function : Builtin → Builtin → Bool
same_function = sameb the_type

-- whether a function takes this many arguments, by a table of functions
abbrev pub taken_in : List Row → Builtin → ℕ → Bool
taken_in [] function count = false
taken_in (row ∷ rows) function count = if same_function row.1 function then is_within count row.2 row.3 else taken_in rows function count

-- whether a built-in function takes this many arguments
unfoldable pub takes : Builtin → ℕ → Bool
takes = taken_in builtins
