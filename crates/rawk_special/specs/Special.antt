-- The special variables (POSIX awk, "Variables and Special Variables"), in the order of their numbers.
use Rattle.std.specs.Prelude.{ℕ, pos, negsuc, Bool, ◌||◌, List, [], ◌∷◌, ◌++◌, map, position, slice_index_or, Option, is_some, codes}
use Rattle.std.specs.Str.{bytes_eq}
use Rattle.rawk_value.specs.declared.value.Value.{Value}
use Rattle.rawk_value.specs.declared.value.Value.TheVariants.{Number, String}
use Rattle.rawk_value.specs.Values.{Bytes}

-- a special variable: its name, and its value before a program begins
pub record Special : Type 0 where
  pub name : Bytes
  pub first : Value

abbrev pub named : Bytes → Value → Special
named name first = record { name = name; first = first }

abbrev pub specials : List Special
specials =
    named (codes "NR") (Number (pos 0))
    ∷ named (codes "FNR") (Number (pos 0))
    ∷ named (codes "FS") (String (codes " "))
    ∷ named (codes "OFS") (String (codes " "))
    ∷ named (codes "ORS") (String (codes "\n"))
    ∷ named (codes "RS") (String (codes "\n"))
    ∷ named (codes "SUBSEP") (String (28 ∷ []))
    ∷ named (codes "CONVFMT") (String (codes "%.6g"))
    ∷ named (codes "OFMT") (String (codes "%.6g"))
    ∷ named (codes "RSTART") (Number (pos 0))
    ∷ named (codes "RLENGTH") (Number (negsuc 0))
    ∷ []

-- their names
abbrev pub special_names : List Bytes
special_names = map (λ s. s.name) specials

-- their values before a program begins
abbrev pub first_specials : List Value
first_specials = map (λ s. s.first) specials

-- the number of a special variable, by its name
unfoldable pub special_number : Bytes → Option ℕ
special_number word = position (bytes_eq word) special_names

-- the number of fields has no number here
abbrev pub field_count_name : Bytes
field_count_name = codes "NF"

abbrev pub is_field_count : Bytes → Bool
is_field_count word = bytes_eq word field_count_name

abbrev pub is_special : Bytes → Bool
is_special word = is_field_count word || is_some (special_number word)

-- the globals of a program with these names of its own, by their numbers: the special variables come first
abbrev pub global_names : List Bytes → List Bytes
global_names names = special_names ++ names

-- the number of a global, by its name
abbrev pub global_number : List Bytes → Bytes → Option ℕ
global_number names name = position (bytes_eq name) (global_names names)

-- the name of a global, by its number; a number that none has gives no bytes
abbrev pub global_name : List Bytes → ℕ → Bytes
global_name names number = slice_index_or (global_names names) number []
