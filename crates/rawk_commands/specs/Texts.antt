-- How values and places are shown. Bytes are written by their codes: 9 is a tab, 10 a newline, 34 a quote, 36 `$`, 91 `[`, 92 a
-- backslash, 93 `]`, 110 `n`, 116 `t`.
use Rattle.std.specs.Prelude.{ℕ, Bool, ◌+◌, ◌/◌, ◌%◌, ◌==◌, ◌<◌, ◌≤◌, ◌&&◌, ◌||◌, if◌then◌else◌, nat_le, All, IsTrue, [], ◌∷◌, ◌++◌, codes, Option, Some, None}
use Rattle.rawk_limits.specs.declared.TheConstants.{LAST_FIELD}
use Rattle.std.specs.List.{flat_map}
use Rattle.rawk_value.specs.declared.value.Value.{Value}
use Rattle.rawk_value.specs.declared.value.Value.TheVariants.{Uninitialized, Number, String, Input}
use Rattle.rawk_value.specs.Values.{Bytes, decimal, int_text}
use Rattle.rawk_commands.specs.declared.command.Place.{Place}
use Rattle.rawk_commands.specs.declared.command.Place.TheVariants.{Name, Element, Field}
use Rattle.rawk_keywords.specs.Name.{has_name_form}

-- three octal digits
abbrev pub octal : ℕ → Bytes
octal b = (48 + b / 64) ∷ (48 + b / 8 % 8) ∷ (48 + b % 8) ∷ []

-- a space, or a byte of ASCII that is seen
abbrev pub is_visible : ℕ → Bool
is_visible b = nat_le 32 b && nat_le b 126

-- a byte of a text: quotes and backslashes behind a backslash, newline and tab by their letters, bytes that are not visible by digits
abbrev pub shown_byte : ℕ → Bytes
shown_byte b =
    if b == 34 || b == 92 then 92 ∷ b ∷ []
    else (if b == 10 then 92 ∷ 110 ∷ []
    else (if b == 9 then 92 ∷ 116 ∷ []
    else (if is_visible b then b ∷ [] else 92 ∷ octal b)))

-- a text: its bytes between quotes
abbrev pub shown_text : Bytes → Bytes
shown_text text = 34 ∷ flat_map shown_byte text ++ 34 ∷ []

-- a value: a number's digits, a text between quotes
abbrev pub shown_value : Value → Bytes
shown_value Uninitialized = codes "uninitialized"
shown_value (Number n) = int_text n
shown_value (String text) = shown_text text
shown_value (Input text) = shown_text text

-- what an array has at a key
abbrev pub shown_held : Option Value → Bytes
shown_held None = codes "not in array"
shown_held (Some value) = shown_value value

-- an element's name: NAME[KEY]
abbrev pub shown_element : Bytes → Bytes → Bytes
shown_element name key = name ++ 91 ∷ [] ++ shown_text key ++ 93 ∷ []

-- a place: NAME, NAME[KEY] or $N
abbrev pub shown_place : Place → Bytes
shown_place (Name name) = name
shown_place (Element name key) = shown_element name key
shown_place (Field number) = 36 ∷ decimal number

-- a place that there can be: its name is one, its key is bytes, its field has a number up to 1,000,000
abbrev pub IsPlace : Place → Type 0
IsPlace (Name name) = IsTrue (has_name_form name)
IsPlace (Element name key) = IsTrue (has_name_form name) × All (λ b. b < 256) key
IsPlace (Field number) = number ≤ LAST_FIELD
