-- The arrays of a program, and the misuses of its names (POSIX awk, "Expressions in awk", "User-Defined Functions").
use Rattle.std.specs.Prelude.{◌≡◌, ◌<◌, ℕ, ⊤, List, slice_get, Some}
use Rattle.rawk_names.specs.declared.usage.Manner.TheVariants.{Scalar, Array, Either, Argument}
use Rattle.rawk_names.specs.declared.usage.What.{What}
use Rattle.rawk_names.specs.declared.usage.What.TheVariants.{Named, Value, Pattern, Misuse}
use Rattle.rawk_names.specs.declared.usage.Usage.{Usage}
use Rattle.rawk_names.specs.declared.usage.TheConstants.{SPECIALS}

-- the use stands among them
abbrev pub Stands : List Usage → What → Type 0
Stands uses what = (k : ℕ) × (u : Usage) × (slice_get uses k ≡ Some u) × (u.what ≡ what)

-- the arrays are the least set that holds what is used as one, and with an argument its parameter, and with a parameter its arguments
pub data IsArray (uses : List Usage) : ℕ → Type 0 where
  used : {v : ℕ} → Stands uses (Named Array v) → IsArray uses v
  given : {v p : ℕ} → Stands uses (Named (Argument p) v) → IsArray uses v → IsArray uses p
  taken : {v p : ℕ} → Stands uses (Named (Argument p) v) → IsArray uses p → IsArray uses v

abbrev pub IsSpecial : ℕ → Type 0
IsSpecial v = v < SPECIALS

-- a use that can't be: an array as a scalar, a special variable as an array, and for a parameter that is one what is no name alone
abbrev pub IsMisuse : List Usage → What → Type 0
IsMisuse uses (Named Scalar v) = IsArray uses v
IsMisuse uses (Named Array v) = IsSpecial v
IsMisuse uses (Named Either v) = ⊥
IsMisuse uses (Named (Argument p) v) = IsSpecial v × IsArray uses v
IsMisuse uses (Value p) = IsArray uses p
IsMisuse uses (Pattern n) = ⊥
IsMisuse uses Misuse = ⊤
