-- What is reported of the names of a program.
use Rattle.std.specs.Prelude.{◌≡◌, ◌≢◌, ◌<◌, ◌↔◌, ◌==◌, ℕ, ◌-◌, Bool, true, false, ◌&&◌, if◌then◌else◌, nat_lt, List, drop, length, slice_get, slice_index_or, Option, Some, None}
use Rattle.rawk_keys.specs.ArrayKey.{ArrayKey, array_key}
use Rattle.rawk_names.specs.declared.names.NameError.{NameError}
use Rattle.rawk_names.specs.declared.names.NameError.TheVariants as error
use Rattle.rawk_names.specs.declared.names.Meaning.{Meaning}
use Rattle.rawk_names.specs.declared.names.Meaning.TheVariants as meaning
use Rattle.rawk_names.specs.declared.names.Variable.{Variable}
use Rattle.rawk_names.specs.declared.names.Variable.TheVariants as variable
use Rattle.rawk_names.specs.declared.names.Names.{Names}
use Rattle.rawk_names.specs.declared.register.Register.{Register}
use Rattle.rawk_names.specs.declared.usage.Manner.TheVariants.{Scalar, Array, Either, Argument}
use Rattle.rawk_names.specs.declared.usage.What.{What}
use Rattle.rawk_names.specs.declared.usage.What.TheVariants.{Named, Value, Pattern, Misuse}
use Rattle.rawk_names.specs.declared.usage.Usage.{Usage}
use Rattle.rawk_names.specs.declared.usage.Signature.{Signature}
use Rattle.rawk_names.specs.declared.usage.TheConstants.{SPECIALS}
use Rattle.rawk_names.specs.Table.{place_of}
use Rattle.rawk_names.specs.Noted.{Word, Noted}
use Rattle.rawk_names.specs.Arrays.{IsArray, IsMisuse}
use Rattle.rawk_names.specs.Marking.{is_marked}

-- PART 1: what is known

pub record Known : Type 0 where
  pub functions : List ArrayKey
  pub signatures : List Signature
  pub variables : List ArrayKey
  pub arrays : List Bool

abbrev pub known : Names → Known
known n = record { functions = n.functions; signatures = n.signatures.items; variables = n.variables; arrays = n.arrays.items }

abbrev pub known_from : Register → List Bool → Known
known_from r arrays = record { functions = r.functions; signatures = r.signatures.items; variables = r.variables; arrays = arrays }

-- the marks are those of the arrays
abbrev pub AreArrays : List Usage → List Bool → Type 0
AreArrays uses flags = (v : ℕ) → (is_marked flags v ≡ true) ↔ IsArray uses v

-- the names are those of the program: none is misused, and the arrays are the least set
pub record IsNamed (noted : Noted) (n : Known) : Type 0 where
  pub functions : n.functions ≡ noted.functions
  pub signatures : n.signatures ≡ noted.signatures
  pub variables : n.variables ≡ noted.variables
  pub arrays : AreArrays noted.uses n.arrays
  pub proper : (k : ℕ) (u : Usage) → slice_get noted.uses k ≡ Some u → IsMisuse noted.uses u.what → ⊥

-- PART 2: why names are refused

-- of the uses that can't be the first has this place
abbrev pub IsFirstMisuse : List Usage → ℕ → Type 0
IsFirstMisuse uses left =
    (k : ℕ) × (u : Usage) × (slice_get uses k ≡ Some u) × (u.left ≡ left) × IsMisuse uses u.what × ((j : ℕ) (t : Usage) → j < k → slice_get uses j ≡ Some t → IsMisuse uses t.what → ⊥)

-- what can be reported: the first misuse; memory may also be refused
abbrev pub IsRefused : Noted → NameError → Type 0
IsRefused noted error.OutOfMemory = Unit {0}
IsRefused noted (error.Misused left) = IsFirstMisuse noted.uses left

-- a refusal is one of the program alone, and a program whose names are in order has none but for want of memory
abbrev pub IsRefusedOnce : Type 0
IsRefusedOnce = (noted : Noted) (a b : NameError) → a ≢ error.OutOfMemory → b ≢ error.OutOfMemory → IsRefused noted a → IsRefused noted b → a ≡ b

abbrev pub IsNamedOrRefused : Type 0
IsNamedOrRefused = (noted : Noted) (n : Known) (e : NameError) → e ≢ error.OutOfMemory → IsNamed noted n → IsRefused noted e → ⊥

-- PART 3: answers

abbrev pub variable_at : Option ℕ → Option Meaning
variable_at None = None
variable_at (Some v) = Some (meaning.Variable v)

abbrev pub outer_at : Known → Word → Option ℕ → Option Meaning
outer_at n word (Some f) = Some (meaning.Function f)
outer_at n word None = variable_at (place_of (array_key 0 word) n.variables)

abbrev pub inner_at : Known → Word → Option ℕ → Option Meaning
inner_at n word (Some v) = Some (meaning.Variable v)
inner_at n word None = outer_at n word (place_of (array_key 0 word) n.functions)

-- a parameter of the function around, else a function, else a global
unfoldable pub meaning_of : Known → ℕ → Word → Option Meaning
meaning_of n scope word = inner_at n word (place_of (array_key scope word) n.variables)

abbrev pub end_of_last : List Signature → ℕ
end_of_last signatures = if length signatures == 0 then SPECIALS else (slice_index_or signatures (length signatures - 1) (record { first = 0; end = 0 })).end

abbrev pub variable_of : Known → ℕ → Variable
variable_of n v =
    if v == 0 then variable.FieldCount
    else if nat_lt v SPECIALS then variable.Global (v - 1)
    else if nat_lt v (end_of_last n.signatures) then variable.Parameter v
    else variable.Global (v - 1 - (end_of_last n.signatures - SPECIALS))

-- the globals that are not special, in the order in which they appear
abbrev pub own_globals : Known → List ArrayKey
own_globals n = drop (end_of_last n.signatures) n.variables

-- PART 4: the search for a misuse

abbrev pub is_misuse : List Bool → What → Bool
is_misuse flags (Named Scalar v) = is_marked flags v
is_misuse flags (Named Array v) = nat_lt v SPECIALS
is_misuse flags (Named Either v) = false
is_misuse flags (Named (Argument p) v) = nat_lt v SPECIALS && is_marked flags v
is_misuse flags (Value p) = is_marked flags p
is_misuse flags (Pattern n) = false
is_misuse flags Misuse = true

abbrev pub NoneBefore : List Bool → List Usage → ℕ → Type 0
NoneBefore flags uses n = (k : ℕ) (u : Usage) → k < n → slice_get uses k ≡ Some u → is_misuse flags u.what ≡ false

abbrev pub NoMisuse : List Bool → List Usage → Type 0
NoMisuse flags uses = NoneBefore flags uses (length uses)

abbrev pub IsFirst : List Bool → List Usage → ℕ → Type 0
IsFirst flags uses left = (k : ℕ) × (u : Usage) × (slice_get uses k ≡ Some u) × (u.left ≡ left) × (is_misuse flags u.what ≡ true) × NoneBefore flags uses k
