-- What names stand for in the settled tree.
use Rattle.std.specs.Prelude.{ℕ, ◌-◌, suc, Bool, true, false, if◌then◌else◌, nat_lt, List, [], ◌∷◌, map, slice_get, Option, Some, None}
use Rattle.std.specs.List.{range_with_len}
use Rattle.rawk_keys.specs.ArrayKey.{ArrayKey, array_key}
use Rattle.rawk_names.specs.declared.names.Meaning.{Meaning}
use Rattle.rawk_names.specs.declared.names.Meaning.TheVariants as meaning
use Rattle.rawk_names.specs.declared.names.Variable.{Variable}
use Rattle.rawk_names.specs.declared.names.Variable.TheVariants as variable
use Rattle.rawk_names.specs.declared.usage.Signature.{Signature}
use Rattle.rawk_names.specs.Named.{Known, known, meaning_of, variable_of, end_of_last, own_globals}
use Rattle.rawk_names.specs.Marking.{is_marked}
use Rattle.rawk_names.specs.Table.{place_of}
use Rattle.rawk_resolution.specs.declared.scope.Scope.{Scope}
use Rattle.rawk_tree.specs.declared.tree.Kind.{Kind}
use Rattle.rawk_tree.specs.declared.tree.Kind.TheVariants as kind
use Rattle.rawk_tree.specs.declared.tree.Scalar.{Scalar}
use Rattle.rawk_tree.specs.declared.tree.Scalar.TheVariants as scalar
use Rattle.rawk_words.specs.declared.array.Array.{Array}
use Rattle.rawk_words.specs.declared.array.Array.TheVariants as array

-- what each name stands for, where it does: a scalar, an array, or the number of a function;
-- and what each parameter of a function is, in their order, by the function's number
pub record Sense : Type 0 where
  pub scalar : List ℕ → Option Scalar
  pub array : List ℕ → Option Array
  pub function : List ℕ → Option ℕ
  pub kinds : ℕ → List Kind

-- where the parameters of a function stand among all variables
abbrev pub first_of_all : Option Signature → ℕ
first_of_all None = 0
first_of_all (Some s) = s.first

-- in a scope: 0 is outside functions, in a function it is one more than its number
abbrev pub first_parameter : Known → ℕ → ℕ
first_parameter names scope = first_of_all (slice_get names.signatures (scope - 1))

-- a parameter is a local, and the first one is local 0
abbrev pub variable_scalar : Known → ℕ → Variable → Scalar
variable_scalar names scope variable.FieldCount = scalar.FieldCount
variable_scalar names scope (variable.Global n) = scalar.Global n
variable_scalar names scope (variable.Parameter v) = scalar.Local (v - first_parameter names scope)

-- an array is no scalar: only its elements are (POSIX awk, "Variables and Special Variables")
abbrev pub unmarked_scalar : Known → ℕ → ℕ → Option Scalar
unmarked_scalar names scope v = if is_marked names.arrays v then None else Some (variable_scalar names scope (variable_of names v))

abbrev pub scalar_at : Known → ℕ → Option Meaning → Option Scalar
scalar_at names scope None = None
scalar_at names scope (Some (meaning.Function f)) = None
scalar_at names scope (Some (meaning.Variable v)) = unmarked_scalar names scope v

-- a global array has the number of its name among the globals that are not special; a special variable is no array
abbrev pub global_array : Known → ℕ → Option Array
global_array names v = if nat_lt v (end_of_last names.signatures) then None else Some (array.Global (v - end_of_last names.signatures))

-- a parameter that is an array is a local, as one that is a scalar is (POSIX awk, "User-Defined Functions")
abbrev pub variable_array : Known → ℕ → ℕ → Variable → Option Array
variable_array names scope v variable.FieldCount = None
variable_array names scope v (variable.Global n) = global_array names v
variable_array names scope v (variable.Parameter p) = Some (array.Local (p - first_parameter names scope))

abbrev pub marked_array : Known → ℕ → ℕ → Option Array
marked_array names scope v = if is_marked names.arrays v then variable_array names scope v (variable_of names v) else None

abbrev pub array_at : Known → ℕ → Option Meaning → Option Array
array_at names scope None = None
array_at names scope (Some (meaning.Function f)) = None
array_at names scope (Some (meaning.Variable v)) = marked_array names scope v

-- functions have numbers from 0, in the order of the text
abbrev pub function_of : Known → List ℕ → Option ℕ
function_of names word = place_of (array_key 0 word) names.functions

abbrev pub kind_of : Bool → Kind
kind_of true = kind.Array
kind_of false = kind.Scalar

-- those of one function stand side by side
abbrev pub kinds_at : Known → Option Signature → List Kind
kinds_at names None = []
kinds_at names (Some s) = map (λ v. kind_of (is_marked names.arrays v)) (range_with_len s.first (s.end - s.first))

-- what each parameter of a function is, a scalar or an array, in their order (POSIX awk, "User-Defined Functions")
abbrev pub parameter_kinds : Known → ℕ → List Kind
parameter_kinds names function = kinds_at names (slice_get names.signatures function)

-- by what is known of the names of a program, in each scope
abbrev pub sense : Known → ℕ → Sense
sense names scope = record {
  scalar = λ word. scalar_at names scope (meaning_of names scope word);
  array = λ word. array_at names scope (meaning_of names scope word);
  function = function_of names;
  kinds = parameter_kinds names;
}

abbrev pub sense_of : Scope → Sense
sense_of s = sense (known s.names.now) s.number

abbrev pub is_there : {A : Type 0} → Option A → Bool
is_there None = false
is_there (Some a) = true

-- the names of the globals that are not special, in the order in which they appear
abbrev pub global_words : Known → List (List ℕ)
global_words names = map (λ (entry : ArrayKey). entry.key) (own_globals names)

-- what variables are that stand side by side from this place on
abbrev pub kinds_from : Known → ℕ → List ArrayKey → List Kind
kinds_from names v [] = []
kinds_from names v (entry ∷ entries) = kind_of (is_marked names.arrays v) ∷ kinds_from names (suc v) entries

-- what each of these globals is, in the same order
abbrev pub global_kinds : Known → List Kind
global_kinds names = kinds_from names (end_of_last names.signatures) (own_globals names)
