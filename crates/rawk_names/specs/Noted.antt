-- What each mention of a name means, and the variables as they appear.
use Rattle.std.specs.Prelude.{ℕ, ◌+◌, ◌-◌, ◌==◌, Bool, false, if◌then◌else◌, nat_lt, nat_le, List, [], ◌∷◌, ◌++◌, slice_get, Option, Some, None}
use Rattle.rawk_parsing.specs.declared.tree.Name.{Name}
use Rattle.rawk_keys.specs.ArrayKey.{ArrayKey, array_key}
use Rattle.rawk_names.specs.declared.usage.Manner.{Manner}
use Rattle.rawk_names.specs.declared.usage.Manner.TheVariants.{Scalar, Array, Either, Argument}
use Rattle.rawk_names.specs.declared.usage.What.{What}
use Rattle.rawk_names.specs.declared.usage.What.TheVariants as what
use Rattle.rawk_names.specs.declared.usage.Usage.{Usage}
use Rattle.rawk_names.specs.declared.usage.Signature.{Signature}
use Rattle.rawk_names.specs.declared.register.Register.{Register}
use Rattle.rawk_names.specs.Table.{place_of, numbered}
use Rattle.rawk_names.specs.Mentions.{Mention, AsScalar, AsArray, Measured, Passed, Computed, Called, Pattern}

abbrev pub Word : Type 0
Word = List ℕ

-- What is known of the names. A scope is 0 outside functions, else one more than the number of the function. The variables are first the
-- special ones, then the parameters of all functions, each with its function's scope, then the other globals in the order in which they appear.
pub record Noted : Type 0 where
  pub scope : ℕ
  pub functions : List ArrayKey
  pub signatures : List Signature
  pub variables : List ArrayKey
  pub patterns : List ArrayKey
  pub uses : List Usage

abbrev pub shown : Register → Noted
shown r = record { scope = r.scope; functions = r.functions; signatures = r.signatures.items; variables = r.variables; patterns = r.patterns; uses = r.uses.items }

abbrev pub with_use : ℕ → What → Noted → Noted
with_use left what n = record n { uses = n.uses ++ record { left = left; what = what } ∷ [] }

-- PART 1: names

abbrev pub global : Word → Noted → Option ℕ × Noted
global word n = (Some (numbered (array_key 0 word) n.variables).0, record n { variables = (numbered (array_key 0 word) n.variables).1 })

-- a name that is no parameter: a function, which is no variable, or a global
abbrev pub outer_at : Word → Noted → Option ℕ → Option ℕ × Noted
outer_at word n (Some function) = (None, n)
outer_at word n None = global word n

abbrev pub meant_at : Word → Noted → Option ℕ → Option ℕ × Noted
meant_at word n (Some variable) = (Some variable, n)
meant_at word n None = outer_at word n (place_of (array_key 0 word) n.functions)

-- the variable that a name means, if it means one, and the variables then
unfoldable pub meant : Word → Noted → Option ℕ × Noted
meant word n = meant_at word n (place_of (array_key n.scope word) n.variables)

abbrev pub use_of : Manner → Option ℕ → What
use_of manner (Some variable) = what.Named manner variable
use_of manner None = what.Misuse

-- a name used in a manner
unfoldable pub named : Manner → Name → Noted → Noted
named manner x n = with_use x.left (use_of manner (meant x.word n).0) (meant x.word n).1

-- PART 2: calls

abbrev pub parameter_of : Option Signature → ℕ → Option ℕ
parameter_of None i = None
parameter_of (Some s) i = if nat_lt i (s.end - s.first) then Some (s.first + i) else None

abbrev pub parameter_at : List Signature → Option ℕ → ℕ → Option ℕ
parameter_at signatures None i = None
parameter_at signatures (Some f) i = parameter_of (slice_get signatures f) i

-- the variable that takes an argument
unfoldable pub parameter : Word → ℕ → Noted → Option ℕ
parameter word i n = parameter_at n.signatures (place_of (array_key 0 word) n.functions) i

abbrev pub takes_of : Option Signature → ℕ → Bool
takes_of None count = false
takes_of (Some s) count = nat_le count (s.end - s.first)

abbrev pub takes_at : List Signature → Option ℕ → ℕ → Bool
takes_at signatures None count = false
takes_at signatures (Some f) count = takes_of (slice_get signatures f) count

-- whether the name is a function that takes `count` arguments
unfoldable pub takes : Word → ℕ → Noted → Bool
takes word count n = takes_at n.signatures (place_of (array_key 0 word) n.functions) count

abbrev pub manner_of : Option ℕ → Manner
manner_of None = Either
manner_of (Some p) = Argument p

abbrev pub computed_at : ℕ → Noted → Option ℕ → Noted
computed_at left n None = n
computed_at left n (Some p) = with_use left (what.Value p) n

abbrev pub patterned : ℕ → ℕ × List ArrayKey → Noted → Noted
patterned left found n = with_use left (what.Pattern found.0) (record n { patterns = found.1 })

-- PART 3: mentions

unfoldable pub computed : Name → ℕ → Noted → Noted
computed f i n = computed_at f.left n (parameter f.word i n)

unfoldable pub called : Name → ℕ → Noted → Noted
called f count n = if takes f.word count n then n else with_use f.left what.Misuse n

unfoldable pub pattern : ℕ → Word → Noted → Noted
pattern left w n = patterned left (numbered (array_key 0 w) n.patterns) n

abbrev pub noted : Mention → Noted → Noted
noted (AsScalar x) n = named Scalar x n
noted (AsArray x) n = named Array x n
noted (Measured x) n = named Either x n
noted (Passed x f i) n = named (manner_of (parameter f.word i n)) x n
noted (Computed f i) n = computed f i n
noted (Called f count) n = called f count n
noted (Pattern left w) n = pattern left w n

abbrev pub noted_all : List Mention → Noted → Noted
noted_all [] n = n
noted_all (m ∷ ms) n = noted_all ms (noted m n)

-- PART 4: regular expressions

abbrev pub is_pattern : What → ℕ → Bool
is_pattern (what.Pattern n) number = n == number
is_pattern _ number = false

-- the place of the first use of a pattern
abbrev pub pattern_left : ℕ → List Usage → ℕ
pattern_left number [] = 0
pattern_left number (u ∷ us) = if is_pattern u.what number then u.left else pattern_left number us
