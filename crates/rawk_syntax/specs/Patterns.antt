-- The regular expressions that stand in a program: each is one, or the first that is none has a place.
use Rattle.std.specs.Prelude.{◌≡◌, ◌<◌, ◌⊎◌, ℕ, List, length, slice_get, Some}
use Rattle.rawk_ere_tree.specs.Tree.{Tree, IsWithinLimits}
use Rattle.rawk_ere_pattern.specs.declared.error.EreError.TheVariants as ere
use Rattle.rawk_ere_pattern.specs.PatternOf.{IsPatternOf}
use Rattle.rawk_ere_pattern.specs.PatternOf as reading
use Rattle.rawk_keys.specs.ArrayKey.{ArrayKey}
use Rattle.rawk_names.specs.declared.usage.Usage.{Usage}
use Rattle.rawk_names.specs.Noted.{Word, Noted, pattern_left}

-- a regular expression within the limits
abbrev pub IsReadable : Word → Type 0
IsReadable pattern = (e : Tree) × IsPatternOf pattern e × IsWithinLimits e

abbrev pub AreReadable : List ArrayKey → ℕ → Type 0
AreReadable patterns n = (k : ℕ) (entry : ArrayKey) → k < n → slice_get patterns k ≡ Some entry → IsReadable entry.key

-- each regular expression is one, within the limits
abbrev pub AllReadable : Noted → Type 0
AllReadable noted = AreReadable noted.patterns (length noted.patterns)

-- no regular expression, or one beyond the limits
abbrev pub IsBad : Word → Type 0
IsBad pattern = reading.IsRefused ere.Syntax pattern ⊎ reading.IsRefused ere.TooLarge pattern

abbrev pub IsBadAt : List ArrayKey → ℕ → Type 0
IsBadAt patterns k = (entry : ArrayKey) × (slice_get patterns k ≡ Some entry) × IsBad entry.key

-- the first pattern that is none: all before it are some
abbrev pub IsFirstBad : List ArrayKey → ℕ → Type 0
IsFirstBad patterns k = IsBadAt patterns k × AreReadable patterns k

-- the place where the first pattern that is none stands first
abbrev pub IsBadPlace : List ArrayKey → List Usage → ℕ → Type 0
IsBadPlace patterns uses left = (k : ℕ) × IsFirstBad patterns k × (left ≡ pattern_left k uses)
