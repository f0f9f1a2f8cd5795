-- What `sub` and `gsub` make of a text (POSIX awk, String Functions).
use Rattle.std.specs.Prelude.{◌≡◌, ℕ, Bool, true, false, ◌||◌, nat_eq, slice_index, EachIndex, List, [], ◌∷◌, length, Option, None, Some}
use Rattle.std.specs.Option.{option_map}
use Rattle.rawk_value.specs.Values.{Bytes}
use Rattle.rawk_words.specs.declared.operator.Extent.{Extent}
use Rattle.rawk_words.specs.declared.operator.Extent.TheVariants.{First, All}
use Rattle.rawk_search.specs.declared.span.Span.{Span}
use Rattle.rawk_search.specs.Expressions.{ere_of}
use Rattle.rawk_search.specs.Replacements.{cuts, replaced}

-- a text with replacements, and how many there are
pub record Replaced : Type 0 where
  pub text : Bytes
  pub count : ℕ

-- a text that was made with a number of replacements; none: no text was made
abbrev pub made_with : Bytes → Option ℕ → Option Replaced
made_with text None = None
made_with text (Some n) = Some (record { text = text; count = n })

-- the matches that are replaced: the first one, or all
abbrev pub taken : Extent → List Span → List Span
taken First [] = []
taken First (m ∷ ms) = m ∷ []
taken All ms = ms

-- the text with these matches replaced, and how many they are, where there are some
abbrev pub made : Bytes → Bytes → List Span → Option Replaced
made by text [] = None
made by text (m ∷ ms) = Some (record { text = replaced by text 0 (m ∷ ms); count = length (m ∷ ms) })

-- a backslash of a replacement of which the next byte says what it stands for
abbrev pub held : Bool → Bytes
held true = 92 ∷ []
held false = []

-- each byte of a replacement stands for itself
abbrev pub IsPlain : Bytes → Type 0
IsPlain by = EachIndex by (λ k. (nat_eq (slice_index by k) 38 || nat_eq (slice_index by k) 92) ≡ false)

-- what becomes of a text; none: the text of the expression is no expression within the limits
abbrev pub replaced_by : Extent → Bytes → Bytes → Bytes → Option (Option Replaced)
replaced_by extent expression by text = option_map (λ e. made by text (taken extent (cuts text e))) (ere_of expression)
