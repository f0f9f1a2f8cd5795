-- Small expressions and what they find, computed from the definitions.
use Rattle.std.specs.Prelude.{◌≡◌, ℕ, ◌+◌, ◌^◌, [], ◌∷◌, Option, None, Some, codes}
use Rattle.std.proofs.Common.{refl}
use Rattle.rawk_value.specs.Values.{Bytes}
use Rattle.rawk_ere_tree.specs.declared.node.Count.TheVariants.{Star, Between}
use Rattle.rawk_ere_tree.specs.Tree.{Tree, OneOf, Join, Either, Repeat}
use Rattle.rawk_ere_pattern.specs.Pattern.{item_at}
use Rattle.rawk_search.specs.declared.span.Span.{Span}
use Rattle.rawk_search.specs.Expressions.{ere_of, set_of, word_of}
use Rattle.rawk_search.specs.Matches.{ends, first_match}

-- a byte from `@` to DEL, which stands in the second word of a set
abbrev byte : ℕ → Tree
byte n = OneOf (0 ∷ 2 ^ n ∷ 0 ∷ 0 ∷ [])

-- two to three: one more than two at most
interval : ere_of (codes "a{2,3}") ≡ Some (Repeat (byte 33) (Between 2 1))
unfolding ere_of set_of word_of
interval = refl

-- a `]` that is the first item does not close
bracket-first : ere_of (codes "[]a]") ≡ Some (OneOf (0 ∷ (2 ^ 29 + 2 ^ 33) ∷ 0 ∷ 0 ∷ []))
unfolding ere_of set_of word_of item_at
bracket-first = refl

-- what stands side by side binds more than `|`
alternation : ere_of (codes "a|bc*") ≡ Some (Either (byte 33) (Join (byte 34) (Repeat (byte 35) Star)))
unfolding ere_of set_of word_of
alternation = refl

-- `)` is missing, and an interval that ends before it begins
unclosed : ere_of (codes "(a") ≡ None
unfolding ere_of set_of word_of
unclosed = refl

backward : ere_of (codes "a{3,2}") ≡ None
unfolding ere_of set_of word_of
backward = refl

-- what a pattern finds first in a text
abbrev found_by : Option Tree → Bytes → Option Span
found_by None text = None
found_by (Some e) text = first_match text e 0

abbrev find : Bytes → Bytes → Option Span
find pattern text = found_by (ere_of pattern) text

abbrev from_to : ℕ → ℕ → Option Span
from_to start end = Some (record { start = start; end = end })

-- the leftmost, and the longest there
longest : find (codes "a{2,3}") (codes "baaaa") ≡ from_to 1 4
unfolding ere_of set_of word_of first_match ends
longest = refl

longer-branch : find (codes "a|ab") (codes "xabc") ≡ from_to 1 3
unfolding ere_of set_of word_of first_match ends
longer-branch = refl

leftmost-empty : find (codes "b*") (codes "ab") ≡ from_to 0 0
unfolding ere_of set_of word_of first_match ends
leftmost-empty = refl

-- `^` holds at the first byte alone, and `$` behind the last
not-first : find (codes "^b") (codes "ab") ≡ None
unfolding ere_of set_of word_of first_match ends
not-first = refl

at-the-end : find (codes "a$") (codes "aa") ≡ from_to 1 2
unfolding ere_of set_of word_of first_match ends
at-the-end = refl
