-- The expression that a pattern is, as a function (POSIX XBD 9.4, 9.5.3).
use Rattle.std.specs.Prelude.{ℕ, zero, suc, ◌+◌, ◌*◌, ◌^◌, Bool, true, false, not, ◌&&◌, ◌||◌, if◌then◌else◌, nat_eq, nat_le, List, [], ◌∷◌, ◌++◌, length, drop, Option, None, Some}
use Rattle.rawk_value.specs.Values.{Bytes}
use Rattle.rawk_ere_tree.specs.declared.node.Count.TheVariants.{Star, Plus, Maybe}
use Rattle.rawk_ere_tree.specs.Tree.{Tree, size_of, nesting_of}
use Rattle.rawk_ere_pattern.specs.declared.token.Token.{Token}
use Rattle.rawk_ere_pattern.specs.declared.token.Token.TheVariants as token
use Rattle.rawk_ere_pattern.specs.declared.bracket.BracketPlace.{BracketPlace}
use Rattle.rawk_ere_pattern.specs.declared.bracket.BracketPlace.TheVariants.{First}
use Rattle.rawk_ere_pattern.specs.declared.bracket.Item.{Item}
use Rattle.rawk_ere_pattern.specs.declared.byte_kind.ByteKind.{ByteKind}
use Rattle.rawk_ere_pattern.specs.declared.byte_kind.ByteKind.TheVariants as kind
use Rattle.rawk_ere_pattern.specs.Pattern.{begins, escape, ranges_in, item_at, closes, Braced, Itself, Wrong, Interval, braced, kind_of}
use Rattle.rawk_ere_pattern.specs.Reading.{fresh, run}

-- a number of n bits: the bit k says whether `from + k` passes the test
unfoldable pub word_of : (ℕ → Bool) → ℕ → ℕ → ℕ
word_of test from zero = 0
word_of test from (suc n) = (if test (from + n) then 1 else 0) * 2 ^ n + word_of test from n

-- the set of the bytes that pass the test
unfoldable pub set_of : (ℕ → Bool) → List ℕ
set_of test = word_of test 0 64 ∷ word_of test 64 64 ∷ word_of test 128 64 ∷ word_of test 192 64 ∷ []

abbrev pub one_of : (ℕ → Bool) → Bytes → Option (Token × Bytes)
one_of test s = Some (token.OneOf (set_of test), s)

-- the byte is in one of the ranges
abbrev pub in_ranges : List (ℕ × ℕ) → ℕ → Bool
in_ranges [] b = false
in_ranges (r ∷ rs) b = nat_le r.0 b && nat_le b r.1 || in_ranges rs b

-- the ranges of an item and those after it
abbrev pub with_item : Item → Option (List (ℕ × ℕ) × Bytes) → Option (List (ℕ × ℕ) × Bytes)
with_item item None = None
with_item item (Some r) = Some (ranges_in item ++ r.0, r.1)

-- the ranges of a bracket expression's items up to its closing `]`, and the text after it; each item takes a byte at least
abbrev pub items : ℕ → BracketPlace → Bytes → Option (List (ℕ × ℕ) × Bytes)
items zero p s = None
items (suc more) p s = if closes p s then Some ([], drop 1 s) else elim (item_at p s) as (λ _. Option (List (ℕ × ℕ) × Bytes)) [ None ↦ None | Some i ↦ with_item i.0 (items more i.1 i.2) ]

-- the bytes of the ranges, or with `negated` the others
abbrev pub bracketed : Bool → Option (List (ℕ × ℕ) × Bytes) → Option (Token × Bytes)
bracketed negated None = None
bracketed negated (Some r) = one_of (λ b. if negated then not (in_ranges r.0 b) else in_ranges r.0 b) r.1

-- the bracket expression that the text after a `[` is
abbrev pub bracket : Bytes → Option (Token × Bytes)
bracket s = if begins 94 s then bracketed true (items (length s + 1) First (drop 1 s)) else bracketed false (items (length s + 1) First s)

abbrev pub escaped : Option (ℕ × Bytes) → Option (Token × Bytes)
escaped None = None
escaped (Some e) = one_of (λ b. nat_eq b e.0) e.1

abbrev pub brace : Bytes → Braced → Option (Token × Bytes)
brace s Itself = one_of (λ b. nat_eq b 123) s
brace s Wrong = None
brace s (Interval count after) = Some (token.Times count, after)

-- the token that a byte and the text after it begin with, and the text after the token
abbrev pub first_token : ByteKind → ℕ → Bytes → Option (Token × Bytes)
first_token kind.Ordinary b s = one_of (λ k. nat_eq k b) s
first_token kind.Any b s = one_of (λ _. true) s
first_token kind.Start b s = Some (token.Start, s)
first_token kind.End b s = Some (token.End, s)
first_token kind.Bar b s = Some (token.Bar, s)
first_token kind.Open b s = Some (token.Open, s)
first_token kind.Close b s = Some (token.Close, s)
first_token kind.Star b s = Some (token.Times Star, s)
first_token kind.Plus b s = Some (token.Times Plus, s)
first_token kind.Maybe b s = Some (token.Times Maybe, s)
first_token kind.Backslash b s = escaped (escape s)
first_token kind.Bracket b s = bracket s
first_token kind.Brace b s = brace s (braced s)

abbrev pub with_token : Token → Option (List Token) → Option (List Token)
with_token t None = None
with_token t (Some ts) = Some (t ∷ ts)

-- the tokens of a text; each takes a byte at least
abbrev pub tokens : ℕ → Bytes → Option (List Token)
tokens zero s = None
tokens (suc more) [] = Some []
tokens (suc more) (b ∷ s) = elim (first_token (kind_of b) b s) as (λ _. Option (List Token)) [ None ↦ None | Some r ↦ with_token r.0 (tokens more r.1) ]

abbrev pub read : Option (List Token) → Option Tree
read None = None
read (Some ts) = run [] fresh ts

-- the expression, if it is within the limits
abbrev pub limited : Option Tree → Option Tree
limited None = None
limited (Some e) = if nat_le (size_of e) 65536 && nat_le (nesting_of e) 200 then Some e else None

-- the expression that a pattern is, if it is one within the limits
unfoldable pub ere_of : Bytes → Option Tree
ere_of pattern = limited (read (tokens (length pattern + 1) pattern))
