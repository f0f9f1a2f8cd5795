-- The fields of a text (POSIX awk, Variables and Special Variables, FS; Regular Expressions).
use Rattle.std.specs.Prelude.{ℕ, zero, suc, ◌+◌, Bool, true, not, ◌&&◌, ◌||◌, ◌==◌, nat_lt, if◌then◌else◌, List, [], ◌∷◌, length, drop, map, filter, slice_range, Option, None, Some, Result, Ok, Err}
use Rattle.std.specs.List.{slice_split, position_or_len}
use Rattle.rawk_value.specs.Values.{Bytes, is_blank, is_empty}
use Rattle.rawk_value.specs.declared.fault.Fault.{Fault}
use Rattle.rawk_value.specs.declared.fault.Fault.TheVariants.{BadEre}
use Rattle.rawk_ere_tree.specs.Tree.{Tree}
use Rattle.rawk_search.specs.declared.span.Span.{Span}
use Rattle.rawk_search.specs.Matches.{first_nonempty}
use Rattle.rawk_search.specs.Expressions.{ere_of}

-- the runs of bytes other than blanks
abbrev pub words : Bytes → List Bytes
words s = filter (λ word. not (is_empty word)) (slice_split is_blank s)

-- what stands between separators; an empty record has no fields
abbrev pub byte_parts : (ℕ → Bool) → Bytes → List Bytes
byte_parts is s = if is_empty s then [] else slice_split is s

-- the byte at a place of a text as a stretch of it
abbrev pub one_byte : Bytes → ℕ → Option Span
one_byte s i = if nat_lt i (length s) then Some (record { start = i; end = i + 1 }) else None

-- the first newline from a place on
abbrev pub next_newline : Bytes → ℕ → Option Span
next_newline s p = one_byte s (p + position_or_len (λ b. b == 10) (drop p s))

-- the same where a newline separates
abbrev pub newline_from : Bool → Bytes → ℕ → Option Span
newline_from newline s p = if newline then next_newline s p else None

-- whether the second stretch comes first: it begins before the other, or it begins where that does and is longer
abbrev pub comes_first : Span → Span → Bool
comes_first a b = nat_lt b.start a.start || b.start == a.start && nat_lt a.end b.end

-- the nearer of two stretches, and the longer at one place
abbrev pub nearer : Option Span → Option Span → Option Span
nearer None b = b
nearer (Some a) None = Some a
nearer (Some a) (Some b) = if comes_first a b then Some b else Some a

-- the next separator from a place on: a match that is not empty, or where newlines separate too, a newline
abbrev pub next_separator : Tree → Bool → Bytes → ℕ → Option Span
next_separator e newline s p = nearer (first_nonempty true s e p) (newline_from newline s p)

-- what stands between the separators from a place on, in at most `turns` turns
abbrev pub between : (ℕ → Option Span) → Bytes → ℕ → ℕ → List Bytes
between next s zero p = []
between next s (suc turns) p =
    elim (next p) as (λ _. List Bytes) [
      | None ↦ slice_range s p (length s) ∷ []
      | Some cut ↦ slice_range s p cut.start ∷ between next s turns cut.end
    ]

-- what stands between the matches of an expression; an empty text has no fields
abbrev pub ere_parts : Tree → Bool → Bytes → List Bytes
ere_parts e newline s = if is_empty s then [] else between (next_separator e newline s) s (length s + 1) 0

-- the same of an expression by its text, which may be refused
abbrev pub dynamic_parts : Option Tree → Bool → Bytes → Result (List Bytes) Fault
dynamic_parts None newline s = Err BadEre
dynamic_parts (Some e) newline s = Ok (ere_parts e newline s)

-- the fields of a text by a separator: nothing, one space, another byte, or an extended regular expression; `newline` says whether a newline separates too
abbrev pub fields_of : Bytes → Bytes → Bool → Result (List Bytes) Fault
fields_of s [] newline = Ok (map (λ b. b ∷ []) s)
fields_of s (b ∷ []) newline = if b == 32 then Ok (words s) else Ok (byte_parts (λ c. c == b || newline && c == 10) s)
fields_of s (b ∷ c ∷ more) newline = dynamic_parts (ere_of (b ∷ c ∷ more)) newline s
