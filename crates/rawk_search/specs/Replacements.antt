-- What a replacement of matches takes, and what it makes of a text (POSIX awk, `sub` and `gsub`).
use Rattle.std.specs.Prelude.{ℕ, zero, suc, ◌+◌, Bool, false, true, ◌&&◌, ◌||◌, if◌then◌else◌, nat_eq, nat_lt, List, [], ◌∷◌, ◌++◌, length, Option, None, Some, slice_range}
use Rattle.rawk_value.specs.Values.{Bytes}
use Rattle.rawk_ere_tree.specs.Tree.{Tree}
use Rattle.rawk_search.specs.declared.span.Span.{Span}
use Rattle.rawk_search.specs.Matches.{ends, greatest, first_span, places_from}

-- a match that is not empty ended at i
abbrev pub ended_at : Option ℕ → ℕ → Bool
ended_at None i = false
ended_at (Some q) i = nat_eq q i

-- the match from i to its end, but no empty one directly after a match that is not empty, which ended at `after`
abbrev pub span_after : Option ℕ → ℕ → Option ℕ → Option Span
span_after after i None = None
span_after after i (Some j) = if nat_eq i j && ended_at after i then None else Some (record { start = i; end = j })

-- the leftmost such match from p on, and the longest there
unfoldable pub next_cut : Bytes → Tree → ℕ → Option ℕ → Option Span
next_cut s e p after = first_span (λ i. span_after after i (greatest (ends true s e i))) p (places_from p s)

-- all of them from p on, at most `more`: after one that is not empty it goes on at its end, after an empty one a place further
abbrev pub cuts_from : Bytes → Tree → ℕ → ℕ → Option ℕ → List Span
cuts_from s e zero p after = []
cuts_from s e (suc more) p after = elim (next_cut s e p after) as (λ _. List Span) [
  | None ↦ []
  | Some m ↦ m ∷ (if nat_lt m.start m.end then cuts_from s e more m.end (Some m.end) else cuts_from s e more (m.start + 1) None)
]

-- all of them from p on: no two begin at one place
unfoldable pub cuts_on : Bytes → Tree → ℕ → Option ℕ → List Span
cuts_on s e p after = cuts_from s e (places_from p s) p after

-- the matches that `gsub` replaces in a text
abbrev pub cuts : Bytes → Tree → List Span
cuts s e = cuts_on s e 0 None

-- what stands for a match: a `&` is the match, `\&` an ampersand, `\\` a backslash, and any other byte itself
unfoldable pub replacement : Bytes → Bytes → Bytes
replacement found [] = []
replacement found (b ∷ []) = if nat_eq b 38 then found else b ∷ []
replacement found (b ∷ c ∷ rest) =
    if nat_eq b 92 && (nat_eq c 38 || nat_eq c 92) then c ∷ replacement found rest
    else if nat_eq b 38 then found ++ replacement found (c ∷ rest)
    else b ∷ replacement found (c ∷ rest)

-- the text from p on, with what stands for each of these spans in its place
unfoldable pub replaced : Bytes → Bytes → ℕ → List Span → Bytes
replaced by s p [] = slice_range s p (length s)
replaced by s p (m ∷ more) = slice_range s p m.start ++ (replacement (slice_range s m.start m.end) by ++ replaced by s m.end more)
