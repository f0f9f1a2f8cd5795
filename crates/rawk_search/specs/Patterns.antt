-- What the text of a pattern finds in another text. None: the text of the pattern is no expression within the limits.
use Rattle.std.specs.Prelude.{Bool, Option}
use Rattle.std.specs.Option.{option_map, is_some}
use Rattle.rawk_value.specs.Values.{Bytes}
use Rattle.rawk_search.specs.declared.span.Span.{Span}
use Rattle.rawk_search.specs.Expressions.{ere_of}
use Rattle.rawk_search.specs.Matches.{first_match}

-- the text itself
abbrev pub pattern_of : Bytes → Option Bytes
pattern_of pattern = option_map (λ e. pattern) (ere_of pattern)

-- the leftmost match, and the longest there
abbrev pub match_of : Bytes → Bytes → Option (Option Span)
match_of pattern text = option_map (λ e. first_match text e 0) (ere_of pattern)

-- whether there is a match
abbrev pub is_found : Bytes → Bytes → Option Bool
is_found pattern text = option_map is_some (match_of pattern text)
