-- What operators and functions make of values, after POSIX.1-2017, utility awk, sections `Expressions in awk`, `Arithmetic Functions`, `String Functions`.
use Rattle.std.specs.Prelude.{◌+◌, ◌-◌, pos, negsuc, neg_ℤ, Bool, false, not, List, ◌++◌, length, map, Option, Some, None, Result, Ok, Err}
use Rattle.rawk_value.specs.declared.value.Value.{Value}
use Rattle.rawk_value.specs.declared.value.Value.TheVariants.{Number, String}
use Rattle.rawk_value.specs.declared.fault.Fault.{Fault}
use Rattle.rawk_value.specs.declared.fault.Fault.TheVariants.{BadEre}
use Rattle.rawk_value.specs.Values.{Bytes, next_ok, checked, number_of, int_of, text_of, truth_of, flag, order_of, holds, combined}
use Rattle.rawk_format.specs.Format.{formatted}
use Rattle.rawk_builtins.specs.Builtins.{place_of, substring, lower, upper}
use Rattle.rawk_search.specs.declared.span.Span.{Span}
use Rattle.rawk_search.specs.Patterns.{pattern_of, match_of, is_found}
use Rattle.rawk_replacements.specs.Replaced.{Replaced, replaced_by}
use Rattle.rawk_words.specs.declared.operator.Extent.{Extent}
use Rattle.rawk_search.specs.Expressions.{ere_of}
use Rattle.rawk_pieces.specs.Fields.{dynamic_parts, fields_of}
use Rattle.rawk_operators.specs.declared.searches.Match.{Match}
use Rattle.rawk_words.specs.declared.operator.Sign.{Sign}
use Rattle.rawk_words.specs.declared.operator.Sign.TheVariants as sign
use Rattle.rawk_tree.specs.declared.tree.Joiner.{Joiner}
use Rattle.rawk_tree.specs.declared.tree.Joiner.TheVariants as joiner
use Rattle.rawk_tree.specs.declared.tree.Separation.{Separation}
use Rattle.rawk_tree.specs.declared.tree.Separation.TheVariants as separation
use Rattle.rawk_tree.specs.declared.tree.Unary.{Unary}
use Rattle.rawk_tree.specs.declared.tree.Unary.TheVariants as unary

-- what was found, or the fault of a text that is no expression
abbrev pub found_or : {A : Type 0} → Option A → Result A Fault
found_or None = Err BadEre
found_or (Some found) = Ok found

-- whether the text of a value has a match of the expression that the text of another one is (Regular Expressions)
abbrev pub matched : Value → Value → Result Bool Fault
matched v w = found_or (is_found (text_of w) (text_of v))

-- a match, by its place from 1 and how many bytes it has; 0 and -1 where there is none
abbrev pub told : Option Span → Match
told None = record { start = pos 0; length = negsuc 0 }
told (Some m) = record { start = pos (m.start + 1); length = pos (m.end - m.start) }

-- the leftmost match in the text of a value of the expression that the text of another one is, and the longest there (String Functions, match)
abbrev pub found_in : Value → Value → Result Match Fault
found_in v w = next_ok (found_or (match_of (text_of w) (text_of v))) (λ found. Ok (told found))

-- the expression that the text of a value is, by that text
abbrev pub expression_of : Value → Result Bytes Fault
expression_of v = found_or (pattern_of (text_of v))

-- the text of a value where matches of an expression are replaced, and how many; none where nothing matches (String Functions, sub, gsub)
abbrev pub replaced_in : Extent → Value → Value → Value → Result (Option Replaced) Fault
replaced_in extent expression by v = found_or (replaced_by extent (text_of expression) (text_of by) (text_of v))

-- the parts of a text between its separators: as the same text in FS separates, or as an expression of any length does (String Functions, split)
abbrev pub parts_between : Separation → Bytes → Bytes → Result (List Bytes) Fault
parts_between separation.Fields s by = fields_of s by false
parts_between separation.Matches s by = dynamic_parts (ere_of by) false s

-- the same of the texts of two values
abbrev pub separated : Separation → Value → Value → Result (List Bytes) Fault
separated how v w = parts_between how (text_of v) (text_of w)

-- what two values make: a number; 1 where a comparison holds, and else 0; their texts side by side; the place of a text in another; the part of a text from a place on; 1 where the one text has a match of the other, and else 0, or the other way round
abbrev pub both_make : Joiner → Value → Value → Result Value Fault
both_make (joiner.Arithmetic op) v w = next_ok (number_of v) (λ x. next_ok (number_of w) (λ y. next_ok (combined op x y) (λ z. Ok (Number z))))
both_make (joiner.Comparison comparison) v w = next_ok (order_of v w) (λ order. Ok (flag (holds comparison order)))
both_make joiner.Concat v w = Ok (String (text_of v ++ text_of w))
both_make joiner.Index v w = Ok (Number (pos (place_of (text_of v) (text_of w))))
both_make joiner.Substr v w = next_ok (number_of w) (λ m. Ok (String (substring (text_of v) m None)))
both_make joiner.Matches v w = next_ok (matched v w) (λ b. Ok (flag b))
both_make joiner.NotMatches v w = next_ok (matched v w) (λ b. Ok (flag (not b)))

-- what a sign makes of a value: its number, that number with the other sign, or 1 where the value is false, and else 0
abbrev pub signed : Sign → Value → Result Value Fault
signed sign.Plus v = next_ok (number_of v) (λ x. Ok (Number x))
signed sign.Minus v = next_ok (number_of v) (λ x. next_ok (checked (neg_ℤ x)) (λ y. Ok (Number y)))
signed sign.Not v = next_ok (truth_of v) (λ b. Ok (flag (not b)))

-- what an operator or a function of one operand makes of a value
abbrev pub one_makes : Unary → Value → Result Value Fault
one_makes (unary.Sign s) v = signed s v
one_makes unary.Length v = Ok (Number (pos (length (text_of v))))
one_makes unary.ToLower v = Ok (String (map lower (text_of v)))
one_makes unary.ToUpper v = Ok (String (map upper (text_of v)))
one_makes unary.Int v = next_ok (int_of v) (λ x. Ok (Number x))

-- the part of a text from a place on, n bytes
abbrev pub part_of : Value → Value → Value → Result Value Fault
part_of v m n = next_ok (number_of m) (λ x. next_ok (number_of n) (λ y. Ok (String (substring (text_of v) x (Some y)))))

-- what a format makes of its arguments, in their order
abbrev pub formatted_by : Value → List Value → Result Bytes Fault
formatted_by format vs = formatted (text_of format) vs
