-- The next record of an input (POSIX awk, "Variables and Special Variables": RS).
use Rattle.std.specs.Prelude.{ℕ, ◌+◌, Bool, true, ◌&&◌, ◌||◌, ◌==◌, nat_lt, if◌then◌else◌, [], ◌∷◌, length, take, drop, Option, None, Some, Result, Ok, Err}
use Rattle.std.specs.List.{prefix_len, position_or_len}
use Rattle.rawk_value.specs.Values.{Bytes, begins, is_empty}
use Rattle.rawk_value.specs.declared.fault.Fault.{Fault}
use Rattle.rawk_value.specs.declared.fault.Fault.TheVariants.{BadSeparator, ReadFailed}
use Rattle.rawk_devices.specs.Inputs.{Input}
use Rattle.rawk_ere_tree.specs.Tree.{Tree}
use Rattle.rawk_search.specs.declared.span.Span.{Span}
use Rattle.rawk_search.specs.Expressions.{ere_of}
use Rattle.rawk_search.specs.Matches.{first_nonempty, open_match}

-- a record, and how many bytes of the input are consumed then
pub record Found : Type 0 where
  pub text : Bytes
  pub count : ℕ

abbrev pub found : Bytes → ℕ → Result (Option Found) Fault
found text count = Ok (Some (record { text = text; count = count }))

-- the rest of the input is the last record, which needs no byte after it
abbrev pub last_line : Bool → Bytes → ℕ → Result (Option Found) Fault
last_line fails rest count =
    if fails then Err ReadFailed
    else if is_empty rest then Ok None
    else found rest (count + length rest)

-- a record ends at the first separator, which is consumed with it
abbrev pub next_line : ℕ → Bool → Bytes → ℕ → Result (Option Found) Fault
next_line separator fails rest count =
    let size = position_or_len (λ b. b == separator) rest in
    if nat_lt size (length rest) then found (take size rest) (count + size + 1)
    else last_line fails rest count

abbrev pub is_newline : ℕ → Bool
is_newline b = b == 10

abbrev pub ends_here : Bytes → Bool
ends_here text = is_empty text || begins is_newline text

-- how many bytes stand before the first newline that a newline or the end follows
abbrev pub to_break : Bytes → ℕ
to_break [] = 0
to_break (b ∷ bs) = if is_newline b && ends_here bs then 0 else to_break bs + 1

-- a record ends at a run of two or more newlines; newlines before it are skipped
abbrev pub next_paragraph : Bool → Bytes → ℕ → Result (Option Found) Fault
next_paragraph fails rest count =
    let first = prefix_len is_newline rest in
    let size = to_break (drop first rest) in
    let after = first + size + prefix_len is_newline (drop (first + size) rest) in
    if fails && after == length rest then Err ReadFailed
    else if first == length rest then Ok None
    else found (take size (drop first rest)) (count + after)

-- what separates: the leftmost match that is not empty, the longest there; where a failed read ends the input, only one that the bytes before it settle
abbrev pub separator_in : Tree → Bool → Bytes → Option Span
separator_in e fails rest = if fails then open_match rest e 0 else first_nonempty true rest e 0

-- a record ends where what separates begins, which is consumed with it
abbrev pub ended_by : Option Span → Bool → Bytes → ℕ → Result (Option Found) Fault
ended_by (Some m) fails rest count = found (take m.start rest) (count + m.end)
ended_by None fails rest count = last_line fails rest count

-- a record ends at the first match of the expression; a text that is none is refused
abbrev pub next_match : Option Tree → Bool → Bytes → ℕ → Result (Option Found) Fault
next_match (Some e) fails rest count = ended_by (separator_in e fails rest) fails rest count
next_match None fails rest count = Err BadSeparator

-- the next record after `count` bytes, by a record separator: empty, of one byte, or (which POSIX leaves open) an extended regular expression, of which `^` holds at the record's first byte and `$` at the input's end
abbrev pub next_record : Input → ℕ → Bytes → Result (Option Found) Fault
next_record input count [] = next_paragraph input.fails (drop count input.bytes) count
next_record input count (b ∷ []) = next_line b input.fails (drop count input.bytes) count
next_record input count (b ∷ c ∷ more) = next_match (ere_of (b ∷ c ∷ more)) input.fails (drop count input.bytes) count
