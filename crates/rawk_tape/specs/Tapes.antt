-- What is held of an input, and what an answer of places in it means.
use Rattle.std.specs.Prelude.{true, ◌≡◌, ◌≢◌, ◌≤◌, ◌<◌, ℕ, ◌+◌, ◌-◌, ◌++◌, max, nat_le, if◌then◌else◌, drop, length, Option, None, Some, Result, Ok, Err, slice_range}
use Rattle.rawk_value.specs.Values.{Bytes}
use Rattle.rawk_value.specs.declared.fault.Fault.{Fault}
use Rattle.rawk_value.specs.declared.fault.Fault.TheVariants.{ReadFailed, OutOfMemory}
use Rattle.rawk_ere_tree.specs.Tree.{Tree}
use Rattle.rawk_search.specs.declared.span.Span.{Span}
use Rattle.rawk_search.specs.Expressions.{ere_of}
use Rattle.rawk_devices.specs.Inputs.{Input, before, CountsUp}
use Rattle.rawk_tape.specs.Records.{Found, next_record}
use Rattle.rawk_devices.specs.declared.source.Ending.{Ending}
use Rattle.rawk_tape.specs.declared.found.Found.{Found as Place}

-- the source of what is still to come, the bytes read and kept, and how many of them are consumed
pub record TapeState (S : Type 0) : Type 0 where
  pub source : S
  pub bytes : Bytes
  pub consumed : ℕ

-- the input, from the first kept byte on, may be this one
pub record MayBe {S : Type 0} (may_give : S → Input → Type 0) (tape : TapeState S) (input : Input) : Type 0 where
  pub rest : Input
  pub comes : may_give tape.source rest
  pub whole : input ≡ before tape.bytes rest

-- one read: bytes that the source handed out, at least one unless it is over, stand behind those held
pub record ReadsOn {S : Type 0} (may_give : S → Input → Type 0) (over : S → Option Ending) (handed : S → ℕ) (old : S) (held : Bytes) (new : S) (now : Bytes) : Type 0 where
  pub chunk : Bytes
  pub grown : now ≡ held ++ chunk
  pub bounded : length chunk ≤ 65536
  pub progress : over new ≡ None → 0 < length chunk
  pub comes : (rest : Input) → may_give new rest → may_give old (before chunk rest)
  pub counted : CountsUp (handed old) (handed new) (length chunk)

-- any number of reads: the bytes held stay and more stand behind them, each input that may be now might have been before, and nothing is asked of a source that is over
pub record ReadsAhead {S : Type 0} (may_give : S → Input → Type 0) (over : S → Option Ending) (handed : S → ℕ) (old new : TapeState S) : Type 0 where
  pub input : (input : Input) → MayBe may_give new input → MayBe may_give old input
  pub consumed : new.consumed ≡ old.consumed
  pub grown : new.bytes ≡ old.bytes ++ drop (length old.bytes) new.bytes
  pub longer : length old.bytes ≤ length new.bytes
  pub counted : CountsUp (handed old.source) (handed new.source) (length new.bytes - length old.bytes)
  pub closed : (ending : Ending) → over old.source ≡ Some ending → new ≡ old

-- how many bytes are consumed once a count is: of more than are kept, as many as before
abbrev pub consumed_by : {S : Type 0} → TapeState S → ℕ → ℕ
consumed_by tape count = if nat_le count (length tape.bytes) then count else tape.consumed

-- with `count` of its bytes consumed the tape is the earlier one, but for bytes read ahead
pub record LeadsBack {S : Type 0} (may_give : S → Input → Type 0) (over : S → Option Ending) (handed : S → ℕ) (now : TapeState S) (count : ℕ) (earlier : TapeState S) : Type 0 where
  pub fits : count ≤ length now.bytes
  pub ahead : ReadsAhead may_give over handed earlier (record now { consumed = count })

-- bytes do not settle the next record: an input that failed behind them would have none
abbrev pub IsUnsettled : Bytes → Bytes → ℕ → Type 0
IsUnsettled separator bytes consumed = next_record (record { bytes = bytes; fails = true }) consumed separator ≡ Err ReadFailed

-- the bytes held at first did not settle the next record, nor did those before the last read, which gave at most 65,536
pub record LastRead (separator : Bytes) (consumed : ℕ) (old new : Bytes) : Type 0 where
  pub held : Bytes
  pub chunk : Bytes
  pub before : held ≡ old ++ drop (length old) held
  pub whole : new ≡ held ++ chunk
  pub bounded : length chunk ≤ 65536
  pub first : IsUnsettled separator old consumed
  pub last : IsUnsettled separator held consumed

-- a separator of several bytes is read as this expression
abbrev pub IsExpression : Bytes → Tree → Type 0
IsExpression separator e = (2 ≤ length separator) × (ere_of separator ≡ Some e)

-- the place of a record before a match in the rest from a place on
abbrev pub place_before : Span → ℕ → Place
place_before m start = record { start = start; end = start + m.start; count = start + m.end }

-- a record that stands among these bytes
abbrev pub text_at : Bytes → Place → Found
text_at bytes place = record { text = slice_range bytes place.start place.end; count = place.count }

-- the code's answer, a record's place among these bytes, is that answer, unless memory was refused
abbrev pub Answers : Result (Option Found) Fault → Bytes → Result (Option Place) Fault → Type 0
Answers next bytes (Ok (Some place)) = next ≡ Ok (Some (text_at bytes place))
Answers next bytes (Ok None) = next ≡ Ok None
Answers next bytes (Err fault) = fault ≢ OutOfMemory → next ≡ Err fault

-- what was found lies within the bytes held, and each record consumes some
abbrev pub IsWithin : Bytes → ℕ → Result (Option Place) Fault → Type 0
IsWithin bytes consumed (Ok (Some place)) = (consumed ≤ place.start) × (place.start ≤ place.end) × (place.end ≤ place.count) × (consumed < place.count) × (place.count ≤ length bytes)
IsWithin bytes consumed (Ok None) = Unit {0}
IsWithin bytes consumed (Err fault) = Unit {0}

-- behind a record that was found stand at most 65,536 bytes, or those that were read ahead before
abbrev pub IsShortOf : Bytes → ℕ → Bytes → Result (Option Place) Fault → Type 0
IsShortOf old consumed new (Ok (Some place)) = length new ≤ place.count + max 65536 (length old - consumed)
IsShortOf old consumed new (Ok None) = Unit {0}
IsShortOf old consumed new (Err fault) = Unit {0}
