-- The lines of an input, each read when it is due: what is held of them, what is read for the one that is due, and what becomes of it.
use Rattle.std.specs.Prelude.{◌≡◌, ◌≢◌, ℕ, ◌+◌, ◌-◌, ◌^◌, ◌<◌, ◌≤◌, [], ◌∷◌, ◌++◌, ◌⊎◌, length, take, drop, slice_index, Option, None, Some, Ok, Err}
use Rattle.rawk_value.specs.Values.{Bytes}
use Rattle.rawk_value.specs.declared.fault.Fault.TheVariants.{ReadFailed}
use Rattle.rawk_devices.specs.Inputs.{Input, CountsUp, before}
use Rattle.rawk_tape.specs.Records.{next_record}
use Rattle.rawk_devices.specs.declared.source.Ending.{Ending}
use Rattle.rawk_devices.specs.declared.source.Ending.TheVariants.{Failed}
use Rattle.rawk_tape.specs.declared.lines.Line.{Line}
use Rattle.rawk_tape.specs.declared.lines.NoLine.{NoLine}
use Rattle.rawk_tape.specs.declared.lines.NoLine.TheVariants.{Ended, Unread, TooMany}

-- the bytes that were read and not let go yet, how their source is over, and how many lines were let go
pub record LinesState : Type 0 where
  pub bytes : Bytes
  pub over : Option Ending
  pub taken : ℕ

abbrev pub newline : Bytes
newline = 10 ∷ []

-- this is the next line of an input behind a count of bytes
abbrev pub IsNextLine : Input → ℕ → Bytes → ℕ → Type 0
IsNextLine input count line next = next_record input count newline ≡ Ok (Some (record { text = line; count = next }))

-- an input has no next line to hand out behind a count of bytes
abbrev pub HasNoLine : Input → ℕ → NoLine → Type 0
HasNoLine input count Ended = next_record input count newline ≡ Ok None
HasNoLine input count Unread = next_record input count newline ≡ Err ReadFailed
HasNoLine input count TooMany = Unit {0}

-- no newline stands in these bytes from a place on
abbrev pub NoNewline : Bytes → ℕ → Type 0
NoNewline bytes count = (k : ℕ) → count ≤ k → k < length bytes → slice_index bytes k ≢ 10

-- all that was read of a source, where the line that is due begins at this count: what stood there before the last read, which gave 65,536 bytes at most, did not hold that line's end
pub record IsDue (read : Bytes) (count : ℕ) : Type 0 where
  pub held : Bytes
  pub chunk : Bytes
  pub whole : read ≡ held ++ chunk
  pub bounded : length chunk ≤ 65536
  pub without : NoNewline held count

-- the line that is due, at this count, has 2^64 - 1 bytes and more
pub record IsEndless (read : Bytes) (count : ℕ) : Type 0 where
  pub many : count + (2 ^ 64 - 1) ≤ length read
  pub without : NoNewline read count

-- reads of a source for the line that is due: what it handed out stands behind the bytes held before
pub record ReadsMore {C : Type 0} (may_give : C → Input → Type 0) (handed : C → ℕ) (old : C) (held : Bytes) (new : C) (now : Bytes) : Type 0 where
  pub chunk : Bytes
  pub grown : now ≡ held ++ chunk
  pub comes : (rest : Input) → may_give new rest → may_give old (before chunk rest)
  pub counted : CountsUp (handed old) (handed new) (length chunk)
  pub lazy : (now ≡ held) ⊎ IsDue now 0

-- the line that is due stands first among the bytes kept
pub record Hears {C : Type 0} (may_give : C → Input → Type 0) (handed : C → ℕ) (old : C) (held : LinesState) (new : C) (now : LinesState) (line : Line) : Type 0 where
  pub reads : ReadsMore may_give handed old held.bytes new now.bytes
  pub next : (rest : Input) → may_give new rest → IsNextLine (before now.bytes rest) 0 (take line.size now.bytes) line.count
  pub within : (line.size ≤ line.count) × (line.count ≤ length now.bytes)
  pub taken : now.taken ≡ held.taken

-- memory was refused for the line that is due, and it was passed over: these are the bytes from its beginning on, and those behind it are kept
pub record PassesOver {C : Type 0} (may_give : C → Input → Type 0) (handed : C → ℕ) (old : C) (held : LinesState) (new : C) (now : LinesState) : Type 0 where
  pub all : Bytes
  pub line : Bytes
  pub count : ℕ
  pub reads : ReadsMore may_give handed old held.bytes new all
  pub next : (rest : Input) → may_give new rest → IsNextLine (before all rest) 0 line count
  pub long : 65536 ≤ length line
  pub within : count ≤ length all
  pub left : now.bytes ≡ drop count all
  pub taken : now.taken ≡ held.taken + 1

-- what became of the line that is due
abbrev pub Finds : {C : Type 0} → (C → Input → Type 0) → (C → ℕ) → C → LinesState → C → LinesState → Option Line → Type 0
Finds may_give handed old held new now (Some line) = Hears may_give handed old held new now line
Finds may_give handed old held new now None = PassesOver may_give handed old held new now

-- no line is due
pub record FindsNone {C : Type 0} (may_give : C → Input → Type 0) (handed : C → ℕ) (old : C) (held : LinesState) (new : C) (why : NoLine) : Type 0 where
  pub all : Bytes
  pub reads : ReadsMore may_give handed old held.bytes new all
  pub none : (rest : Input) → may_give new rest → HasNoLine (before all rest) 0 why
  pub many : why ≡ TooMany → IsEndless all 0 ⊎ (2 ^ 64 - 1 ≤ held.taken)

-- how many failed reads have made a source be over so
abbrev pub failures_by : Option Ending → ℕ
failures_by (Some Failed) = 1
failures_by other = 0

-- how many failed reads leave no next line so
abbrev pub failures_at : NoLine → ℕ
failures_at Unread = 1
failures_at other = 0
