-- The dialog of a session: the lines of its commands, and what was written of the answers.
use Rattle.std.specs.Prelude.{◌≡◌, ℕ, ◌-◌, ◌^◌, ◌<◌, ◌≤◌, ◌⊎◌, Bool, true, false, List, [], ◌∷◌, ◌++◌, length, Option, None, Result, Ok, Err}
use Rattle.rawk_value.specs.Values.{Bytes}
use Rattle.rawk_value.specs.declared.fault.Fault.TheVariants.{OutOfMemory, ReadFailed, WriteFailed}
use Rattle.rawk_devices.specs.Inputs.{Input, before}
use Rattle.rawk_tape.specs.Records.{next_record}
use Rattle.rawk_tape.specs.Lines.{IsDue, IsEndless, IsNextLine, newline}
use Rattle.rawk_devices.specs.declared.source.Ending.{Ending}
use Rattle.rawk_tape.specs.declared.lines.NoLine.{NoLine}
use Rattle.rawk_tape.specs.declared.lines.NoLine.TheVariants as no_line
use Rattle.rawk_code.specs.Laws.{IsBeginning}
use Rattle.rawk_debug.specs.declared.transcript.Reply.{Reply}
use Rattle.rawk_debug.specs.declared.transcript.Reply.TheVariants.{Quits}
use Rattle.rawk_debug.specs.Moves.{Stand}
use Rattle.rawk_debug.specs.Transcript.{Transcript, Turn, Heard, Passed, is_quit, reply_text, request}
use Rattle.rawk.specs.declared.dialog.Over.{Over}
use Rattle.rawk.specs.declared.dialog.Over.TheVariants.{Ended, Unread, Unwritten, TooMany}
use Rattle.rawk.specs.declared.report.Report.{Report}
use Rattle.rawk.specs.declared.report.Cause.TheVariants as cause
use Rattle.rawk.specs.Reports.{stopped_by}
use Rattle.rawk.specs.Reads.{WasDrawn}
use Rattle.rawk.specs.Runs.{IsCut}

-- this became of the next line: one that was passed over was to be read, and has 65,536 bytes and more
abbrev pub IsNextTurn : Type 0 → Input → ℕ → Turn → ℕ → Type 0
IsNextTurn is_read input count (Heard line) next = IsNextLine input count line next
IsNextTurn is_read input count (Passed line) next = IsNextLine input count line next × (65536 ≤ length line) × is_read

-- this became of the lines of an input from one count of bytes to another, each in its turn
abbrev pub TurnsTo : Type 0 → Input → ℕ → List Turn → ℕ → Type 0
TurnsTo is_read input count [] end = end ≡ count
TurnsTo is_read input count (turn ∷ turns) end = (next : ℕ) × IsNextTurn is_read input count turn next × TurnsTo is_read input next turns end

-- none of them asks for the session's end
abbrev pub NoneQuits : List Turn → Type 0
NoneQuits [] = Unit {0}
NoneQuits (turn ∷ turns) = (is_quit (request turn) ≡ false) × NoneQuits turns

-- how a dialog is over that has no next line to carry out
abbrev pub over_by : NoLine → Over
over_by no_line.Ended = Ended
over_by no_line.Unread = Unread
over_by no_line.TooMany = TooMany

-- A dialog on an input of the program, with these commands, of which so much was read: from where the session stood to where it stands, how it is over, and what was written of the transcript of the lines that were read. Behind a `quit` no line is carried out, and of the commands nothing was read behind the line that was due last but for what one read gives. That answers are written before more is read shows where a line could not be read or an answer not written: all answers before it were. Where commands are not read, but lie in memory, no line is passed over, and they come to their end.
pub data IsDialog (is_read : Type 0) (input asked : Input) (read : Bytes) (first last : Stand) : Over → Bytes → Type 0 where
  -- the commands are at their end
  to_end : (turns : List Turn) (count : ℕ) (text : Bytes) → TurnsTo is_read asked 0 turns count → NoneQuits turns → next_record asked count newline ≡ Ok None → IsDue read count → Transcript input turns first text last → IsDialog is_read input asked read first last Ended text
  -- the last line is `quit`
  to_quit : (turns : List Turn) (turn : Turn) (count next : ℕ) (text : Bytes) → TurnsTo is_read asked 0 turns count → IsNextTurn is_read asked count turn next → IsDue read count → NoneQuits turns → is_quit (request turn) ≡ true
      → Transcript input (turns ++ turn ∷ []) first text last → IsDialog is_read input asked read first last Ended text
  -- the next line could not be read
  unread : (turns : List Turn) (count : ℕ) (text : Bytes) → is_read → TurnsTo is_read asked 0 turns count → NoneQuits turns → next_record asked count newline ≡ Err ReadFailed → IsDue read count → Transcript input turns first text last → IsDialog is_read input asked read first last Unread text
  -- as many lines were answered as are counted, or the next one has as many bytes
  too_many : (turns : List Turn) (count : ℕ) (text : Bytes) → is_read → TurnsTo is_read asked 0 turns count → NoneQuits turns → IsDue read count → IsEndless read count ⊎ (2 ^ 64 - 1 ≤ length turns) → Transcript input turns first text last → IsDialog is_read input asked read first last TooMany text
  -- all answers before the last one were written, and of that a part at most
  unwritten : (turns : List Turn) (turn : Turn) (count next : ℕ) (mid : Stand) (before text taken : Bytes) → TurnsTo is_read asked 0 turns count → IsNextTurn is_read asked count turn next → IsDue read count → NoneQuits (turns ++ turn ∷ []) → Transcript input turns first before mid
      → Transcript input (turns ++ turn ∷ []) first text last → IsBeginning before taken → IsBeginning taken text → length taken < length text → IsDialog is_read input asked read first last Unwritten taken

abbrev pub quits_by : Reply → Bool
quits_by Quits = true
quits_by other = false

-- a reply was handed on: all of it was written; or the dialog is over, since it ends the session, or a part of it at most was written
abbrev pub Told : {V : Type 0} → (V → Bytes → Type 0) → Bytes → Reply → V → V → Result (Unit {0}) Over → Type 0
Told may_hold output reply sink now (Ok done) = (quits_by reply ≡ false) × ((held : Bytes) → may_hold sink held → may_hold now (held ++ reply_text output reply))
Told may_hold output reply sink now (Err Ended) = (quits_by reply ≡ true) × (now ≡ sink)
Told may_hold output reply sink now (Err Unwritten) = (quits_by reply ≡ false) × IsCut may_hold (reply_text output reply) sink now
Told may_hold output reply sink now (Err other) = ⊥

-- the report of a session, by how its dialog was over
abbrev pub report_over : Over → Report
report_over Ended = record { status = 0; cause = cause.Ended; line = 0; point = 0 }
report_over Unread = stopped_by (cause.Faulted ReadFailed) 0
report_over Unwritten = stopped_by (cause.Faulted WriteFailed) 0
report_over TooMany = stopped_by (cause.Faulted OutOfMemory) 0

-- A dialog was held on a machine, from where its session stood first: this was read of the commands, and the sink took what was written of it, on each input that might be and whatever the commands may be of which this was read.
pub record Speaks {M V : Type 0} (is_read : Type 0) (may_be : M → Input → Type 0) (asks : Bytes → Input → Type 0) (may_hold : V → Bytes → Type 0) (first last : Stand) (machine : M) (sink now : V) (over : Over) : Type 0 where
  pub read : Bytes
  pub gives : (asked : Input) × asks read asked
  pub taken : (held : Bytes) → may_hold sink held → (taken : Bytes) × may_hold now (held ++ taken)
      × ((input asked : Input) → may_be machine input → asks read asked → IsDialog is_read input asked read first last over taken)

-- A dialog was held from where a session stood first, and so the program's source was left: this was read of it and this of the commands, and the sink took what was written of the dialog, whatever may still come of the source and whatever the commands may be of which this was read.
pub record IsHeld {S V : Type 0} (is_read : Type 0) (may_give : S → Input → Type 0) (over : S → Option Ending) (handed : S → ℕ) (asks : Bytes → Input → Type 0) (may_hold : V → Bytes → Type 0) (source left : S) (first : Stand) (sink now : V) (end : Over) : Type 0 where
  pub last : Stand
  pub drawn : Bytes
  pub read : Bytes
  pub drew : WasDrawn may_give over handed source left last.machine drawn
  pub gives : (asked : Input) × asks read asked
  pub taken : (held : Bytes) → may_hold sink held → (taken : Bytes) × may_hold now (held ++ taken)
      × ((rest asked : Input) → may_give left rest → asks read asked → IsDialog is_read (before drawn rest) asked read first last end taken)
