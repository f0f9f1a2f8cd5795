-- What is reported of a session, of any text, first values, source, commands and sink.
use Rattle.std.specs.Prelude.{◌≡◌, ℕ, true, false, List, [], Option}
use Rattle.rawk_value.specs.Values.{Bytes}
use Rattle.rawk_devices.specs.Inputs.{Input}
use Rattle.rawk_devices.specs.declared.source.Ending.{Ending}
use Rattle.rawk_tree.specs.declared.tree.Program.{Program}
use Rattle.rawk_parsing.specs.declared.refusal.Refusal.{Refusal}
use Rattle.rawk_syntax.specs.Texts.{IsProgram}
use Rattle.rawk_value.specs.declared.fault.Fault.TheVariants as fault
use Rattle.rawk_code.specs.Laws.{IsBeginning}
use Rattle.rawk_code.specs.Trace.{FirstValue}
use Rattle.rawk_code.specs.Settings.{settings_fit}
use Rattle.rawk_answers.specs.Positions.{Position}
use Rattle.rawk_debug.specs.Moves.{Stand}
use Rattle.rawk.specs.declared.dialog.Over.{Over}
use Rattle.rawk.specs.Dialogs.{IsHeld, report_over}
use Rattle.rawk.specs.Reads.{IsUnheld}
use Rattle.rawk.specs.declared.report.Report.{Report}
use Rattle.rawk.specs.declared.report.Cause.TheVariants as cause
use Rattle.rawk.specs.Reports.{stopped_by, refused_by}
use Rattle.rawk.specs.Preparing.{IsRefusedText}

-- a machine before its first command: at point 0, with no sets
abbrev pub first_position : Program → List FirstValue → ℕ → Option ℕ → Position
first_position p settings steps history = record { program = p; settings = settings; steps = steps; history = history; point = 0; sets = []; oldest = 0 }

-- a session before its first command, with no breakpoints and no watches, by where its machine stands
abbrev pub stand_at : Position → Stand
stand_at position = record { machine = position; stops = []; made = 0 }

abbrev pub first_stand : Program → List FirstValue → ℕ → Option ℕ → Stand
first_stand p settings steps history = stand_at (first_position p settings steps history)

-- What a report says of a session, by whether its commands are read or lie in memory, with how its source was left, what was read of its commands, what is so where none was read, and what the sink took.
pub data Debugs {S V : Type 0} (is_read : Type 0) (may_give : S → Input → Type 0) (over : S → Option Ending) (handed : S → ℕ) (asks : Bytes → Input → Type 0) (unread : Type 0) (may_hold : V → Bytes → Type 0) (text : Bytes) (settings : List FirstValue) (source left : S) (steps : ℕ) (history : Option ℕ) (sink now : V) : Report → Type 0 where
  -- The text was refused, nothing was read of the source, nothing was written, and no command read. A text to which the grammar gives items with regular expressions and names in order, within the limits, is refused for want of memory alone.
  text_refused : (refusal : Refusal) → IsRefusedText text refusal → left ≡ source → now ≡ sink → unread → Debugs is_read may_give over handed asks unread may_hold text settings source left steps history sink now (refused_by refusal)
  -- a first value can't be assigned: nothing was read of the source, nothing was written, and no command read
  settings_refused : (p : Program) → IsProgram text p → settings_fit p settings ≡ false → left ≡ source → now ≡ sink → unread
      → Debugs is_read may_give over handed asks unread may_hold text settings source left steps history sink now (stopped_by cause.BadAssignment 0)
  -- memory was refused before a session over a program of the text stood: of the source nothing was read, or what a run reads up to point 0, nothing was written, and no command read
  never_stood : (p : Program) → IsProgram text p → settings_fit p settings ≡ true → IsUnheld may_give over handed p settings source steps left → now ≡ sink → unread
      → Debugs is_read may_give over handed asks unread may_hold text settings source left steps history sink now (stopped_by (cause.Faulted fault.OutOfMemory) 0)
  -- the session was held over a program of the text: the sink took what the report says of its transcript
  held : (p : Program) (end : Over) → IsProgram text p → settings_fit p settings ≡ true → IsHeld is_read may_give over handed asks may_hold source left (first_stand p settings steps history) sink now end
      → Debugs is_read may_give over handed asks unread may_hold text settings source left steps history sink now (report_over end)

-- commands in memory are one input, which ends, and a beginning of it is read
abbrev pub asks_all : Bytes → Bytes → Input → Type 0
asks_all commands read asked = (asked ≡ record { bytes = commands; fails = false }) × IsBeginning read commands
