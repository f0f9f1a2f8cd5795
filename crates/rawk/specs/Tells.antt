-- What is reported of a run, of any text, first values, source and sink.
use Rattle.std.specs.Prelude.{◌≡◌, ℕ, true, false, List, Option}
use Rattle.rawk_value.specs.Values.{Bytes}
use Rattle.rawk_devices.specs.Inputs.{Input}
use Rattle.rawk_devices.specs.declared.source.Ending.{Ending}
use Rattle.rawk_tree.specs.declared.tree.Program.{Program}
use Rattle.rawk_parsing.specs.declared.refusal.Refusal.{Refusal}
use Rattle.rawk_syntax.specs.Texts.{IsProgram}
use Rattle.rawk_code.specs.Trace.{FirstValue}
use Rattle.rawk_code.specs.Settings.{settings_fit}
use Rattle.rawk.specs.declared.report.Report.{Report}
use Rattle.rawk.specs.declared.report.Cause.TheVariants as cause
use Rattle.rawk.specs.Reports.{stopped_by, refused_by}
use Rattle.rawk.specs.Preparing.{IsRefusedText}
use Rattle.rawk.specs.Runs.{IsRun}

-- what a report says of a run, with how its source was left and what the sink took
pub data Tells {S V : Type 0} (may_give : S → Input → Type 0) (over : S → Option Ending) (handed : S → ℕ) (may_hold : V → Bytes → Type 0) (text : Bytes) (settings : List FirstValue) (source last : S) (steps : ℕ) (sink now : V) : Report → Type 0 where
  -- The text was refused, nothing ran, nothing was read and nothing was written. A text to which the grammar gives items with regular expressions and names in order, within the limits, is refused for want of memory alone.
  text_refused : (refusal : Refusal) → IsRefusedText text refusal → last ≡ source → now ≡ sink → Tells may_give over handed may_hold text settings source last steps sink now (refused_by refusal)
  -- a first value can't be assigned: nothing ran, nothing was read and nothing was written
  settings_refused : (p : Program) → IsProgram text p → settings_fit p settings ≡ false → last ≡ source → now ≡ sink
      → Tells may_give over handed may_hold text settings source last steps sink now (stopped_by cause.BadAssignment 0)
  -- the program of the text ran, on what the source gives
  ran : (p : Program) (report : Report) → IsProgram text p → settings_fit p settings ≡ true → IsRun may_give over handed may_hold p settings source last steps sink now report
      → Tells may_give over handed may_hold text settings source last steps sink now report
