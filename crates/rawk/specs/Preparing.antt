-- A program that is ready to run, or what is reported where none is.
use Rattle.std.specs.Prelude.{◌≡◌, ◌≢◌, ◌≤◌, true, false, List, length}
use Rattle.rawk_limits.specs.declared.TheConstants.{PROGRAM_BYTES}
use Rattle.rawk_value.specs.Values.{Bytes}
use Rattle.rawk_value.specs.declared.fault.Fault.TheVariants as fault
use Rattle.rawk_grammar.specs.declared.tree.Item.{Item}
use Rattle.rawk_tree.specs.declared.tree.Program.{Program}
use Rattle.rawk_parsing.specs.declared.refusal.Refusal.{Refusal}
use Rattle.rawk_parsing.specs.declared.refusal.RefusalKind.TheVariants.{OutOfMemory}
use Rattle.rawk_syntax.specs.Texts.{IsProgram, IsOrderly, IsRefusal}
use Rattle.rawk_code.specs.Trace.{FirstValue}
use Rattle.rawk_code.specs.Settings.{settings_fit}
use Rattle.rawk_code.specs.Listing.{Listing}
use Rattle.rawk_code.specs.Correct.{CodeOf}
use Rattle.rawk.specs.declared.report.Report.{Report}
use Rattle.rawk.specs.declared.report.Cause.TheVariants as cause
use Rattle.rawk.specs.Reports.{stopped_by, refused_by}

-- a program of a text, which takes the first values, and its code
pub record IsReady (text : Bytes) (settings : List FirstValue) (p : Program) (code : Listing) : Type 0 where
  pub found : IsProgram text p
  pub fits : settings_fit p settings ≡ true
  pub compiled : CodeOf p code

-- A text is refused: as it is refused by its parser, or for want of memory. One that the grammar gives items with regular expressions and names in order, within the limits, is refused for want of memory alone.
pub record IsRefusedText (text : Bytes) (refusal : Refusal) : Type 0 where
  pub exact : refusal.kind ≢ OutOfMemory → IsRefusal text refusal
  pub derived : (items : List Item) → length text ≤ PROGRAM_BYTES → IsOrderly text items → refusal.kind ≡ OutOfMemory

-- what is reported where nothing runs
pub data IsRefused (text : Bytes) (settings : List FirstValue) : Report → Type 0 where
  -- the text is refused
  text_refused : (refusal : Refusal) → IsRefusedText text refusal → IsRefused text settings (refused_by refusal)
  -- a first value can't be assigned
  settings_refused : (p : Program) → IsProgram text p → settings_fit p settings ≡ false → IsRefused text settings (stopped_by cause.BadAssignment 0)
  -- memory was refused for the code
  not_compiled : (p : Program) → IsProgram text p → settings_fit p settings ≡ true → IsRefused text settings (stopped_by (cause.Faulted fault.OutOfMemory) 0)
