-- What was read of commands, and of a program's source.
use Rattle.std.specs.Prelude.{◌≡◌, ◌⊎◌, ℕ, List, length, Option, Some}
use Rattle.rawk_value.specs.Values.{Bytes}
use Rattle.rawk_value.specs.declared.fault.Fault.TheVariants.{OutOfMemory}
use Rattle.rawk_devices.specs.Inputs.{Input, CountsUp, before}
use Rattle.rawk_devices.specs.declared.source.Ending.{Ending}
use Rattle.rawk_devices.specs.declared.source.Ending.TheVariants.{Failed}
use Rattle.rawk_tree.specs.declared.tree.Program.{Program}
use Rattle.rawk_code.specs.Trace.{FirstValue}
use Rattle.rawk_answers.specs.Positions.{Position, here}
use Rattle.rawk_answers.specs.Works.{Work, read_failed}
use Rattle.rawk.specs.declared.report.Cause.TheVariants as cause
use Rattle.rawk.specs.Reports.{stopped_by}
use Rattle.rawk.specs.Runs.{Took}

-- this was read of a source by a call, and it might have given this input
pub record WasRead {C : Type 0} (may_give : C → Input → Type 0) (handed : C → ℕ) (old new : C) (read : Bytes) (asked : Input) : Type 0 where
  pub rest : Input
  pub whole : asked ≡ before read rest
  pub given : may_give old asked
  pub left : may_give new rest
  pub counted : CountsUp (handed old) (handed new) (length read)

-- This was read of a program's source by a session, which stands here then, and so the source is left: some input may still come of it, and whatever may, the source might have given that behind what was read. Where the session stands at a failed read, the source has failed.
pub record WasDrawn {S : Type 0} (may_give : S → Input → Type 0) (over : S → Option Ending) (handed : S → ℕ) (source left : S) (last : Position) (read : Bytes) : Type 0 where
  pub some : (rest : Input) × may_give left rest
  pub given : (rest : Input) → may_give left rest → may_give source (before read rest)
  pub counted : CountsUp (handed source) (handed left) (length read)
  pub failed : (rest : Input) → may_give left rest → (here (before read rest) last).over ≡ Some read_failed → over left ≡ Some Failed

-- a machine that has done so much, and whose inputs may be these, has read all of it of this source
pub record ReadsOf {S : Type 0} (may_give : S → Input → Type 0) (handed : S → ℕ) (may_be : Input → Type 0) (work : Work S) (source : S) : Type 0 where
  pub given : (input : Input) → may_be input → may_give source input
  pub counted : CountsUp (handed source) (handed work.source) (length work.read)

-- memory was refused for a machine of a program at point 0: this was read of its source, as a run reads it up to there
abbrev pub IsUnstood : {S : Type 0} → (S → Input → Type 0) → (S → Option Ending) → (S → ℕ) → Program → List FirstValue → S → ℕ → S → Type 0
IsUnstood may_give over handed p settings source steps left = (read : Bytes) × Took may_give over handed p settings source steps (stopped_by (cause.Faulted OutOfMemory) 0) left read

-- no session of a program stands, for want of memory: nothing was read of its source, or what a run reads up to point 0
abbrev pub IsUnheld : {S : Type 0} → (S → Input → Type 0) → (S → Option Ending) → (S → ℕ) → Program → List FirstValue → S → ℕ → S → Type 0
IsUnheld may_give over handed p settings source steps left = (left ≡ source) ⊎ IsUnstood may_give over handed p settings source steps left
