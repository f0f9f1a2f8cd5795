-- What a session's commands undo.
use Rattle.std.specs.Prelude.{◌≡◌, ℕ, ◌<◌, Option, Some, None, Ok}
use Rattle.rawk_devices.specs.Inputs.{Input}
use Rattle.rawk_commands.specs.declared.command.Way.TheVariants.{Forward, Back}
use Rattle.rawk_commands.specs.declared.command.Goal.TheVariants.{AnyPoint}
use Rattle.rawk_commands.specs.declared.command.Command.TheVariants.{Move, Set, ReverseSet}
use Rattle.rawk_commands.specs.declared.command.Place.{Place}
use Rattle.rawk_commands.specs.declared.command.Constant.{Constant}
use Rattle.rawk_debug.specs.declared.answer.Answer.{Answer}
use Rattle.rawk_debug.specs.declared.answer.Answer.TheVariants.{Advanced}
use Rattle.rawk_answers.specs.Positions.{IsPosition, here}
use Rattle.rawk_store.specs.Observed.{Observed}
use Rattle.rawk_debug.specs.Moves.{Stand}
use Rattle.rawk_debug.specs.Commands.{Executes}

-- what is kept goes back one step at least
abbrev pub KeepsAStep : Option ℕ → Type 0
KeepsAStep None = Unit {0}
KeepsAStep (Some history) = 0 < history

-- the session stands where it did: the point, the sets that stand, the state, the breakpoints and watches
pub record IsBack (input : Input) (old new : Stand) : Type 0 where
  pub point : new.machine.point ≡ old.machine.point
  pub sets : new.machine.sets ≡ old.machine.sets
  pub state : here input new.machine ≡ here input old.machine
  pub stops : new.stops ≡ old.stops
  pub made : new.made ≡ old.made

-- `step`, where it is not refused, and then `reverse-step` lead back
abbrev pub StepLaw : Type 0
StepLaw =
    (input : Input) (old mid new : Stand) (from : ℕ) (answer : Answer) (came last : Observed) → IsPosition old.machine → KeepsAStep old.machine.history
    → Executes input (Move Forward AnyPoint) old (Ok (Advanced from)) came mid → Executes input (Move Back AnyPoint) mid (Ok answer) last new → IsBack input old new

-- `set`, where it is not refused, and then `reverse-set` lead back
abbrev pub SetLaw : Type 0
SetLaw =
    (input : Input) (place : Place) (constant : Constant) (old mid new : Stand) (shown answer : Answer) (came last : Observed)
    → Executes input (Set place constant) old (Ok shown) came mid → Executes input ReverseSet mid (Ok answer) last new → new ≡ old
