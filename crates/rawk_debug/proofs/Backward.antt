-- Which commands do not go forward.
use Rattle.std.proofs.Common.{◌≡◌, true, false, refl, sym, ap, ◌∙◌}
use Rattle.rawk_commands.specs.declared.command.Way.{Way}
use Rattle.rawk_commands.specs.declared.command.Way.TheVariants.{Forward, Back}
use Rattle.rawk_commands.specs.declared.command.Goal.{Goal}
use Rattle.rawk_commands.specs.declared.command.Command.{Command}
use Rattle.rawk_commands.specs.declared.command.Command.TheVariants.{Move, Run}
use Rattle.rawk_debug.specs.Commands.{goes_forward}

move_back : (way : Way) (goal : Goal) → goes_forward (Move way goal) ≡ false → way ≡ Back
move_back Forward goal h = absurd (cc h)
move_back Back goal h = refl

-- a move that does not go forward goes back
pub goes_back : (command : Command) (way : Way) (goal : Goal) → command ≡ Move way goal → goes_forward command ≡ false → way ≡ Back
goes_back command way goal is back = move_back way goal (ap goes_forward (sym is) ∙ back)

-- `run` goes forward
pub runs : (command : Command) → command ≡ Run → goes_forward command ≡ false → ⊥
runs command is back = let h : true ≡ false = ap goes_forward (sym is) ∙ back in absurd (cc h)
