-- The last move of a machine.
use Rattle.std.specs.Prelude.{Option, None, Some}
use Rattle.rawk_history.specs.Steps.{Forth}
use Rattle.rawk_machine.specs.declared.last_move.LastMove.{LastMove}
use Rattle.rawk_machine.specs.declared.last_move.LastMove.TheVariants as move

-- none from which what was seen before can be known, a step on, or a step back, with what leads forward again
pub data Last : Type 0 where
  Nothing : Last
  On : Last
  Back : Forth → Last

abbrev pub last_of : LastMove → Option Forth → Last
last_of move.Nothing forth = Nothing
last_of move.On forth = On
last_of move.Back None = Nothing
last_of move.Back (Some forth) = Back forth
