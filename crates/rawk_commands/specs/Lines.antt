-- A line that asks for each command that there can be.
use Rattle.std.specs.Prelude.{◌^◌, ◌<◌, ◌++◌, All, IsTrue, codes}
use Rattle.std.specs.Int.RustNames.{FitsSigned}
use Rattle.std.specs.Int.{w64}
use Rattle.rawk_value.specs.Values.{Bytes, decimal, int_text}
use Rattle.rawk_commands.specs.declared.command.Command.{Command}
use Rattle.rawk_commands.specs.declared.command.Command.TheVariants as command
use Rattle.rawk_commands.specs.declared.command.Constant.{Constant}
use Rattle.rawk_commands.specs.declared.command.Constant.TheVariants.{Number, Text}
use Rattle.rawk_commands.specs.declared.command.Goal.{Goal}
use Rattle.rawk_commands.specs.declared.command.Goal.TheVariants.{AnyPoint, NoDeeper, Shallower, StopOnly}
use Rattle.rawk_commands.specs.declared.command.Spot.{Spot}
use Rattle.rawk_commands.specs.declared.command.Spot.TheVariants.{Line, Function}
use Rattle.rawk_commands.specs.declared.command.Way.{Way}
use Rattle.rawk_commands.specs.declared.command.Way.TheVariants.{Forward, Back}
use Rattle.rawk_commands.specs.Texts.{IsPlace, shown_place, shown_text}
use Rattle.rawk_keywords.specs.Name.{has_name_form}

-- a constant that there can be: a number within 64 bits with a sign, or bytes
abbrev pub IsConstant : Constant → Type 0
IsConstant (Number n) = FitsSigned w64 n
IsConstant (Text text) = All (λ b. b < 256) text

-- a spot that there can be
abbrev pub IsSpot : Spot → Type 0
IsSpot (Line line) = line < 2 ^ 63
IsSpot (Function name) = IsTrue (has_name_form name)

-- a command that there can be
abbrev pub IsCommand : Command → Type 0
IsCommand (command.Break spot) = IsSpot spot
IsCommand (command.Watch place) = IsPlace place
IsCommand (command.Delete n) = n < 2 ^ 63
IsCommand (command.Unwatch n) = n < 2 ^ 63
IsCommand (command.Print place) = IsPlace place
IsCommand (command.Set place constant) = IsPlace place × IsConstant constant
IsCommand other = Unit {0}

-- a constant, as it is written
abbrev pub written_constant : Constant → Bytes
written_constant (Number n) = int_text n
written_constant (Text text) = shown_text text

-- a spot, as it is written
abbrev pub written_spot : Spot → Bytes
written_spot (Line line) = decimal line
written_spot (Function name) = name

-- the word of a move
abbrev pub word_of : Way → Goal → Bytes
word_of Forward AnyPoint = codes "step"
word_of Forward NoDeeper = codes "next"
word_of Forward Shallower = codes "finish"
word_of Forward StopOnly = codes "continue"
word_of Back AnyPoint = codes "reverse-step"
word_of Back NoDeeper = codes "reverse-next"
word_of Back Shallower = codes "reverse-finish"
word_of Back StopOnly = codes "reverse-continue"

-- a command, as it is written
abbrev pub line_of : Command → Bytes
line_of (command.Break spot) = codes "break " ++ written_spot spot
line_of (command.Watch place) = codes "watch " ++ shown_place place
line_of (command.Delete n) = codes "delete " ++ decimal n
line_of (command.Unwatch n) = codes "unwatch " ++ decimal n
line_of (command.Move way goal) = word_of way goal
line_of command.Run = codes "run"
line_of (command.Print place) = codes "print " ++ shown_place place
line_of (command.Set place constant) = codes "set " ++ (shown_place place ++ (codes " = " ++ written_constant constant))
line_of command.ReverseSet = codes "reverse-set"
line_of command.Backtrace = codes "backtrace"
line_of command.Quit = codes "quit"
