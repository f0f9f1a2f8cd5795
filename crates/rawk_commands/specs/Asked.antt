-- What the parts of a line stand for, before they are copied.
use Rattle.std.specs.Prelude.{Option, Result, Ok, Err}
use Rattle.std.specs.Option.{option_map}
use Rattle.rawk_lexer.specs.Escape.{unescaped_of}
use Rattle.rawk_commands.specs.declared.asked.Asked.{Asked}
use Rattle.rawk_commands.specs.declared.asked.Asked.TheVariants as asked
use Rattle.rawk_commands.specs.declared.asked.Literal.{Literal}
use Rattle.rawk_commands.specs.declared.asked.Literal.TheVariants as literal
use Rattle.rawk_commands.specs.declared.asked.PlaceName.{PlaceName}
use Rattle.rawk_commands.specs.declared.asked.PlaceName.TheVariants as name
use Rattle.rawk_commands.specs.declared.command.C.{C}
use Rattle.rawk_commands.specs.declared.command.Command.{Command}
use Rattle.rawk_commands.specs.declared.command.Command.TheVariants as command
use Rattle.rawk_commands.specs.declared.command.Constant.{Constant}
use Rattle.rawk_commands.specs.declared.command.Constant.TheVariants.{Number, Text}
use Rattle.rawk_commands.specs.declared.command.Place.{Place}
use Rattle.rawk_commands.specs.declared.command.Place.TheVariants.{Name, Element, Field}
use Rattle.rawk_commands.specs.declared.command.Spot.TheVariants.{Function}
use Rattle.rawk_commands.specs.Reading.{key_of}

-- the constant that is written
abbrev pub constant_written : Literal → Constant
constant_written (literal.Number n) = Number n
constant_written (literal.Quoted inside) = Text (unescaped_of inside.now)

-- the place that is written
abbrev pub place_written : PlaceName → Place
place_written (name.Name text) = Name text.now
place_written (name.Element text key) = Element text.now (key_of (constant_written key))
place_written (name.Field number) = Field number

-- the command that is written
abbrev pub command_written : Asked → Command
command_written (asked.Ready ready) = ready
command_written (asked.Break function) = command.Break (Function function.now)
command_written (asked.Watch place) = command.Watch (place_written place)
command_written (asked.Print place) = command.Print (place_written place)
command_written (asked.Set place constant) = command.Set (place_written place) (constant_written constant)

-- the reading that is written
abbrev pub reading_written : Result (Option Asked) C → Result (Option Command) C
reading_written (Ok asked) = Ok (option_map command_written asked)
reading_written (Err reason) = Err reason
