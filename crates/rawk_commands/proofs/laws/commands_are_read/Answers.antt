use Rattle.rawk_commands.proofs.Lines.{reading-line_of}
use Rattle.rawk_commands.proofs.Possible.{possible_reading}
use Rattle.rawk_commands.proofs.laws.commands_are_read.Goals as goal

pub returns : goal.returns
returns c = record { each = reading-line_of; only = possible_reading }
