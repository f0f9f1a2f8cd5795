use Rattle.rawk_commands.proofs.ShownPlaces.{text_shown, number_shown, place_shown}
use Rattle.rawk_commands.proofs.laws.shown_is_read.Goals as goal

pub returns : goal.returns
returns c = record { texts = text_shown; numbers = number_shown; places = place_shown }
