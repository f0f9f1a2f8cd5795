use Rattle.rawk_commands.proofs.Shown.{text_visible}
use Rattle.rawk_commands.proofs.laws.shown_is_visible.Goals as goal

pub returns : goal.returns
returns c = text_visible
