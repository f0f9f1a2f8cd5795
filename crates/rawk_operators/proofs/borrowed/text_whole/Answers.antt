-- The scan is the front's.
use Rattle.rawk_operators.proofs.borrowed.text_whole.Goals as goal

pub returns : goal.returns
returns c = c.whole.ensures _ c.scanned.ensures
