-- The scan is the front's.
use Rattle.rawk_value.proofs.number.input_whole.Goals as goal

pub returns : goal.returns
returns c = c.whole.ensures _ c.scanned.ensures
