-- The scan is the front's.
use Rattle.rawk_value.proofs.number.input_number.Goals as goal

pub returns : goal.returns
returns c = c.number.ensures _ c.scanned.ensures
