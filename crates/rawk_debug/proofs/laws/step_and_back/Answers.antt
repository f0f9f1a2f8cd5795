use Rattle.rawk_debug.proofs.Undone as undone
use Rattle.rawk_debug.proofs.laws.step_and_back.Goals as goal

pub returns : goal.returns
returns c = undone.step_and_back
