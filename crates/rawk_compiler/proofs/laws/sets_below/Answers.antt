use Rattle.rawk_compiler.proofs.TraceLaws.{sets_law_below}
use Rattle.rawk_compiler.proofs.laws.sets_below.Goals as goal

pub returns : goal.returns
returns c = sets_law_below
