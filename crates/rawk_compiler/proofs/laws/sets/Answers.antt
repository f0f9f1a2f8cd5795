use Rattle.rawk_compiler.proofs.TraceLaws.{sets_law}
use Rattle.rawk_compiler.proofs.laws.sets.Goals as goal

pub returns : goal.returns
returns c = sets_law
