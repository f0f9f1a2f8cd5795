use Rattle.rawk_compiler.proofs.TraceLaws.{limit_law}
use Rattle.rawk_compiler.proofs.laws.limit.Goals as goal

pub returns : goal.returns
returns c = limit_law
