use Rattle.rawk_syntax.proofs.Layings.{nothing_boxed}
use Rattle.rawk_syntax.proofs.statements.nothing.Goals as goal

pub returns : goal.returns
returns c = nothing_boxed c.boxed.result c.new.result c.new.ensures.items c.boxed.ensures
