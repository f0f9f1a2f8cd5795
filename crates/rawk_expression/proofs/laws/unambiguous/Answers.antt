use Rattle.rawk_expression.specs.Depths.{one_tree}
use Rattle.rawk_expression.proofs.laws.unambiguous.Goals as goal

pub returns : goal.returns
returns c = one_tree
