use Rattle.rawk_grammar.proofs.Depths.{within}
use Rattle.rawk_grammar.proofs.laws.limit_only_refuses.Goals as goal

pub returns : goal.returns
returns c = within
