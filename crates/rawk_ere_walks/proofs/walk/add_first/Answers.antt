use Rattle.std.proofs.Common.{rules}
use Rattle.rawk_ere_tree.specs.SetLemmas.{adds_where}
use Rattle.rawk_ere_walks.proofs.walk.add_first.Goals as goal

pub returns-then-begins-clause-adds : goal.returns-then-begins-clause-adds
returns-then-begins-clause-adds c = adds_where _ _ _ _ _ (λ r h. (search rules, h)) (λ r h. h.1) c.add.ensures.adds
