use Rattle.std.proofs.Common.{rules}
use Rattle.rawk_ere_tree.specs.SetLemmas.{adds_where}
use Rattle.rawk_ere_walks.proofs.walk.read_from.Goals as goal

pub returns-then-reads_from-clause-adds : goal.returns-then-reads_from-clause-adds
returns-then-reads_from-clause-adds c =
    adds_where _ _ _ _ _ (λ r h. (c.if-reads_from.ensures.0 (search rules), h)) (λ r h. h.1) c.add_after.ensures.adds
