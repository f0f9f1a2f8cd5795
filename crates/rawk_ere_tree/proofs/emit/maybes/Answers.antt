use Rattle.rawk_ere_tree.proofs.Repeated.{maybes_more}
use Rattle.rawk_ere_tree.proofs.emit.maybes.Goals as goal

pub loop-done-preserved : goal.loop-done-preserved
loop-done-preserved c = maybes_more _ _ _ _ _ _ c.loop-done-test.true c.in_ok-maybe.ensures c.loop-done.invariant
