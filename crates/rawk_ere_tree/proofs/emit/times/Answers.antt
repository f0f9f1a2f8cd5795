use Rattle.rawk_ere_tree.proofs.Repeated.{times_more}
use Rattle.rawk_ere_tree.proofs.emit.times.Goals as goal

pub loop-done-preserved : goal.loop-done-preserved
loop-done-preserved c = times_more _ _ _ _ _ _ c.loop-done-test.true c.in_ok-extend.ensures c.loop-done.invariant
