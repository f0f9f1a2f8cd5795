use Rattle.std.proofs.Common.{◌≤◌, ◌+◌, length, arith, subst}
use Rattle.rawk_devices.specs.Counts.{counts_more}
use Rattle.rawk_devices.proofs.Handed.{written}
use Rattle.rawk_devices.proofs.sink.write_all.Goals as goal

pub loop-at-preserved : goal.loop-at-preserved
loop-at-preserved g c =
    let i = c.loop-at.invariant in
    let fits : c.loop-at.at + c.in-Ok.size ≤ length c.args.bytes.now = omega (arith, c.in-Ok.ensures.in_bounds) in
    (fits, λ held h. subst (g.W.Sink.may_hold c.write.new.self) (written held c.args.bytes.now c.loop-at.at c.in-Ok.size fits) (c.in-Ok.ensures.bytes _ (i.1 held h)), counts_more _ _ _ 0 0 i.2 c.in-Ok.ensures.failures)
