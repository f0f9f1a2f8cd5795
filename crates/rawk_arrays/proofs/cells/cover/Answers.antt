use Rattle.std.proofs.Common.{arith}
use Rattle.rawk_arrays.specs.PlaceLaws.{covered_more}
use Rattle.rawk_arrays.proofs.cells.cover.Goals as goal

pub loop-cells-preserved : goal.loop-cells-preserved
loop-cells-preserved c = covered_more c.args.count c.args.cells.now c.loop-cells.cells c.add.new.self c.loop-cells.invariant (omega (arith, c.loop-cells-test.true, c.len.ensures)) c.in_ok-add.ensures.did c.in_ok-add.ensures.start
