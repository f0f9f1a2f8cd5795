use Rattle.std.proofs.Common.{◌-◌, length}
use Rattle.rawk_arrays.specs.Laid.{IsCovered}
use Rattle.rawk_arrays.proofs.cells.cover.Given as goal

abbrev pub invariant-loop-cells : goal.invariant-loop-cells
invariant-loop-cells l = IsCovered l.count l.fn.cells l.cells

abbrev pub decreases-loop-cells : goal.decreases-loop-cells
decreases-loop-cells l = l.count - length l.cells.now
