use Rattle.std.proofs.Common.{◌≤◌, drop, length}
use Rattle.rawk_slots.specs.Back.{back}
use Rattle.rawk_arrays.specs.Counted.{AreCounted}
use Rattle.rawk_arrays.proofs.counts.recount_back.Given as goal

abbrev pub invariant-loop-left : goal.invariant-loop-left
invariant-loop-left l = record {
  within : l.left ≤ length l.saved;
  counted : AreCounted l.index (back l.cells.now (drop l.left l.saved)) l.counts.items;
}

abbrev pub decreases-loop-left : goal.decreases-loop-left
decreases-loop-left l = l.left
