use Rattle.std.proofs.Common.{◌≡◌, length, nat_eq}
use Rattle.std.specs.Prelude.{not}
use Rattle.std.specs.Bool.{OnTrue}
use Rattle.rawk_keys.specs.Found.{left}
use Rattle.rawk_arrays.specs.Laid.{AreLaid}
use Rattle.rawk_arrays.specs.Counted.{AreCounted}
use Rattle.rawk_arrays.specs.Walks.{IsWalking, IsEmptying}
use Rattle.rawk_arrays.proofs.cells.empty.Given as goal

abbrev pub invariant-loop-at : goal.invariant-loop-at
invariant-loop-at g l = record {
  walking : IsWalking l.array l.index l.at;
  emptying : IsEmptying l.array l.index l.fn.cells.now l.cells.now l.at;
  laid : AreLaid l.index l.cells;
  counted : AreCounted l.index l.cells.now l.counts.items;
  size : length l.cells.start ≡ length l.fn.cells.start;
  start : OnTrue (not (nat_eq g.row.SAVES 0)) (l.cells.start ≡ l.fn.cells.start);
}

abbrev pub decreases-loop-at : goal.decreases-loop-at
decreases-loop-at g l = left l.at
