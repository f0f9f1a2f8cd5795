use Rattle.std.specs.Prelude.{All}
use Rattle.rawk_keys.specs.Found.{left}
use Rattle.rawk_arrays.specs.Heads.{IsHeaded, headed_keys}
use Rattle.rawk_arrays.specs.Walks.{IsWalking, IsFinding}
use Rattle.rawk_arrays.proofs.cells.keys_unsorted.Given as goal

abbrev pub invariant-loop-at : goal.invariant-loop-at
invariant-loop-at l = record {
  walking : IsWalking l.array l.index l.at;
  finding : IsFinding l.array l.index l.cells.now l.at (headed_keys l.found.items);
  headed : All IsHeaded l.found.items;
}

abbrev pub decreases-loop-at : goal.decreases-loop-at
decreases-loop-at l = left l.at
