use Rattle.std.proofs.Common.{◌≡◌, ◌<◌, ℕ, take}
use Rattle.rawk_arrays.specs.Laid.{AreLaid, elements_of}
use Rattle.rawk_arrays.specs.Counted.{AreCounted}
use Rattle.rawk_arrays.proofs.cells.pack_into.Given as goal

abbrev pub invariant-loop-number : goal.invariant-loop-number
invariant-loop-number l = record {
  laid : AreLaid l.packed_names l.packed;
  counted : AreCounted l.packed_names l.packed.now l.packed_counts.items;
  so_far : (b : ℕ) → b < l.live → elements_of b l.packed_names l.packed.now ≡ elements_of b (take l.number l.index) (take l.number l.cells.now);
}
