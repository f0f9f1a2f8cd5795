use Rattle.std.proofs.Common.{◌≡◌, ◌+◌, drop, nat_eq}
use Rattle.std.specs.Prelude.{not}
use Rattle.std.specs.Bool.{OnTrue}
use Rattle.rawk_pieces.specs.Pieces.{texts}
use Rattle.rawk_arrays.specs.Laid.{ArePlaces, arrays_of}
use Rattle.rawk_store.specs.State.{numbered}
use Rattle.rawk_store.proofs.split.put_known.Given as goal

abbrev pub invariant-loop-place : goal.invariant-loop-place
invariant-loop-place g l = record {
  rest : numbered l.array (l.place + 1) (texts l.text (drop l.place l.pieces)) (arrays_of l.arrays.now) ≡ numbered l.array 1 (texts l.text l.pieces) (arrays_of l.initial.arrays.now);
  places : ArePlaces l.array l.run l.arrays.now;
  start : OnTrue (not (nat_eq g.row.SAVES 0)) (l.arrays.start ≡ l.initial.arrays.start);
}
