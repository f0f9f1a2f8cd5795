use Rattle.std.proofs.Common.{◌≡◌, ◌++◌, nat_eq, replicate}
use Rattle.std.specs.Prelude.{not}
use Rattle.std.specs.Bool.{OnTrue}
use Rattle.rawk_arrays.specs.Elements.{no_elements}
use Rattle.rawk_arrays.specs.Laid.{arrays_of}
use Rattle.rawk_arrays.proofs.arrays.Arrays.add_empty.Given as goal

abbrev pub invariant-loop-i : goal.invariant-loop-i
invariant-loop-i g l = record {
  added : arrays_of l.self.now ≡ arrays_of l.fn.self.now ++ replicate l._i no_elements;
  start : OnTrue (not (nat_eq g.row.SAVES 0)) (l.self.start ≡ l.fn.self.start);
}
