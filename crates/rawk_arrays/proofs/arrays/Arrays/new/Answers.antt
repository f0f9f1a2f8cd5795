use Rattle.rawk_arrays.proofs.Counting.{kept_none}
use Rattle.rawk_arrays.proofs.arrays.Arrays.new.Goals as goal

pub invariant_of-result : goal.invariant_of-result
invariant_of-result c = rw (c.new.ensures, c.new-2.ensures, c.new-3.ensures.items) kept_none
