use Rattle.std.proofs.Common.{◌+◌, ◌-◌, length}
use Rattle.rawk_arrays.specs.Counted.{HasMore}
use Rattle.rawk_arrays.proofs.counts.reach.Given as goal

abbrev pub invariant-loop-counts : goal.invariant-loop-counts
invariant-loop-counts l = HasMore l.fn.counts.items l.counts.items

abbrev pub decreases-loop-counts : goal.decreases-loop-counts
decreases-loop-counts l = l.array + 1 - length l.counts.items
