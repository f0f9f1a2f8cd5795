use Rattle.std.proofs.Common.{◌≡◌, false, replicate}
use Rattle.rawk_steps.proofs.start.add_ranges.Given as goal

abbrev pub invariant-loop-number : goal.invariant-loop-number
invariant-loop-number l = l.ranges.now ≡ replicate l._number false
