use Rattle.std.proofs.Common.{length}
use Rattle.rawk_slots.proofs.saved.drop_each.Given as goal

abbrev pub invariant-loop-entry : goal.invariant-loop-entry
invariant-loop-entry g l = Unit {0}

abbrev pub decreases-loop-entry : goal.decreases-loop-entry
decreases-loop-entry g l = length l.saved.items
