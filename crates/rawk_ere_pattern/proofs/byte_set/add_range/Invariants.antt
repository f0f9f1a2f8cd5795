use Rattle.std.proofs.Common.{◌≤◌, ◌<◌}
use Rattle.rawk_ere_tree.specs.ByteSets.{HasAlso}
use Rattle.rawk_ere_pattern.proofs.byte_set.add_range.Given as goal

abbrev pub invariant-loop-byte : goal.invariant-loop-byte
invariant-loop-byte l = HasAlso l.fn.set l.set (λ b. (l.low ≤ b) × (b < l.byte))
