use Rattle.std.proofs.Common.{◌<◌, ◌-◌}
use Rattle.rawk_keys.proofs.chains.blank_heads.Given as goal

abbrev pub invariant-loop-size : goal.invariant-loop-size
invariant-loop-size l = 0 < l.size

abbrev pub decreases-loop-size : goal.decreases-loop-size
decreases-loop-size l = l.count - l.size
