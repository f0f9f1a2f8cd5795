use Rattle.std.proofs.Common.{◌≤◌, ◌-◌, drop, length}
use Rattle.rawk_ere_pattern.proofs.BracketLemmas.{Gathering}
use Rattle.rawk_ere_pattern.proofs.bracket.gather.Given as goal

abbrev pub invariant-loop-at : goal.invariant-loop-at
invariant-loop-at l = (l.from ≤ l.at) × (l.at ≤ length l.pattern) × Gathering (drop l.from l.pattern) l.place (drop l.at l.pattern) l.fn.set l.set

abbrev pub decreases-loop-at : goal.decreases-loop-at
decreases-loop-at l = length l.pattern - l.at
