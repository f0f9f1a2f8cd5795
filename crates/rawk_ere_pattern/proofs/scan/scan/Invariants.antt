use Rattle.std.proofs.Common.{◌≤◌, ◌-◌, drop, length}
use Rattle.rawk_ere_pattern.specs.ScanLemmas.{Scanning}
use Rattle.rawk_ere_pattern.proofs.scan.scan.Given as goal

abbrev pub invariant-loop-at : goal.invariant-loop-at
invariant-loop-at l = (l.at ≤ length l.pattern) × Scanning l.pattern l.tokens.items (drop l.at l.pattern)

abbrev pub decreases-loop-at : goal.decreases-loop-at
decreases-loop-at l = length l.pattern - l.at
