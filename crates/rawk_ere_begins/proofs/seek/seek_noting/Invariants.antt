use Rattle.std.proofs.Common.{◌≡◌, ℕ, ◌-◌, ◌<◌, ◌≤◌, length}
use Rattle.rawk_ere_begins.specs.Filters.{IsPassedOver}
use Rattle.rawk_ere_begins.proofs.seek.seek_noting.Given as goal

abbrev pub invariant-loop-at : goal.invariant-loop-at
invariant-loop-at l = record {
  same : l.known ≡ l.initial.known;
  low : l.from ≤ l.at;
  high : l.at ≤ length l.text;
  passed : (k : ℕ) → l.from ≤ k → k < l.at → IsPassedOver l.filter l.text k;
}

abbrev pub decreases-loop-at : goal.decreases-loop-at
decreases-loop-at l = length l.text - l.at
