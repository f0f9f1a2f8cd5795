use Rattle.std.proofs.Common.{ℕ, ◌≤◌, length}
use Rattle.rawk_keys.specs.Linked.{IsPast, labels}
use Rattle.rawk_keys.proofs.chains.nearest.Given as goal

abbrev pub invariant-loop-at : goal.invariant-loop-at
invariant-loop-at l = record {
  within : l.at ≤ length l.links;
  leads : (n : ℕ) → IsPast (length l.heads) (labels l.links) n l.label l.from → IsPast (length l.heads) (labels l.links) n l.label l.at;
}

abbrev pub decreases-loop-at : goal.decreases-loop-at
decreases-loop-at l = l.at
