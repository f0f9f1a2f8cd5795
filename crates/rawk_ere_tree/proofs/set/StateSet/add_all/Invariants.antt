use Rattle.std.proofs.Common.{◌≡◌, ℕ, ◌<◌, get_or}
use Rattle.rawk_ere_tree.specs.StateSets.{Adds}
use Rattle.rawk_ere_tree.proofs.set.StateSet.add_all.Given as goal

abbrev pub invariant-loop-index : goal.invariant-loop-index
invariant-loop-index l = (l.self.0 ≡ l.fn.self.0) × Adds l.fn.self.0 l.fn.self.1 l.self.1 (λ r. (k : ℕ) × (k < l.index) × (get_or l.other.1 k 0 ≡ r))
