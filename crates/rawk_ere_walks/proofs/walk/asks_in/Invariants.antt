use Rattle.std.proofs.Common.{ℕ, ◌<◌, get_or}
use Rattle.rawk_ere_walks.specs.Sets.{AsksAt}
use Rattle.rawk_ere_walks.proofs.walk.asks_in.Given as goal

abbrev pub invariant-loop-index : goal.invariant-loop-index
invariant-loop-index l = (k : ℕ) → k < l.index → AsksAt l.code (get_or l.set.1 k 0) → ⊥
