use Rattle.std.proofs.Common.{◌≡◌}
use Rattle.rawk_ere_walks.specs.WalkLemmas.{Reading}
use Rattle.rawk_ere_walks.proofs.walk.read.Given as goal

abbrev pub invariant-loop-index : goal.invariant-loop-index
invariant-loop-index l = (l.to.0 ≡ l.fn.to.0) × Reading l.code l.fn.to.0 l.byte l.from.1 l.to.1 l.index
