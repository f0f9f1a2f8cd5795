use Rattle.std.proofs.Common.{◌≡◌, ◌-◌}
use Rattle.std.specs.Prelude.{IsTrue}
use Rattle.rawk_ere_walks.specs.WalkLemmas.{Closing}
use Rattle.rawk_ere_walks.proofs.walk.close.Given as goal

abbrev pub invariant-loop-done : goal.invariant-loop-done
invariant-loop-done l = (l.set.0 ≡ l.fn.set.0) × Closing l.code (IsTrue l.first) (IsTrue l.last) l.fn.set.0 l.fn.set.1 l.set.1 l.done

abbrev pub decreases-loop-done : goal.decreases-loop-done
decreases-loop-done l = l.set.0 - l.done
