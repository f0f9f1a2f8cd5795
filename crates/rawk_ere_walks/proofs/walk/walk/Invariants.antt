use Rattle.std.proofs.Common.{◌≤◌, ◌-◌, ◌*◌, ◌+◌, length}
use Rattle.rawk_ere_walks.specs.WalkLemmas.{Walking}
use Rattle.rawk_ere_walks.proofs.walk.walk.Given as goal

abbrev pub invariant-loop-at : goal.invariant-loop-at
invariant-loop-at l = Walking l.code l.closed l.text l.from l.at l.now l.next l.longest × (l.entered ≤ (l.at - l.from) * (length l.code + 1))
