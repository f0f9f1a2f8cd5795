use Rattle.std.proofs.Common.{◌≡◌, ◌+◌, length, true}
use Rattle.rawk_ere_walks.specs.Sets.{HasReached}
use Rattle.rawk_ere_walks.specs.WalkLemmas.{NoneEnded}
use Rattle.rawk_ere_walks.proofs.walk.first_end.Given as goal

abbrev pub invariant-loop-at : goal.invariant-loop-at
invariant-loop-at l = (l.now.0 ≡ length l.code + 1) × (l.next.0 ≡ length l.code + 1) × HasReached l.code true l.text l.from l.upto l.at l.now.1 × NoneEnded l.code l.text l.from l.upto l.at
