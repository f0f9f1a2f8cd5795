use Rattle.std.proofs.Common.{◌≡◌, ◌+◌, length, false}
use Rattle.rawk_ere_walks.specs.Sets.{HasReached}
use Rattle.rawk_ere_walks.specs.WalkLemmas.{NoneRead}
use Rattle.rawk_ere_walks.proofs.walk.may_begin_by.Given as goal

abbrev pub invariant-loop-at : goal.invariant-loop-at
invariant-loop-at l = (l.now.0 ≡ length l.code + 1) × (l.next.0 ≡ length l.code + 1) × HasReached l.code false l.text l.from l.upto l.at l.now.1 × NoneRead l.code l.text l.from l.upto l.at
