use Rattle.std.proofs.Common.{◌≡◌, ◌≢◌, ℕ, ◌+◌, ◌*◌, ◌<◌, ◌⊎◌, true, get_or}
use Rattle.rawk_ere_begins.specs.Filters.{HasMark, KeepsMarks}
use Rattle.rawk_ere_begins.proofs.filter.give_nexts.Given as goal

abbrev pub invariant-loop-byte : goal.invariant-loop-byte
invariant-loop-byte l = record {
  keeps : KeepsMarks l.initial.second l.second;
  has : (b : ℕ) → b < l.byte → (l.is_end ≡ true) ⊎ (get_or l.next (l.row * 256 + b) 0 ≢ l.dead) → HasMark l.second b l.mark;
}
