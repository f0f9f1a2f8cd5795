use Rattle.std.proofs.Common.{◌≡◌, ℕ, ◌<◌}
use Rattle.std.specs.Int.{bit_at}
use Rattle.rawk_ere_begins.specs.Filters.{marks_of}
use Rattle.rawk_ere_begins.proofs.filter.all_marks.Given as goal

abbrev pub invariant-loop-byte : goal.invariant-loop-byte
invariant-loop-byte l = (x i : ℕ) → x < l.byte → bit_at (marks_of l.marks x) i ≡ 1 → bit_at l.all i ≡ 1
