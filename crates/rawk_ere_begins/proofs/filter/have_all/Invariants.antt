use Rattle.std.proofs.Common.{◌≡◌, ℕ, ◌<◌}
use Rattle.std.specs.Int.{bit_at}
use Rattle.rawk_ere_begins.specs.Filters.{marks_of}
use Rattle.rawk_ere_begins.proofs.filter.have_all.Given as goal

abbrev pub invariant-loop-byte : goal.invariant-loop-byte
invariant-loop-byte l = (y i : ℕ) → y < l.byte → bit_at l.fn.all i ≡ 1 → bit_at (marks_of l.fn.marks y) i ≡ 1
