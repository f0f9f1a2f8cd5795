use Rattle.std.proofs.Common.{◌≡◌, ℕ, ◌+◌, ◌*◌, ◌<◌, get_or}
use Rattle.rawk_ere_begins.proofs.filter.all_lead_to.Given as goal

abbrev pub invariant-loop-byte : goal.invariant-loop-byte
invariant-loop-byte l = (b : ℕ) → b < l.byte → get_or l.next (l.row * 256 + b) 0 ≡ l.to
