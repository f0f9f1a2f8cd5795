use Rattle.std.proofs.Common.{◌≡◌, ℕ, drop, min}
use Rattle.rawk_ere_pattern.specs.Pattern.{digits_from}
use Rattle.rawk_ere_pattern.proofs.bytes.digits.Given as goal

abbrev pub invariant-loop-next : goal.invariant-loop-next
invariant-loop-next l = (v : ℕ) × (l.value ≡ min v 256) × (digits_from v (drop l.next l.pattern) ≡ digits_from 0 (drop l.at l.pattern))
