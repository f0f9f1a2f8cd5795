use Rattle.std.proofs.Common.{◌<◌}
use Rattle.rawk_ere_tree.specs.ByteSets.{IsIn, IsSetOf}
use Rattle.rawk_ere_pattern.proofs.byte_set.complement.Given as goal

abbrev pub invariant-loop-byte : goal.invariant-loop-byte
invariant-loop-byte l = IsSetOf (λ b. (b < l.byte) × (IsIn b l.set → ⊥)) l.others
