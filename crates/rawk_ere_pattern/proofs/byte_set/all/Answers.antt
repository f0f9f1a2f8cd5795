use Rattle.std.proofs.Common.{◌≤◌, ◌⊎◌, inr, arith}
use Rattle.rawk_ere_pattern.specs.ByteSetLemmas.{set_with, set_where}
use Rattle.rawk_ere_pattern.proofs.byte_set.all.Goals as goal

pub returns : goal.returns
returns c =
    set_where (λ b. ⊥ ⊎ ((0 ≤ b) × (b ≤ 255))) (λ _. Unit {0}) c.add_range.new.set (λ b lt. (λ _. tt, λ _. inr (omega arith, omega arith)))
    (set_with (λ _. ⊥) (λ b. (0 ≤ b) × (b ≤ 255)) c.empty-set.result c.add_range.new.set c.empty-set.ensures c.add_range.ensures)
