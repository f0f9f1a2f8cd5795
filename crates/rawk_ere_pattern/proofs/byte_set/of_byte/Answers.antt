use Rattle.std.proofs.Common.{◌≡◌, ◌⊎◌, inl, inr}
use Rattle.rawk_ere_pattern.specs.ByteSetLemmas.{set_with, set_where}
use Rattle.rawk_ere_pattern.proofs.byte_set.of_byte.Goals as goal

pub returns : goal.returns
returns c =
    let byte = c.args.byte in
    set_where (λ b. ⊥ ⊎ (b ≡ byte)) (λ b. b ≡ byte) c.add.new.set (λ b lt. (λ x. elim x [ inl n ↦ absurd n | inr e ↦ e ], λ e. inr e))
    (set_with (λ _. ⊥) (λ b. b ≡ byte) c.empty-set.result c.add.new.set c.empty-set.ensures c.add.ensures)
