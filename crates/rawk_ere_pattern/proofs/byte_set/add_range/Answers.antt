use Rattle.std.proofs.Common.{◌≡◌, ◌+◌, ◌<◌, ◌≤◌, inl, inr, arith}
use Rattle.std.proofs.lemmas.Bool.{cases_eq}
use Rattle.rawk_ere_pattern.specs.ByteSetLemmas.{also_none, also_both, also_where}
use Rattle.rawk_ere_pattern.proofs.byte_set.add_range.Goals as goal

pub loop-byte-init : goal.loop-byte-init
loop-byte-init c = also_none c.args.set.now (λ b. (c.args.low ≤ b) × (b < c.args.low)) (λ b h. omega (arith, h))

pub loop-byte-preserved : goal.loop-byte-preserved
loop-byte-preserved c =
    let low = c.args.low in
    let at = c.loop-byte.byte in
    also_both c.args.set.now c.loop-byte.set c.add.new.set (λ b. (low ≤ b) × (b < at)) (λ b. b ≡ at) (λ b. (low ≤ b) × (b < at + 1))
    (λ k. (
      λ h. elim h [ inl x ↦ (x.0, omega (arith, x.1)) | inr e ↦ (omega (arith, e, c.loop-byte.auto.byte), omega (arith, e)) ],
      λ h. elim (cases_eq k at) [ inl e ↦ inr e | inr other ↦ (let o : k ≡ at → ⊥ = other in inl (h.0, omega (arith, o, h.1))) ],
    ))
    c.loop-byte.invariant c.add.ensures

pub returns : goal.returns
returns c =
    also_where c.args.set.now c.loop-byte.set (λ b. (c.args.low ≤ b) × (b < c.loop-byte.byte)) (λ b. (c.args.low ≤ b) × (b ≤ c.args.high))
    (λ k. (λ h. (h.0, omega (arith, h.0, h.1, c.loop-byte.auto)), λ h. (h.0, omega (arith, h.0, h.1, c.loop-byte-test.false)))) c.loop-byte.invariant
