use Rattle.std.proofs.Common.{◌≡◌, ◌+◌, ◌<◌, ◌⊎◌, inl, inr, arith, sym, subst, ◌∙◌, true≢false}
use Rattle.std.proofs.lemmas.Bool.{cases_eq}
use Rattle.rawk_ere_tree.specs.ByteSets.{IsIn, IsSetOf}
use Rattle.rawk_ere_pattern.specs.ByteSetLemmas.{set_with, set_where}
use Rattle.rawk_ere_pattern.proofs.byte_set.complement.Goals as goal
use Rattle.rawk_ere_pattern.proofs.byte_set.complement.Goals.{then-not-is_in, else-not-is_in}

pub loop-byte-preserved : goal.loop-byte-preserved
loop-byte-preserved c =
    let at = c.loop-byte.byte in
    let set = c.args.set.now in
    elim c.if-not-is_in.branch [
      | then-not-is_in w ↦
          let out = λ (h : IsIn at set). true≢false (sym (c.is_in.ensures.1 h) ∙ w.if-not-is_in.true) in
          subst (IsSetOf (λ b. (b < at + 1) × (IsIn b set → ⊥))) (sym w.others-is)
          (set_where (λ b. ((b < at) × (IsIn b set → ⊥)) ⊎ (b ≡ at)) (λ b. (b < at + 1) × (IsIn b set → ⊥)) w.add.new.set
          (λ b lt. (
            λ h. elim h [ inl x ↦ (omega (arith, x.0), x.1) | inr e ↦ (omega (arith, e), subst (λ k. IsIn k set → ⊥) (sym e) out) ],
            λ h. elim (cases_eq b at) [ inl e ↦ inr e | inr other ↦ (let o : b ≡ at → ⊥ = other in inl (omega (arith, o, h.0), h.1)) ],
          ))
          (set_with (λ b. (b < at) × (IsIn b set → ⊥)) (λ b. b ≡ at) c.loop-byte.others w.add.new.set c.loop-byte.invariant w.add.ensures))
      | else-not-is_in w ↦
          let is = c.is_in.ensures.0 w.if-not-is_in.false in
          subst (IsSetOf (λ b. (b < at + 1) × (IsIn b set → ⊥))) (sym w.others-is)
          (set_where (λ b. (b < at) × (IsIn b set → ⊥)) (λ b. (b < at + 1) × (IsIn b set → ⊥)) c.loop-byte.others
          (λ b lt. (
            λ h. (omega (arith, h.0), h.1),
            λ h. elim (cases_eq b at) [ inl e ↦ absurd (h.1 (subst (λ k. IsIn k set) (sym e) is)) | inr other ↦ (let o : b ≡ at → ⊥ = other in (omega (arith, o, h.0), h.1)) ],
          ))
          c.loop-byte.invariant)
    ]
