use Rattle.std.proofs.Common.{◌≡◌, ℕ, true, not, eqb, get_or, sym, ap, ◌∙◌, subst, arith, w8}
use Rattle.std.specs.Int.{bit_at}
use Rattle.std.proofs.lemmas.Bool.{ne_eqb, false≢true}
use Rattle.std.proofs.lemmas.Simd.{bitmask_splat}
use Rattle.rawk_ere_begins.proofs.LaneLemmas.{mask_has, mask_only, mask_within}
use Rattle.rawk_ere_begins.proofs.lanes.nonzero.Goals as goal

ne_from : (x : ℕ) → not (eqb x 0) ≡ true → x ≡ 0 → ⊥
ne_from x h e = false≢true (ap (λ y. not (eqb y 0)) (sym e) ∙ h)

pub returns-clause-set : goal.returns-clause-set
returns-clause-set c k lt h =
    subst (λ m. bit_at m k ≡ 1) (sym (bitmask_splat w8 (λ a b. not (eqb a b)) c.args.lanes 32 0 c.fits-lanes.0 (omega arith)))
    (mask_has (λ x. not (eqb x 0)) c.args.lanes k (omega (arith, c.fits-lanes.0)) (ap not (ne_eqb (get_or c.args.lanes k 0) 0 h)))

pub returns-clause-only : goal.returns-clause-only
returns-clause-only c k h =
    let e = bitmask_splat w8 (λ a b. not (eqb a b)) c.args.lanes 32 0 c.fits-lanes.0 (omega arith) in
    let bit = subst (λ m. bit_at m k ≡ 1) e h in
    let within = mask_within (λ x. not (eqb x 0)) c.args.lanes k bit in
    (omega (arith, within, c.fits-lanes.0), ne_from (get_or c.args.lanes k 0) (mask_only (λ x. not (eqb x 0)) c.args.lanes k bit within))
