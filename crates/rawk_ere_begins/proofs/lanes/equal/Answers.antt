use Rattle.std.proofs.Common.{◌≡◌, eqb, get_or, sym, subst, arith, w8}
use Rattle.std.specs.Int.{bit_at}
use Rattle.std.proofs.lemmas.Bool.{eqb-true, eq-eqb}
use Rattle.std.proofs.lemmas.Simd.{bitmask_splat}
use Rattle.rawk_ere_begins.proofs.LaneLemmas.{mask_has, mask_only, mask_within}
use Rattle.rawk_ere_begins.proofs.lanes.equal.Goals as goal

pub returns-clause-set : goal.returns-clause-set
returns-clause-set c k lt h =
    subst (λ m. bit_at m k ≡ 1) (sym (bitmask_splat w8 eqb c.args.lanes 32 c.args.byte c.fits-lanes.0 (omega arith)))
    (mask_has (λ x. eqb x c.args.byte) c.args.lanes k (omega (arith, c.fits-lanes.0)) (eq-eqb (get_or c.args.lanes k 0) c.args.byte h))

pub returns-clause-only : goal.returns-clause-only
returns-clause-only c k h =
    let e = bitmask_splat w8 eqb c.args.lanes 32 c.args.byte c.fits-lanes.0 (omega arith) in
    let bit = subst (λ m. bit_at m k ≡ 1) e h in
    let within = mask_within (λ x. eqb x c.args.byte) c.args.lanes k bit in
    (omega (arith, within, c.fits-lanes.0), eqb-true (get_or c.args.lanes k 0) c.args.byte (mask_only (λ x. eqb x c.args.byte) c.args.lanes k bit within))
