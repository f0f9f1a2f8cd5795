use Rattle.std.proofs.Common.{eqb, sym, subst, arith, w8}
use Rattle.std.proofs.lemmas.Simd.{bitmask_splat}
use Rattle.rawk_pieces.specs.Masks.{IsMaskOf}
use Rattle.rawk_pieces.proofs.Masks.{IsMaskOf-mask_l}
use Rattle.rawk_pieces.proofs.mask.equal_bits.Goals as goal

pub returns : goal.returns
returns c =
    subst (IsMaskOf (λ b. eqb b c.args.byte) c.args.block) (sym (bitmask_splat w8 eqb c.args.block 32 c.args.byte c.fits-block.0 (omega arith)))
    (IsMaskOf-mask_l (λ b. eqb b c.args.byte) c.args.block c.fits-block.0)
