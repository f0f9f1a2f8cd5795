use Rattle.std.proofs.Common.{◌||◌, eqb}
use Rattle.rawk_pieces.proofs.Masks.{IsMaskOf-or}
use Rattle.rawk_pieces.proofs.class.BlankClass.mask.Goals as goal

pub returns : goal.returns
returns c =
    let spaces = IsMaskOf-or (λ b. eqb b 32) (λ b. eqb b 9) c.args.block c.equal_bits.result c.equal_bits-2.result c.equal_bits.ensures c.equal_bits-2.ensures in
    IsMaskOf-or (λ b. eqb b 32 || eqb b 9) (λ b. eqb b 10) c.args.block _ c.equal_bits-3.result spaces c.equal_bits-3.ensures
