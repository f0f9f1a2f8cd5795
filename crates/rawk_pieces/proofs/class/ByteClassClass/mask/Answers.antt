use Rattle.std.proofs.Common.{◌&&◌, eqb}
use Rattle.rawk_pieces.proofs.Masks.{IsMaskOf-only_if, IsMaskOf-or}
use Rattle.rawk_pieces.proofs.class.ByteClassClass.mask.Goals as goal

pub returns : goal.returns
returns c =
    let s = c.args.self.now in
    let newline = IsMaskOf-only_if s.newline (λ b. eqb b 10) c.args.block c.equal_bits-2.result c.equal_bits-2.ensures in
    rw c.only_if.ensures
    (IsMaskOf-or (λ b. eqb b s.byte) (λ b. s.newline && eqb b 10) c.args.block c.equal_bits.result _ c.equal_bits.ensures newline)
