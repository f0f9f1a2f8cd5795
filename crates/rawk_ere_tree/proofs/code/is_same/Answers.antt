use Rattle.std.proofs.Common.{arith}
use Rattle.rawk_ere_tree.proofs.KeptLemmas.{one_read}
use Rattle.rawk_ere_tree.proofs.code.is_same.Goals as goal

pub returns : goal.returns
returns c =
    let one = one_read c.args.byte c.args.other c.ranges.byte.fits c.ranges.other.fits in
    grind (arith, one)
