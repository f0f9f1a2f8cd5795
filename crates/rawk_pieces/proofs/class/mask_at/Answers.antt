use Rattle.std.proofs.Common.{◌-◌, arith, length}
use Rattle.rawk_pieces.proofs.Masks.{IsMaskFrom-block, IsMaskFrom-last}
use Rattle.rawk_pieces.proofs.class.mask_at.Goals as goal

pub returns-then-at-last : goal.returns-then-at-last
returns-then-at-last g c =
    IsMaskFrom-block (g.C.Class.contains c.args.class.now) c.args.text.now c.args.at c.mask.result (omega (arith, c.requires.long)) c.mask.ensures

pub returns : goal.returns
returns g c =
    IsMaskFrom-last (g.C.Class.contains c.args.class.now) c.args.text.now (length c.args.text.now - 32) c.args.at c.mask-2.result (omega (arith, c.requires.long)) (omega arith) c.mask-2.ensures
