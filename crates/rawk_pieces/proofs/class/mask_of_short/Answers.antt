use Rattle.rawk_pieces.proofs.Masks.{IsMaskFrom-short}
use Rattle.rawk_pieces.proofs.class.mask_of_short.Goals as goal

pub returns : goal.returns
returns g c = IsMaskFrom-short (g.C.Class.contains c.args.class.now) _ c.args.text.now c.other.result c.mask.result c.padded.ensures.text c.padded.ensures.rest c.other.ensures c.mask.ensures
