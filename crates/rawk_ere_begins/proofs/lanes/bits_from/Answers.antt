use Rattle.std.proofs.Common.{◌%◌, ap, shr-shr}
use Rattle.rawk_ere_begins.proofs.lanes.bits_from.Goals as goal

pub returns : goal.returns
returns c k = ap (λ x. x % 2) (shr-shr c.args.bits c.args.by k)
