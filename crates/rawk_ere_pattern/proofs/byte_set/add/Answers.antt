use Rattle.rawk_ere_pattern.specs.ByteSetLemmas.{byte_added}
use Rattle.rawk_ere_pattern.proofs.byte_set.add.Goals as goal

pub returns : goal.returns
returns c = byte_added c.args.set.now c.args.byte c.told-set c.ranges.byte.fits
