use Rattle.std.proofs.lemmas.Nat.Bits.{bit_at_and}
use Rattle.rawk_ere_begins.proofs.lanes.both_bits.Goals as goal

pub returns : goal.returns
returns c k = bit_at_and c.args.a c.args.b k
