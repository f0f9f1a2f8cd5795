-- A byte's first place is that of the part of one byte.
use Rattle.rawk_builtins.proofs.Single.{first_of_one}
use Rattle.rawk_builtins.proofs.place.first_byte.Goals as goal

pub returns : goal.returns
returns c = first_of_one c.args.text.now c.args.byte c.memchr.result c.memchr.ensures
