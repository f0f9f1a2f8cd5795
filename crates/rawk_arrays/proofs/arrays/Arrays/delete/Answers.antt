use Rattle.rawk_arrays.specs.Laid.{arrays_of}
use Rattle.rawk_arrays.specs.ListLaws.{not_there}
use Rattle.rawk_arrays.proofs.arrays.Arrays.delete.Goals as goal

pub returns-in-None-clause-did : goal.returns-in-None-clause-did
returns-in-None-clause-did g c = not_there (arrays_of c.args.self.now.now) c.args.array c.args.key.now c.in-None.ensures
