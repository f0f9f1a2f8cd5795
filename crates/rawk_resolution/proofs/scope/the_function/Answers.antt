use Rattle.rawk_resolution.specs.Meant.{sense_of}
use Rattle.rawk_resolution.specs.Orders.{nothing_there}
use Rattle.rawk_resolution.proofs.scope.the_function.Goals as goal

pub unreachable-requires : goal.unreachable-requires
unreachable-requires c = nothing_there (sense_of c.args.scope.now).function c.as_slice.result.now c.args.name.now.word c.as_slice.ensures c.in-None.ensures c.requires
