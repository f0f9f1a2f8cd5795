use Rattle.rawk_resolution.specs.Meant.{sense_of}
use Rattle.rawk_resolution.specs.Orders.{name_array, no_name}
use Rattle.rawk_resolution.proofs.arrays.array_at_place.Goals as goal

pub returns-in-Name-clause-there : goal.returns-in-Name-clause-there
returns-in-Name-clause-there c =
    name_array (sense_of c.args.scope.now) c.args.place.now c.in-Name.name c.as_slice.result.now c.array_of.result c.in-Name.is c.as_slice.ensures c.array_of.ensures

pub returns-in_default-clause-there : goal.returns-in_default-clause-there
returns-in_default-clause-there c = no_name (sense_of c.args.scope.now) c.args.place.now c.in_default.not-Name
