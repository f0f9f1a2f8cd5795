use Rattle.std.proofs.Common.{◌∙◌}
use Rattle.rawk_resolution.specs.Meant.{sense_of}
use Rattle.rawk_resolution.specs.Orders.{no_array, of_array}
use Rattle.rawk_resolution.proofs.arrays.array_alone.Goals as goal

pub returns-in-Of-clause-there : goal.returns-in-Of-clause-there
returns-in-Of-clause-there c =
    c.array_at_place.ensures.there ∙ of_array (sense_of c.args.scope.now) c.args.e.now c.in-Of.place c.in-Of.is

pub returns-in_default-clause-there : goal.returns-in_default-clause-there
returns-in_default-clause-there c = no_array (sense_of c.args.scope.now) c.args.e.now c.in_default.not-Of
