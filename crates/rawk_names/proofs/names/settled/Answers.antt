use Rattle.std.proofs.Common.{refl}
use Rattle.rawk_names.proofs.Misuses.{proper, first_is}
use Rattle.rawk_names.proofs.names.settled.Goals as goal

pub returns-in-Some-clause-refused : goal.returns-in-Some-clause-refused
returns-in-Some-clause-refused c = first_is c.args.register.now.uses.items c.in_ok-arrays.arrays.items c.in-Some.left c.in_ok-arrays.ensures c.in-Some.ensures

pub returns-in-None-clause-named : goal.returns-in-None-clause-named
returns-in-None-clause-named c =
    record {
      functions = refl;
      signatures = refl;
      variables = refl;
      arrays = c.in_ok-arrays.ensures;
      proper = proper c.args.register.now.uses.items c.in_ok-arrays.arrays.items c.in_ok-arrays.ensures c.in-None.ensures;
    }
