use Rattle.std.proofs.Common.{take}
use Rattle.rawk_names.specs.Marking.{AreBelow}
use Rattle.rawk_names.proofs.arrays.end_of_all.Given as goal

abbrev pub invariant-loop-usage : goal.invariant-loop-usage
invariant-loop-usage l = AreBelow (take l.usage-index l.uses) l.«end»
