use Rattle.std.proofs.Common.{take}
use Rattle.rawk_names.specs.Marking.{AreLinks}
use Rattle.rawk_names.proofs.arrays.links_of.Given as goal

abbrev pub invariant-loop-usage : goal.invariant-loop-usage
invariant-loop-usage l = AreLinks (take l.usage-index l.uses) l.links.from l.links.to.items
