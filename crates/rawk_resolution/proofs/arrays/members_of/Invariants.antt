use Rattle.std.proofs.Common.{take}
use Rattle.rawk_resolution.specs.Meant.{sense_of}
use Rattle.rawk_resolution.specs.Settled.{IsIn}
use Rattle.rawk_resolution.proofs.arrays.members_of.Given as goal

abbrev pub invariant-loop-name : goal.invariant-loop-name
invariant-loop-name l = IsIn (sense_of l.scope) l.fn.subscript (take l.name-index l.names) l.answer
