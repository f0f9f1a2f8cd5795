use Rattle.std.proofs.Common.{◌≡◌, ◌++◌, map, take}
use Rattle.rawk_ere_tree.specs.declared.code.Instruction.TheVariants.{Split}
use Rattle.rawk_ere_tree.proofs.emit.split.Given as goal

abbrev pub invariant-loop-index : goal.invariant-loop-index
invariant-loop-index l = l.code ≡ l.fn.code ++ map Split (take l.index l.splits)
