use Rattle.std.proofs.Common.{◌≡◌, ◌++◌, take}
use Rattle.rawk_ere_tree.proofs.code.Code.extend.Given as goal

abbrev pub invariant-loop-index : goal.invariant-loop-index
invariant-loop-index l = l.self ≡ l.fn.self ++ take l.index l.other
