use Rattle.std.proofs.Common.{◌≡◌, take}
use Rattle.rawk_selection.proofs.instructions.items_of.Given as goal

abbrev pub invariant-loop-item : goal.invariant-loop-item
invariant-loop-item g l = l.items ≡ take l.item-index l.from
