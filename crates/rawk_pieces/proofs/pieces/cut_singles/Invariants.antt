use Rattle.std.proofs.Common.{◌≡◌, take}
use Rattle.rawk_pieces.specs.Pieces.{texts, AllInRange, singles}
use Rattle.rawk_pieces.proofs.pieces.cut_singles.Given as goal

abbrev pub invariant-loop-start : goal.invariant-loop-start
invariant-loop-start l = (texts l.text l.pieces.items ≡ singles (take l.start l.text)) × AllInRange l.text l.pieces.items
