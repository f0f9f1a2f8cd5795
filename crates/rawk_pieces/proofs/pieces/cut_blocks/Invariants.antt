use Rattle.std.proofs.Common.{length, ◌-◌}
use Rattle.rawk_pieces.specs.Pieces.{IsCut}
use Rattle.rawk_pieces.proofs.pieces.cut_blocks.Given as goal

abbrev pub invariant-loop-at : goal.invariant-loop-at
invariant-loop-at g l = IsCut (g.C.Class.contains l.class) l.empty_too l.text l.pieces.items l.start l.at

abbrev pub decreases-loop-at : goal.decreases-loop-at
decreases-loop-at g l = length l.text - l.at
