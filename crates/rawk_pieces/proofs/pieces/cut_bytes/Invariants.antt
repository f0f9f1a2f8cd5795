use Rattle.rawk_pieces.specs.Pieces.{IsCut}
use Rattle.rawk_pieces.proofs.pieces.cut_bytes.Given as goal

abbrev pub invariant-loop-end : goal.invariant-loop-end
invariant-loop-end g l = IsCut (g.C.Class.contains l.class) l.empty_too l.text l.pieces.items l.start l.end
