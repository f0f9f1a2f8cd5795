use Rattle.std.proofs.Common.{max, ◌+◌, ◌≤◌, vec_len}
use Rattle.std.specs.Prelude.{vec_capacity}
use Rattle.rawk_pieces.specs.Masks.{IsMaskFrom}
use Rattle.rawk_pieces.specs.Pieces.{IsCut}
use Rattle.rawk_pieces.proofs.pieces.cut_block.Given as goal

-- what stands before the bits that are left is cut
abbrev pub invariant-loop-rest : goal.invariant-loop-rest
invariant-loop-rest g l = record {
  cut : IsCut (g.C.Class.contains l.class) l.empty_too l.text l.pieces.items l.start (max l.start l.at);
  bits : IsMaskFrom (g.C.Class.contains l.class) l.text l.at (max l.start l.at) l.rest;
  near : l.start ≤ l.at + 32;
  room : vec_len l.pieces + l.at + 32 ≤ vec_capacity l.pieces + max l.start l.at;
}

abbrev pub decreases-loop-rest : goal.decreases-loop-rest
decreases-loop-rest g l = l.rest
