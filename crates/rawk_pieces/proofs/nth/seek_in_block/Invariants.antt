use Rattle.std.proofs.Common.{max, ◌+◌, ◌≤◌}
use Rattle.rawk_pieces.specs.Masks.{IsMaskFrom}
use Rattle.rawk_pieces.specs.Nth.{IsCounted}
use Rattle.rawk_pieces.proofs.nth.seek_in_block.Given as goal

-- the runs before the bits that are left are counted
abbrev pub invariant-loop-rest : goal.invariant-loop-rest
invariant-loop-rest g l = record {
  counted : IsCounted (g.C.Class.contains l.class) l.empty_too l.text l.place l.start (max l.start l.at) l.left;
  bits : IsMaskFrom (g.C.Class.contains l.class) l.text l.at (max l.start l.at) l.rest;
  near : l.start ≤ l.at + 32;
}

abbrev pub decreases-loop-rest : goal.decreases-loop-rest
decreases-loop-rest g l = l.rest
