use Rattle.std.proofs.Common.{length, ◌-◌}
use Rattle.rawk_pieces.specs.Nth.{IsCounted}
use Rattle.rawk_pieces.proofs.nth.seek_in_blocks.Given as goal

abbrev pub invariant-loop-at : goal.invariant-loop-at
invariant-loop-at g l = IsCounted (g.C.Class.contains l.class) l.empty_too l.text l.place l.start l.at l.left

abbrev pub decreases-loop-at : goal.decreases-loop-at
decreases-loop-at g l = length l.text - l.at
