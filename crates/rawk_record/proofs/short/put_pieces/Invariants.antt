use Rattle.std.proofs.Common.{◌≡◌, map, take}
use Rattle.rawk_record.specs.ShortPieces.{wide}
use Rattle.rawk_record.proofs.short.put_pieces.Given as goal

abbrev pub invariant-loop-at : goal.invariant-loop-at
invariant-loop-at l = map wide (take l.at l.to) ≡ take l.at l.pieces
