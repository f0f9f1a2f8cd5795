-- Pieces of short texts.
use Rattle.std.specs.Prelude.{◌≤◌}
use Rattle.rawk_pieces.specs.declared.pieces.Piece.{Piece}
use Rattle.rawk_record.specs.declared.short.ShortPiece.{ShortPiece}

-- the piece of which a short one holds the places
abbrev pub wide : ShortPiece → Piece
wide p = record { start = p.start; end = p.end }

-- its places fit a byte
abbrev pub IsNarrow : Piece → Type 0
IsNarrow p = (p.start ≤ 255) × (p.end ≤ 255)
