use Rattle.std.proofs.Common.{slice_index_or, ◌<◌, length, arith, refl}
use Rattle.rawk_pieces.specs.declared.pieces.Piece.{Piece}
use Rattle.rawk_record.proofs.Shorts.{put_more}
use Rattle.rawk_record.proofs.short.put_pieces.Goals as goal

pub loop-at-preserved : goal.loop-at-preserved
loop-at-preserved c =
    let at = c.loop-at.at in
    let piece : Piece = slice_index_or c.args.pieces.now at (record { start = 0; end = 0 }) in
    let room : at < length c.loop-at.to = omega (arith, c.loop-at.auto.to, c.requires.few, c.loop-at-test.true) in
    put_more c.loop-at.to c.args.pieces.now at (record { start = 0; end = 0 }) (record { start = piece.start; end = piece.end }) room c.loop-at-test.true refl c.loop-at.invariant
