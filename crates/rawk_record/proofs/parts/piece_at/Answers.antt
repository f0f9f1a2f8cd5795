use Rattle.std.proofs.Common.{◌<◌, length, arith, refl}
use Rattle.rawk_record.proofs.Values.{field_placed}
use Rattle.rawk_record.proofs.parts.piece_at.Goals as goal

pub returns-in-None-clause-value : goal.returns-in-None-clause-value
returns-in-None-clause-value c =
    λ d. let s = c.args.parts.now in
    let h : c.args.place < length s.pieces.items = omega (arith, s.pieces.ok.0, c.if-len-place.false, c.len.ensures) in
    field_placed s.text.items s.text.items s.pieces.items s.kept.items c.args.place d c.index.result.now h c.in-None.ensures c.index.ensures refl
