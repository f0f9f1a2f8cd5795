use Rattle.std.proofs.Common.{◌<◌, length, arith}
use Rattle.rawk_record.proofs.Values.{field_kept, field_placed}
use Rattle.rawk_record.proofs.parts.field_at.Goals as goal

pub returns-in-Some : goal.returns-in-Some
returns-in-Some c =
    λ d. let s = c.args.parts.now in
    let h : c.args.place < length s.pieces.items = omega (arith, s.pieces.ok.0) in
    field_kept s.text.items s.pieces.items s.kept.items c.args.place d c.in-Some.value.now h c.in-Some.ensures

pub returns-in-None : goal.returns-in-None
returns-in-None c =
    λ d. let s = c.args.parts.now in
    let h : c.args.place < length s.pieces.items = omega (arith, s.pieces.ok.0) in
    field_placed s.text.items c.deref.result.now s.pieces.items s.kept.items c.args.place d c.index-piece.result.now h c.in-None.ensures c.index-piece.ensures c.deref.ensures.value
