use Rattle.std.proofs.Common.{◌<◌, ◌≤◌, ◌-◌, arith, length, refl}
use Rattle.rawk_record.specs.Drafts.{values_of}
use Rattle.rawk_record.specs.FieldRefs.{ref_value}
use Rattle.rawk_record.proofs.Values.{get_there, get_beyond}
use Rattle.rawk_record.proofs.parts.field_in.Goals as goal

pub returns-then-len-number : goal.returns-then-len-number
returns-then-len-number c =
    let s = c.args.parts.now in
    let high : length s.pieces.items ≤ c.args.number - 1 = omega (arith, s.pieces.ok.0) in
    get_beyond s.text.items s.pieces.items s.kept.items (values_of s) (c.args.number - 1) refl high

pub returns : goal.returns
returns c =
    let s = c.args.parts.now in
    let low : c.args.number - 1 < length s.pieces.items = omega (arith, s.pieces.ok.0) in
    get_there s.text.items s.pieces.items s.kept.items (values_of s) (c.args.number - 1) (ref_value c.field_at.result) refl low c.field_at.ensures
