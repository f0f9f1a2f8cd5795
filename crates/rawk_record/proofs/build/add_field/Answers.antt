use Rattle.std.proofs.Common.{◌≡◌, length, arith, ap, sym, ◌∙◌}
use Rattle.rawk_record.specs.FieldRefs.{ref_value}
use Rattle.rawk_record.proofs.Drafts.{more-draft, more-fields}
use Rattle.rawk_record.proofs.build.add_field.Goals as goal

pub returns-clause-draft : goal.returns-clause-draft
returns-clause-draft c =
    let s = c.args.parts.now in
    let new = c.end_field.new.parts in
    let count : c.len.result ≡ length s.pieces.items = omega (arith, s.pieces.ok.0) in
    let from : c.len-start.result ≡ length c.add_separator.new.text.items = omega (arith, c.add_separator.new.text.ok.0) in
    let e = c.in_ok-end_field.ensures in
    more-draft c.args.separator.now s.text.items c.add_separator.new.text.items new.text.items s.pieces.items new.pieces.items s.kept.items new.kept.items c.len.result c.len-start.result (length c.add_text.new.text.items) (ref_value c.args.field) c.in_ok-own.own
    c.requires count c.in_ok-add_separator.ensures (e.text ∙ c.in_ok-add_text.ensures) c.in_ok-own.ensures from (sym (ap length e.text)) e.pieces e.kept e.aligned

pub returns-clause-fields : goal.returns-clause-fields
returns-clause-fields c =
    let s = c.args.parts.now in
    let new = c.end_field.new.parts in
    let count : c.len.result ≡ length s.pieces.items = omega (arith, s.pieces.ok.0) in
    let from : c.len-start.result ≡ length c.add_separator.new.text.items = omega (arith, c.add_separator.new.text.ok.0) in
    let e = c.in_ok-end_field.ensures in
    more-fields c.args.separator.now s.text.items c.add_separator.new.text.items new.text.items s.pieces.items new.pieces.items s.kept.items new.kept.items c.len.result c.len-start.result (length c.add_text.new.text.items) (ref_value c.args.field) c.in_ok-own.own
    c.requires count c.in_ok-add_separator.ensures (e.text ∙ c.in_ok-add_text.ensures) c.in_ok-own.ensures from (sym (ap length e.text)) e.pieces e.kept e.aligned
