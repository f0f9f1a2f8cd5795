use Rattle.std.proofs.Common.{◌≡◌, ◌-◌, ◌++◌, ◌∷◌, [], List, drop, length, max, arith, ap, sym, ◌∙◌}
use Rattle.rawk_value.specs.declared.value.Value.{Value}
use Rattle.rawk_record.specs.Changed.{resized}
use Rattle.rawk_record.specs.Drafts.{values_of}
use Rattle.rawk_record.proofs.Drafts.{empty-fields, with_value-is}
use Rattle.rawk_record.proofs.build.build_with_value.Goals as goal

pub returns-clause-fields : goal.returns-clause-fields
returns-clause-fields c =
    let earlier : List Value = c.args.earlier.now.fields in
    let count : c.max-count.result ≡ max (length earlier) c.args.number = omega (arith, c.field_count.ensures.value) in
    let front : values_of c.add_fields.new.parts ≡ resized (c.args.number - 1) earlier =
    c.in_ok-add_fields.ensures.fields ∙ ap (λ (x : List Value). x ++ resized (c.args.number - 1) earlier) (empty-fields c.clear.new.parts c.clear.ensures.pieces) in
    c.in_ok-add_fields-2.ensures.fields
    ∙ (ap (λ (x : List Value). x ++ drop c.args.number (resized c.max-count.result earlier)) (c.in_ok-add_value.ensures.fields ∙ ap (λ (x : List Value). x ++ c.args.value ∷ []) front)
    ∙ (ap (λ n. (resized (c.args.number - 1) earlier ++ c.args.value ∷ []) ++ drop c.args.number (resized n earlier)) count
    ∙ sym (with_value-is c.args.number c.args.value earlier c.requires)))
