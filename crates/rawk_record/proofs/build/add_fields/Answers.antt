use Rattle.std.proofs.Common.{◌≡◌, ◌+◌, ◌-◌, ◌++◌, ◌∷◌, [], List, drop, slice_get, arith, ap, sym, ◌∙◌, append_assoc}
use Rattle.rawk_value.specs.declared.value.Value.{Value}
use Rattle.rawk_record.specs.Changed.{resized}
use Rattle.rawk_record.specs.Drafts.{values_of}
use Rattle.rawk_record.specs.FieldRefs.{ref_value}
use Rattle.rawk_record.proofs.Drafts.{rest-more}
use Rattle.rawk_record.proofs.build.add_fields.Goals as goal

pub loop-place-preserved : goal.loop-place-preserved
loop-place-preserved c =
    let earlier : List Value = c.args.earlier.now.fields in
    let first : List Value = values_of c.args.parts.now in
    let so_far : List Value = drop c.args.from (resized c.loop-place.place earlier) in
    let inv = c.loop-place.invariant in
    let one : List Value = ref_value c.field_or-field.result ∷ [] in
    let at : c.loop-place.place + 1 - 1 ≡ c.loop-place.place = omega arith in
    let field = c.field_or-field.ensures earlier c.loop-place.place (c.field.ensures ∙ ap (slice_get earlier) at) in
    record {
      draft = c.in_ok-add_field.ensures.draft;
      fields =
          c.in_ok-add_field.ensures.fields
          ∙ (ap (λ (x : List Value). x ++ one) inv.fields
          ∙ (append_assoc first so_far one
          ∙ ap (λ (x : List Value). first ++ x) (ap (λ (v : Value). so_far ++ v ∷ []) (sym field) ∙ sym (rest-more c.args.from c.loop-place.place earlier c.loop-place.auto.place))));
      none = inv.none;
    }
