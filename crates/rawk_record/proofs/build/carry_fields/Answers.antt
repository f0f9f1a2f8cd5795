use Rattle.std.proofs.Common.{◌++◌, ◌∷◌, [], List, drop, get_or, ap, sym, ◌∙◌, append_assoc}
use Rattle.rawk_value.specs.declared.value.Value.{Value}
use Rattle.rawk_value.specs.declared.value.Value.TheVariants.{Uninitialized}
use Rattle.rawk_record.specs.Changed.{resized}
use Rattle.rawk_record.specs.Drafts.{values_of}
use Rattle.rawk_record.proofs.Drafts.{rest-more}
use Rattle.rawk_record.proofs.build.carry_fields.Goals as goal

pub loop-place-preserved : goal.loop-place-preserved
loop-place-preserved c =
    let earlier : List Value = values_of c.args.earlier.now in
    let first : List Value = values_of c.args.parts.now in
    let so_far : List Value = drop c.args.from (resized c.loop-place.place earlier) in
    let one : List Value = get_or earlier c.loop-place.place Uninitialized ∷ [] in
    record {
      ahead = c.in_ok-ahead.ensures.ahead;
      fields =
          c.in_ok-ahead.ensures.fields
          ∙ (ap (λ (x : List Value). x ++ one) c.loop-place.invariant.fields
          ∙ (append_assoc first so_far one ∙ ap (λ (x : List Value). first ++ x) (sym (rest-more c.args.from c.loop-place.place earlier c.loop-place.auto.place))));
    }
