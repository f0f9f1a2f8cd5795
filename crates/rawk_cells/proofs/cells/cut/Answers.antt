use Rattle.std.proofs.Common.{◌∙◌, ap, sym, List}
use Rattle.std.specs.Prelude.{slice_set}
use Rattle.std.proofs.lemmas.List.{set-set}
use Rattle.std.proofs.lemmas.Option.{get_or_from_slice_get}
use Rattle.rawk_value.specs.declared.value.Value.{Value}
use Rattle.rawk_value.specs.declared.value.Value.TheVariants.{Uninitialized}
use Rattle.rawk_slots.specs.Journaled.{Journaled, at_rest}
use Rattle.rawk_cells.specs.Cells.{shortened}
use Rattle.rawk_cells.proofs.cells.cut.Goals as goal

pub returns : goal.returns
returns c =
    let xs = c.args.slots.now.now in
    let p = c.args.place in
    let was = get_or_from_slice_get xs p c.replace_at_rest-now.result Uninitialized c.replace_at_rest-now.ensures.value in
    c.replace_at_rest.ensures.after
    ∙ (ap (λ (j : Journaled (List Value)). at_rest (slice_set j.now p c.shortened.result)) c.replace_at_rest-now.ensures.after
    ∙ (ap (λ (ys : List Value). at_rest ys) (set-set xs p Uninitialized c.shortened.result)
    ∙ ap (λ (v : Value). at_rest (slice_set xs p v)) (c.shortened.ensures ∙ ap (λ (v : Value). shortened c.args.count v) (sym was))))
