use Rattle.std.proofs.Common.{◌∙◌, ap, sym, List}
use Rattle.std.specs.Prelude.{slice_index_or, slice_set}
use Rattle.std.proofs.lemmas.Option.{get_or_from_slice_get}
use Rattle.rawk_value.specs.declared.value.Value.{Value}
use Rattle.rawk_value.specs.declared.value.Value.TheVariants.{Uninitialized}
use Rattle.rawk_slots.specs.Journaled.{Journaled, at_rest}
use Rattle.rawk_cells.specs.Cells.{shortened}
use Rattle.rawk_cells.proofs.Puts.{put_again, same_again}
use Rattle.rawk_cells.proofs.cells.keep_shorter.Goals as goal

pub returns-in-Ok-clause-now : goal.returns-in-Ok-clause-now
returns-in-Ok-clause-now c =
    let p = c.args.grown.place in
    let v = c.replace_at_rest-now.result in
    c.in-Ok.ensures.did
    ∙ (ap (λ (j : Journaled (List Value)). slice_set j.now p v) c.replace_at_rest-now.ensures.after ∙ put_again c.args.slots.now.now p v c.shortened-earlier.result c.replace_at_rest-now.ensures.value)

pub returns-in-Ok-clause-start : goal.returns-in-Ok-clause-start
returns-in-Ok-clause-start c =
    let xs = c.args.slots.now.now in
    let p = c.args.grown.place in
    let was = get_or_from_slice_get xs p c.in-Some.value.now Uninitialized (sym c.in-Some.ensures) in
    let back = λ (ys : List Value). slice_set ys p (shortened c.args.grown.count (slice_index_or ys p Uninitialized)) in
    c.in-Ok.ensures.start
    ∙ (ap (λ (j : Journaled (List Value)). j.start) c.replace_at_rest-now.ensures.after
    ∙ (ap (λ (v : Value). slice_set xs p v) (c.shortened-earlier.ensures ∙ ap (λ (v : Value). shortened c.args.grown.count v) (c.in_ok-copy-in-Some.ensures ∙ sym was))
    ∙ ap back (sym c.requires.rest)))

pub returns-in-Err-clause-err : goal.returns-in-Err-clause-err
returns-in-Err-clause-err c =
    let p = c.args.grown.place in
    same_again c.args.slots.now c.replace_at_rest-now.new.self c.replace_at_rest.new.self p c.in-Some.value.now c.shortened-earlier.result (sym c.in-Some.ensures) c.requires.rest c.replace_at_rest-now.ensures.after
    (c.replace_at_rest.ensures.after
    ∙ (ap (λ (v : Value). at_rest (slice_set c.write.new.self.now p v)) c.in_ok-spare-in-Some.ensures ∙ ap (λ (xs : List Value). at_rest (slice_set xs p c.in-Some.value.now)) c.in-Err.ensures.err))

pub returns-in-Err-clause-now : goal.returns-in-Err-clause-now
returns-in-Err-clause-now c = ap (λ (j : Journaled (List Value)). j.now) (returns-in-Err-clause-err c)
