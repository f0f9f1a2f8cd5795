use Rattle.std.proofs.Common.{◌≡◌, ◌<◌, ◌∙◌, ap, sym, arith, Some, slice_get, length}
use Rattle.std.proofs.lemmas.Option.{slice_get-get_or, slice_get_within}
use Rattle.rawk_slots.specs.declared.saved.Saved.{Saved}
use Rattle.rawk_slots.proofs.Backs.{back_found, back_missing, none_next}
use Rattle.rawk_slots.proofs.slot_group.saved_at.Goals as goal

pub loop-i-preserved : goal.loop-i-preserved
loop-i-preserved g c =
    let es = c.args.entries.now in
    let e = c.index-entries-i.result in
    let inside : c.loop-i.i < length es = omega (arith, c.loop-i-test.true) in
    let there : slice_get es c.loop-i.i ≡ Some e = slice_get-get_or es c.loop-i.i e inside ∙ ap (λ (x : Saved g.row.T.Denot). Some x) (sym c.index-entries-i.is) in
    none_next es c.loop-i.i c.args.place e there c.if-entry-place.false c.loop-i.invariant

pub loop-i-init : goal.loop-i-init
loop-i-init g c = λ k f lt h. absurd (omega (arith, lt))

pub loop-i-smaller : goal.loop-i-smaller
loop-i-smaller g c = omega (arith, c.loop-i-test.true)

pub returns-then-entry-place : goal.returns-then-entry-place
returns-then-entry-place g c = λ xs inside_all.
    let es = c.args.entries.now in
    let e = c.index-entries-i.result in
    let inside : c.loop-i.i < length es = omega (arith, c.loop-i-test.true) in
    let there : slice_get es c.loop-i.i ≡ Some e = slice_get-get_or es c.loop-i.i e inside ∙ ap (λ (x : Saved g.row.T.Denot). Some x) (sym c.index-entries-i.is) in
    back_found xs es c.loop-i.i e c.args.place there c.if-entry-place.true inside_all c.loop-i.invariant

pub returns : goal.returns
returns g c = λ xs inside_all.
    let es = c.args.entries.now in
    let past = c.loop-i-test.false in
    back_missing xs es c.args.place (λ k f h. c.loop-i.invariant k f (let w = slice_get_within es k f h in omega (arith, w, past)) h)
