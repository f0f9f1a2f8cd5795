use Rattle.std.proofs.Common.{refl, sym, ◌∙◌}
use Rattle.rawk_ere_begins.proofs.FilterLemmas.{has_in_common}
use Rattle.rawk_ere_begins.proofs.filter.find_asked.Goals as goal

pub returns-in-Some : goal.returns-in-Some
returns-in-Some c x y lx ly =
    let common = has_in_common c.args.first.now c.args.second.now c.all_marks.result c.all_marks.ensures (c.if-have_all.ensures refl) x y lx ly in
    let is = c.in-Some.ensures c.in-Some.byte refl x lx in
    (λ not. is.0 (λ e. not (common ∙ e)), λ e zero. is.1 e (sym common ∙ zero))

pub returns-in-None : goal.returns-in-None
returns-in-None c x y lx ly not zero = not (sym (has_in_common c.args.first.now c.args.second.now c.all_marks.result c.all_marks.ensures (c.if-have_all.ensures refl) x y lx ly) ∙ zero)
