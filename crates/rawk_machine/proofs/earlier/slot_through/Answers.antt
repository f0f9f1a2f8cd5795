use Rattle.std.proofs.Common.{◌+◌, ◌∷◌, ◌∙◌, ap, sym, arith, drop, slice_get, Option}
use Rattle.std.proofs.lemmas.List.{drop_more}
use Rattle.rawk_store.specs.declared.rare_changes.RareChanges.{RareChanges}
use Rattle.rawk_store.specs.Groups.{Group}
use Rattle.rawk_store.specs.GroupBack.{arrays_in}
use Rattle.rawk_steps.specs.Leading.{arrays_forth}
use Rattle.rawk_machine.proofs.Befores.{size_in}
use Rattle.rawk_machine.proofs.earlier.slot_through.Goals as goal

pub loop-group-preserved : goal.loop-group-preserved
loop-group-preserved c = λ x lt is live.
    let r = c.loop-group.invariant x lt is live in
    let g = c.group-item.result in
    let gs = c.args.groups.now in
    let cut = drop_more gs c.loop-group.group-index g c.loop-group-test.true ∙ ap (λ (y : Group). y ∷ drop (c.loop-group.group-index + 1) gs) (sym c.group-item.is) in (
      arrays_in r.0 g.others,
      size_in r.0 g.others ∙ r.1,
      ap (λ (o : Option RareChanges). slice_get (arrays_in r.0 o).slots c.args.number) (sym c.others.ensures) ∙ c.slot_before-at.ensures.slot r.0 (omega (arith, lt, r.1)) r.2,
      ap (λ (o : Option RareChanges). (arrays_in r.0 o).live) (sym c.others.ensures) ∙ c.slot_before-at.ensures.live r.0 r.3,
      r.4 ∙ ap (arrays_forth r.0) cut,
    )
