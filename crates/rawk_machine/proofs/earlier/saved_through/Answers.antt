use Rattle.std.proofs.Common.{◌≡◌, ◌+◌, ◌∷◌, ◌∙◌, ap, sym, arith, drop, slice_get, Option, Bor}
use Rattle.std.specs.Prelude.{option_copied}
use Rattle.std.proofs.lemmas.List.{drop_more}
use Rattle.rawk_value.specs.declared.value.Value.{Value}
use Rattle.rawk_store.specs.Groups.{Group}
use Rattle.rawk_store.specs.Back.{back, saved_or}
use Rattle.rawk_store.specs.BackLaws.{length-back}
use Rattle.rawk_steps.specs.Leading.{globals_forth}
use Rattle.rawk_machine.proofs.earlier.saved_through.Goals as goal
use Rattle.rawk_machine.proofs.earlier.saved_through.Goals.{in-Some, in-None}

pub loop-group-preserved : goal.loop-group-preserved
loop-group-preserved c = λ xs lt.
    let r = c.loop-group.invariant xs lt in
    let g = c.group-item.result in
    let gs = c.args.groups.now in
    let n = c.args.number in
    let cut = drop_more gs c.loop-group.group-index g c.loop-group-test.true ∙ ap (λ (x : Group). x ∷ drop (c.loop-group.group-index + 1) gs) (sym c.group-item.is) in
    let found = ap (λ es. slice_get (back r.0 es) n) (sym c.globals.ensures) ∙ c.saved_at.ensures r.0 (omega (arith, lt, r.1)) in
    let at : slice_get (back r.0 g.globals) n ≡ saved_or (option_copied c.match-saved_at.value) (slice_get xs n) = elim c.match-saved_at.branch [
      | in-Some w ↦ found ∙ (ap (λ (o : Option (Bor Value)). saved_or (option_copied o) (slice_get r.0 n)) w.in-Some.is ∙ ap (λ (o : Option (Bor Value)). saved_or (option_copied o) (slice_get xs n)) (sym w.value-is))
      | in-None w ↦ found ∙ (ap (λ (o : Option (Bor Value)). saved_or (option_copied o) (slice_get r.0 n)) w.in-None.is ∙ (r.2 ∙ ap (λ (o : Option (Bor Value)). saved_or (option_copied o) (slice_get xs n)) (sym w.value-is)))
    ] in (
      back r.0 g.globals,
      length-back r.0 g.globals ∙ r.1,
      at,
      r.3 ∙ ap (globals_forth r.0) cut,
    )
