use Rattle.std.proofs.Common.{◌≡◌, ◌<◌, ◌≤◌, ◌∙◌, ap, sym, arith, length, reverse, List, Option, slice_get}
use Rattle.std.specs.Prelude.{option_copied}
use Rattle.std.proofs.lemmas.Option.{same_Some, slice_get_past}
use Rattle.rawk_store.specs.Groups.{Group}
use Rattle.rawk_store.specs.GroupBack.{globals_on}
use Rattle.rawk_store.specs.GrownLaws.{length-globals_on}
use Rattle.rawk_store.specs.declared.rare_changes.RareChanges.{RareChanges}
use Rattle.rawk_store.specs.Stores.{now_of}
use Rattle.rawk_machine.specs.Last.{Back, Last, last_of}
use Rattle.rawk_machine.specs.declared.last_move.LastMove.{LastMove}
use Rattle.rawk_machine.specs.declared.last_move.LastMove.TheVariants as move
use Rattle.rawk_machine.specs.Standing.{Standing}
use Rattle.rawk_store.specs.Observed.{Observed}
use Rattle.rawk_machine.specs.Kept.{pasts, before_of}
use Rattle.rawk_steps.specs.Leading.{globals_forth}
use Rattle.rawk_machine.proofs.Befores.{length_before}
use Rattle.rawk_machine.proofs.machine.Machine.earlier_global.Goals as goal

pub returns-then-len-number : goal.returns-then-len-number
returns-then-len-number g c = λ s is.
    let i = c.self.inside in
    let l = now_of i.store in
    let size = length_before (last_of i.last (g.K.Keeper.forth i.keeper)) l i.sets.items i.point (reverse i.here.items) (g.K.Keeper.kept i.keeper) s c.self.invariant.clean (ap (λ (m : Standing g.row.R.Denot). m.before) c.self.view_is ∙ is) in
    let past : length l.globals ≤ c.args.number = omega (arith, c.if-len-number.true, c.len.ensures) in
    sym (slice_get_past s.globals c.args.number (omega (arith, past, size)))

pub returns-in-Some-saved_through : goal.returns-in-Some-saved_through
returns-in-Some-saved_through g c = λ s is.
    let i = c.self.inside in
    let l = now_of i.store in
    let n = c.args.number in
    let a = c.in-Some-ahead.ensures in
    let f = a.0 in
    let mid = globals_on l.globals f.globals f.others in
    let within : n < length mid = omega (arith, c.if-len-number.false, c.len.ensures, length-globals_on l.globals f.globals f.others) in
    let last : last_of i.last (g.K.Keeper.forth i.keeper) ≡ Back f = ap (λ (m : LastMove). last_of m (g.K.Keeper.forth i.keeper)) c.in-Back.is ∙ ap (last_of move.Back) a.1 in
    let seen = same_Some _ _ (sym (ap (λ (la : Last). before_of la l.globals l.arrays l.current (pasts l i.sets.items i.point (reverse i.here.items) (g.K.Keeper.kept i.keeper))) last) ∙ ap (λ (m : Standing g.row.R.Denot). m.before) c.self.view_is ∙ is) in
    sym (c.in-Some-saved_through.ensures mid within) ∙ ap (λ (gs : List Group). slice_get (globals_forth mid gs) n) (c.ahead_sets.ensures f a.1) ∙ ap (λ (x : Observed). slice_get x.globals n) seen

pub returns-in-None-saved_through : goal.returns-in-None-saved_through
returns-in-None-saved_through g c = λ s is.
    let i = c.self.inside in
    let l = now_of i.store in
    let n = c.args.number in
    let a = c.in-Some-ahead.ensures in
    let f = a.0 in
    let mid = globals_on l.globals f.globals f.others in
    let inside : n < length l.globals = omega (arith, c.if-len-number.false, c.len.ensures) in
    let within : n < length mid = omega (arith, inside, length-globals_on l.globals f.globals f.others) in
    let last : last_of i.last (g.K.Keeper.forth i.keeper) ≡ Back f = ap (λ (m : LastMove). last_of m (g.K.Keeper.forth i.keeper)) c.in-Back.is ∙ ap (last_of move.Back) a.1 in
    let seen = same_Some _ _ (sym (ap (λ (la : Last). before_of la l.globals l.arrays l.current (pasts l i.sets.items i.point (reverse i.here.items) (g.K.Keeper.kept i.keeper))) last) ∙ ap (λ (m : Standing g.row.R.Denot). m.before) c.self.view_is ∙ is) in
    sym (c.global_after.ensures l.globals inside (sym c.value-now.ensures))
    ∙ ap (λ es. slice_get (globals_on l.globals es (option_copied c.in-Some-ahead.step.others)) n) a.2
    ∙ ap (λ (o : Option RareChanges). slice_get (globals_on l.globals f.globals o) n) a.4
    ∙ sym (c.in-None-saved_through.ensures mid within)
    ∙ ap (λ (gs : List Group). slice_get (globals_forth mid gs) n) (c.ahead_sets.ensures f a.1)
    ∙ ap (λ (x : Observed). slice_get x.globals n) seen
