use Rattle.std.proofs.Common.{◌≡◌, ◌∙◌, ap, sym, reverse, List, Option, slice_get}
use Rattle.std.proofs.lemmas.Option.{same_Some}
use Rattle.std.specs.Prelude.{option_copied}
use Rattle.rawk_arrays.specs.Elements.{element_at}
use Rattle.rawk_arrays.specs.ListLaws.{length_arrays}
use Rattle.rawk_store.specs.declared.rare_changes.RareChanges.{RareChanges}
use Rattle.rawk_store.specs.Groups.{Group}
use Rattle.rawk_store.specs.GroupBack.{arrays_in}
use Rattle.rawk_store.specs.Observed.{Observed}
use Rattle.rawk_store.specs.Stores.{now_of}
use Rattle.rawk_machine.specs.Last.{Back, Last, On, last_of}
use Rattle.rawk_machine.specs.declared.last_move.LastMove.{LastMove}
use Rattle.rawk_machine.specs.declared.last_move.LastMove.TheVariants as move
use Rattle.rawk_machine.specs.Standing.{Standing}
use Rattle.rawk_machine.specs.Kept.{before_of, pasts}
use Rattle.rawk_steps.specs.Leading.{arrays_forth}
use Rattle.rawk_machine.proofs.Befores.{index_forth, index_in, laid_before, size_forth, size_in}
use Rattle.rawk_machine.proofs.EarlierElements.{held_is, none_before, on_arrays, slot_stays}
use Rattle.rawk_machine.proofs.Forths.{laid_forth, laid_in}
use Rattle.rawk_machine.proofs.machine.Machine.earlier_element.Goals as goal

pub returns-in_default : goal.returns-in_default
returns-in_default g c = λ s is.
    let i = c.self.inside in
    let l = now_of i.store in
    none_before c.args.array c.args.key.now l.arrays s c.in_default.ensures
    (laid_before (last_of i.last (g.K.Keeper.forth i.keeper)) l i.sets.items i.point (reverse i.here.items) (g.K.Keeper.kept i.keeper) s c.self.invariant.clean c.self.invariant.sound.arrays (ap (λ (m : Standing g.row.R.Denot). m.before) c.self.view_is ∙ is))

pub returns-in-Some-newest : goal.returns-in-Some-newest
returns-in-Some-newest g c = λ s is.
    let i = c.self.inside in
    let v = c.self.invariant in
    let l = now_of i.store in
    let a = c.args.array in
    let key = c.args.key.now in
    let n = c.in-Some.number in
    let here = reverse i.here.items in
    let kept = g.K.Keeper.kept i.keeper in
    let e = c.in-Some-newest.ensures in
    let o = e.0.step.others in
    let m = arrays_in l.arrays o in
    let last : last_of i.last (g.K.Keeper.forth i.keeper) ≡ On = ap (λ (x : LastMove). last_of x (g.K.Keeper.forth i.keeper)) c.in-On.is in
    let before = sym (ap (λ (la : Last). before_of la l.globals l.arrays l.current (pasts l i.sets.items i.point here kept)) last) ∙ ap (λ (x : Standing g.row.R.Denot). x.before) c.self.view_is ∙ is in
    let arrays = on_arrays l i.sets.items i.point here kept e.0 e.1 s e.2 (v.clean last) before in
    let slot : slice_get m.slots n ≡ option_copied c.slot_before.result.slot = ap (λ (x : Option RareChanges). slice_get (arrays_in l.arrays x).slots n) (sym e.5) ∙ c.slot_before.ensures.slot l.arrays c.in-Some.ensures.0 (sym c.slot.ensures) in
    let live : m.live ≡ c.slot_before.result.live = ap (λ (x : Option RareChanges). (arrays_in l.arrays x).live) (sym e.5) ∙ c.slot_before.ensures.live l.arrays (sym (c.len.ensures ∙ length_arrays l.arrays)) in
    c.held_by.ensures
    ∙ held_is a key n m (option_copied c.slot_before.result.slot) c.slot_before.result.live (laid_in l.arrays o v.sound.arrays) (slot_stays a key n l.arrays m c.in-Some.ensures (index_in l.arrays o) (size_in l.arrays o)) slot live
    ∙ ap (element_at a key) (sym arrays)

pub returns-in-Some-ahead : goal.returns-in-Some-ahead
returns-in-Some-ahead g c = λ s is.
    let i = c.self.inside in
    let v = c.self.invariant in
    let l = now_of i.store in
    let a = c.args.array in
    let key = c.args.key.now in
    let n = c.in-Some.number in
    let e = c.in-Some-ahead.ensures in
    let f = e.0 in
    let mid = arrays_in l.arrays f.others in
    let m = arrays_forth mid f.sets in
    let last : last_of i.last (g.K.Keeper.forth i.keeper) ≡ Back f = ap (λ (x : LastMove). last_of x (g.K.Keeper.forth i.keeper)) c.in-Back.is ∙ ap (last_of move.Back) e.1 in
    let seen = same_Some _ _ (sym (ap (λ (la : Last). before_of la l.globals l.arrays l.current (pasts l i.sets.items i.point (reverse i.here.items) (g.K.Keeper.kept i.keeper))) last) ∙ ap (λ (x : Standing g.row.R.Denot). x.before) c.self.view_is ∙ is) in
    let first : slice_get mid.slots n ≡ option_copied c.slot_before-in-Some-ahead.result.slot = ap (λ (x : Option RareChanges). slice_get (arrays_in l.arrays x).slots n) (sym e.4) ∙ c.slot_before-in-Some-ahead.ensures.slot l.arrays c.in-Some.ensures.0 (sym c.slot.ensures) in
    let first_live : mid.live ≡ c.slot_before-in-Some-ahead.result.live = ap (λ (x : Option RareChanges). (arrays_in l.arrays x).live) (sym e.4) ∙ c.slot_before-in-Some-ahead.ensures.live l.arrays (sym (c.len.ensures ∙ length_arrays l.arrays)) in
    let there = slot_stays a key n l.arrays mid c.in-Some.ensures (index_in l.arrays f.others) (size_in l.arrays f.others) in
    let through = c.slot_through.ensures mid there.0 first first_live in
    let sets = sym (c.ahead_sets.ensures f e.1) in
    let slot : slice_get m.slots n ≡ option_copied c.slot_through.result.slot = ap (λ (gs : List Group). slice_get (arrays_forth mid gs).slots n) sets ∙ through.0 in
    let live : m.live ≡ c.slot_through.result.live = ap (λ (gs : List Group). (arrays_forth mid gs).live) sets ∙ through.1 in
    let laid = laid_forth mid f.sets (laid_in l.arrays f.others v.sound.arrays) in
    c.held_by-in-Some-ahead.ensures
    ∙ held_is a key n m (option_copied c.slot_through.result.slot) c.slot_through.result.live laid (slot_stays a key n mid m there (index_forth mid f.sets) (size_forth mid f.sets)) slot live
    ∙ ap (λ (x : Observed). element_at a key x.arrays) seen
