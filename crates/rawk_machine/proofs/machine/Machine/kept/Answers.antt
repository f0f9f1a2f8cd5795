use Rattle.std.proofs.Common.{◌≡◌, ◌∙◌, ◌+◌, ap, sym, arith, reverse}
use Rattle.rawk_history.specs.Saving.{saved_by_all, saved_in_groups, saved_in_groups-reverse}
use Rattle.rawk_store.specs.Stores.{now_of}
use Rattle.rawk_machine.specs.Standing.{Standing, old_values, saved_before}
use Rattle.rawk_machine.specs.Kept.{pasts}
use Rattle.rawk_machine.proofs.Savings.{saved_here, saved_past}
use Rattle.rawk_machine.proofs.machine.Machine.kept.Goals as goal

pub returns : goal.returns
returns g c = λ few.
    let i = c.self.inside in
    let l = now_of i.store in
    let here = reverse i.here.items in
    let items = g.K.Keeper.kept i.keeper in
    let sets_too = saved_here l i.sets.items here ∙ saved_in_groups-reverse i.here.items in
    let past = saved_past l i.sets.items i.point here items in
    let groups = c.deref.result.now in
    let same : i.here.items ≡ groups = sym c.deref.ensures.value in
    let all : old_values c.args.self.now ≡ saved_in_groups groups + saved_by_all items =
    sym (ap (λ (m : Standing g.row.R.Denot). old_values m) c.self.view_is)
    ∙ ap (λ n. n + saved_before (pasts l i.sets.items i.point here items)) (sets_too ∙ ap saved_in_groups same)
    ∙ ap (λ n. saved_in_groups groups + n) past in
    let x = c.saved_in_groups.ensures (omega (arith, few, all)) in
    let y = c.saved.ensures (omega (arith, few, all)) in
    omega (arith, few, all, x, y, c.saturating_add.ensures)
