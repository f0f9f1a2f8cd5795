use Rattle.std.proofs.Common.{◌≤◌, ◌+◌, length, reverse, sym, subst, arith}
use Rattle.rawk_store.specs.Stores.{now_of}
use Rattle.rawk_machine.specs.Kept.{AllBelow, Few}
use Rattle.rawk_machine.specs.Standing.{Standing, LastMade}
use Rattle.rawk_machine.proofs.SetLists.{ends_below}
use Rattle.rawk_machine.proofs.Chains.{ends_with, length-pasts, last_here}
use Rattle.rawk_machine.proofs.Journals.{chain_short}
use Rattle.rawk_machine.proofs.Stands.{come_some}
use Rattle.rawk_machine.proofs.machine.Machine.known.Goals as goal

pub returns-clause-within : goal.returns-clause-within
returns-clause-within g c = subst (λ (m : Standing g.row.R.Denot). m.point ≤ m.steps) c.self.view_is c.self.invariant.within

pub returns-clause-back : goal.returns-clause-back
returns-clause-back g c =
    let i = c.self.inside in
    let l = now_of i.store in
    let here = reverse i.here.items in
    let kept = g.K.Keeper.kept i.keeper in
    let short = chain_short l i.point (length i.tape.bytes) i.sets.items here kept c.self.invariant.chain in
    subst (λ (m : Standing g.row.R.Denot). length m.history ≤ m.point) c.self.view_is (omega (arith, short, length-pasts l i.sets.items i.point here kept))

pub returns-clause-few : goal.returns-clause-few
returns-clause-few g c =
    let i = c.self.inside in
    let l = now_of i.store in
    let here = reverse i.here.items in
    let kept = g.K.Keeper.kept i.keeper in
    subst (λ (m : Standing g.row.R.Denot). Few m.limit (length m.history)) c.self.view_is (subst (Few (g.K.Keeper.limit i.keeper)) (sym (length-pasts l i.sets.items i.point here kept)) c.self.invariant.few)

pub returns-clause-sets : goal.returns-clause-sets
returns-clause-sets g c =
    let i = c.self.inside in
    let here = reverse i.here.items in
    subst (λ (m : Standing g.row.R.Denot). AllBelow (m.point + 1) m.sets) c.self.view_is
    (ends_below i.point (length here) i.sets.items (ends_with (now_of i.store) i.point (length i.tape.bytes) i.sets.items here (g.K.Keeper.kept i.keeper) c.self.invariant.chain))

pub returns-clause-made : goal.returns-clause-made
returns-clause-made g c =
    let i = c.self.inside in
    subst (λ (m : Standing g.row.R.Denot). LastMade m.point m.sets m.unset) c.self.view_is
    (last_here (now_of i.store) i.point (length i.tape.bytes) i.sets.items (reverse i.here.items) (g.K.Keeper.kept i.keeper) c.self.invariant.chain)

pub returns-clause-still : goal.returns-clause-still
returns-clause-still g c = λ gone. come_some g.R.Source.may_give gone g.met.R.Source.gives_some
