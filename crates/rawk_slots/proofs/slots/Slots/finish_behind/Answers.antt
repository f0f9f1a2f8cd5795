use Rattle.std.proofs.Common.{ap, arith, length, refl}
use Rattle.rawk_slots.proofs.Backs.{added_by, saved-le}
use Rattle.rawk_slots.proofs.slots.Slots.finish_behind.Goals as goal

pub returns-clause-did : goal.returns-clause-did
returns-clause-did g c =
    let i = c.self.inside in
    let few = saved-le i.items.items i.marks.items i.saved.items c.self.invariant in
    let fits = c.append-moved.ensures.succeeds (omega (arith, few, ap (λ w. length w.now) c.self.view_is, c.requires, i.saved.ok.0)) in
    let moved = rw fits at c.append-moved.ensures.items in
    rw (← c.self.view_is) (added_by i.items.items i.marks.items i.saved.items c.args.list.now.items c.append-moved.new.self.items c.self.invariant moved)

pub returns-clause-now : goal.returns-clause-now
returns-clause-now g c =
    let i = c.self.inside in
    let few = saved-le i.items.items i.marks.items i.saved.items c.self.invariant in
    let fits = c.append-moved.ensures.succeeds (omega (arith, few, ap (λ w. length w.now) c.self.view_is, c.requires, i.saved.ok.0)) in
    let emptied = rw fits at c.append-moved.ensures.other_items in
    rw (← c.self.view_is, emptied) refl
