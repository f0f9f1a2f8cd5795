use Rattle.std.proofs.Common.{◌∙◌, ap, take, List, ◌++◌}
use Rattle.rawk_slots.specs.declared.saved.Saved.{Saved}
use Rattle.rawk_slots.proofs.Backs.{added_by}
use Rattle.rawk_slots.proofs.slots.Slots.finish_into.Goals as goal

pub returns-clause-did : goal.returns-clause-did
returns-clause-did g c =
    let i = c.self.inside in
    let moved = c.in_ok-append.ensures.items ∙ ap (λ (xs : List (Saved g.row.T.Denot)). xs ++ i.saved.items) (c.truncate.ensures.items ∙ ap (take c.args.count) c.reserve.ensures.items) in
    rw (← c.self.view_is) (added_by i.items.items i.marks.items i.saved.items (take c.args.count c.args.list.now.items) c.append.new.self.items c.self.invariant moved)
