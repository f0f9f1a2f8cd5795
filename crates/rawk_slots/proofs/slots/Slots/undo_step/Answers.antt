use Rattle.std.proofs.Common.{◌∙◌, ap, sym, length}
use Rattle.rawk_slots.proofs.Backs.{IsJournal-none, distinct_places}
use Rattle.rawk_slots.specs.BackLaws.{length-back}
use Rattle.rawk_slots.proofs.slots.Slots.undo_step.Goals as goal

pub invariant_of-self : goal.invariant_of-self
invariant_of-self g c =
    rw c.clear.ensures.items
    (IsJournal-none _ _ (c.self.invariant.marked ∙ (sym (length-back c.self.inside.items.items c.self.inside.saved.items) ∙ sym (ap length c.swap_back.ensures.items))))

pub swap_back-requires-clause-distinct : goal.swap_back-requires-clause-distinct
swap_back-requires-clause-distinct g c = distinct_places c.self.inside.items.items c.self.inside.marks.items c.self.inside.saved.items c.self.invariant
