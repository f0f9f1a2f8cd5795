use Rattle.std.proofs.Common.{◌∙◌, ap, sym, subst, length, List}
use Rattle.rawk_slots.proofs.Backs.{AreBelow-places, IsJournal-none}
use Rattle.rawk_slots.specs.Back.{AreBelow}
use Rattle.rawk_slots.specs.Journaled.{Journaled}
use Rattle.rawk_slots.specs.BackLaws.{length-back}
use Rattle.rawk_slots.proofs.slots.Slots.undo.Goals as goal

pub invariant_of-self : goal.invariant_of-self
invariant_of-self g c =
    rw c.clear.ensures.items
    (IsJournal-none _ _ (c.self.invariant.marked ∙ (sym (length-back c.self.inside.items.items c.args.group.now.entries.items) ∙ sym (ap length c.swap_back.ensures.items))))

pub returns-clause-below : goal.returns-clause-below
returns-clause-below g c =
    let inside = c.self.inside in
    let es = c.args.group.now.entries.items in
    let old : AreBelow (length inside.items.items) es = subst (λ (j : Journaled (List g.row.T.Denot)). AreBelow (length j.now) es) (sym c.self.view_is) c.requires in
    rw (ap length c.swap_back.ensures.items ∙ length-back inside.items.items es) (AreBelow-places (length inside.items.items) es c.swap_back.new.saved.items c.swap_back.ensures.places old)
