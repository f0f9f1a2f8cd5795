use Rattle.std.proofs.Common.{◌∙◌, ap, sym, length, drop}
use Rattle.rawk_slots.proofs.Backs.{IsJournal-none}
use Rattle.rawk_slots.specs.BackLaws.{length-back}
use Rattle.rawk_slots.proofs.slots.Slots.undo_from.Goals as goal

pub invariant_of-self : goal.invariant_of-self
invariant_of-self g c =
    rw c.clear.ensures.items
    (IsJournal-none _ _ (c.self.invariant.marked ∙ (sym (length-back c.self.inside.items.items (drop c.args.began c.args.list.now.items)) ∙ sym (ap length c.swap_back.ensures.items))))
