use Rattle.rawk_slots.proofs.Backs.{distinct_places}
use Rattle.rawk_slots.proofs.slots.Slots.finish.Goals as goal

pub invariant_of-result : goal.invariant_of-result
invariant_of-result g c = record { distinct = rw c.replace.ensures.value (distinct_places _ _ _ c.self.invariant) }
