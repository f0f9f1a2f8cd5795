-- What a stack ends as, where a `&mut` to the slot behind its live values is lent.
use Rattle.std.specs.Prelude.{◌+◌, slice_set}
use Rattle.std.specs.Borrow.{Lends, Fml, RattleType, MutBor}
use Rattle.rawk_slots.specs.Journaled.{Journaled}
use Rattle.rawk_slots.specs.Stacked.{Stacked}
use Rattle.rawk_slots.specs.contracts.stack.Stack.{the_row}

-- another value is in that slot, where it is the newest one, and it was in the slot when the step began
abbrev pub with_next : {T : Type 0} → Journaled (Stacked T) → T → Journaled (Stacked T)
with_next s v = record {
  now = record { slots = slice_set s.now.slots s.now.live v; live = s.now.live + 1 };
  start = record { slots = slice_set s.now.slots s.now.live v; live = s.start.live };
}

-- once the borrow r ends, that value is the last one written through r
abbrev pub lends_next : (T : RattleType) → MutBor (Journaled (Stacked T.Denot)) → MutBor T.Denot → Fml
lends_next T s r = Lends (the_row T) T s r (with_next s.now)
