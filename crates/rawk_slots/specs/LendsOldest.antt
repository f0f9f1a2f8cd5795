-- What a stack ends as, where a `&mut` to one of its values is lent.
use Rattle.std.specs.Prelude.{ℕ, slice_set}
use Rattle.std.specs.Borrow.{Lends, Fml, RattleType, MutBor}
use Rattle.rawk_slots.specs.Journaled.{Journaled}
use Rattle.rawk_slots.specs.Stacked.{Stacked}
use Rattle.rawk_slots.specs.contracts.stack.Stack.{the_row}

-- the value at a number from the oldest is another one, and so it was when the step began
abbrev pub with_oldest : {T : Type 0} → Journaled (Stacked T) → ℕ → T → Journaled (Stacked T)
with_oldest s number v = record {
  now = record { slots = slice_set s.now.slots number v; live = s.now.live };
  start = record { slots = slice_set s.now.slots number v; live = s.start.live };
}

-- once the borrow r ends, that value is the last one written through r
abbrev pub lends_oldest : (T : RattleType) → MutBor (Journaled (Stacked T.Denot)) → ℕ → MutBor T.Denot → Fml
lends_oldest T s number r = Lends (the_row T) T s r (with_oldest s.now number)
