-- What slots end as, where a `&mut` to one of them is lent.
use Rattle.std.specs.Prelude.{ℕ, List, slice_set}
use Rattle.std.specs.Borrow.{Lends, Fml, RattleType, MutBor}
use Rattle.rawk_slots.specs.Journaled.{Journaled, at_rest}
use Rattle.rawk_slots.specs.contracts.slots.Slots.{the_row}

-- once the borrow r ends, the slot has the last value written through r, and the step has changed nothing
abbrev pub lends_slot : (T : RattleType) → MutBor (Journaled (List T.Denot)) → ℕ → MutBor T.Denot → Fml
lends_slot T s place r = Lends (the_row T) T s r (λ w. at_rest (slice_set s.now.now place w))
