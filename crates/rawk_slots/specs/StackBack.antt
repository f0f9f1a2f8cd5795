-- What a step changed in a stack, and the way back.
use Rattle.std.specs.Prelude.{◌≤◌, length, Option, None, Some}
use Rattle.rawk_slots.specs.Back.{back, AreBelow}
use Rattle.rawk_slots.specs.StackGroups.{StackGroup}
use Rattle.rawk_slots.specs.Stacked.{Stacked, IsLive}

-- the stack with each saved value put back
abbrev pub stack_back : {T : Type 0} → Stacked T → StackGroup T → Stacked T
stack_back s group = record { slots = back s.slots group.entries; live = group.live }

-- each place of the group is a slot of the stack
pub record FitsStack {T : Type 0} (group : StackGroup T) (s : Stacked T) : Type 0 where
  pub places : AreBelow (length s.slots) group.entries
  pub live : group.live ≤ length s.slots

-- the same of what a step changed, if it changed anything
abbrev pub stack_in : {T : Type 0} → Stacked T → Option (StackGroup T) → Stacked T
stack_in s None = s
stack_in s (Some group) = stack_back s group

abbrev pub FitsStackIf : {T : Type 0} → Option (StackGroup T) → Stacked T → Type 0
FitsStackIf None s = IsLive s
FitsStackIf (Some group) s = FitsStack group s
