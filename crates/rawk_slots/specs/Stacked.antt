-- Values on a stack that lies in slots.
use Rattle.std.specs.Prelude.{◌≡◌, ℕ, ◌≤◌, List, [], ◌++◌, length, reverse, take}
use Rattle.rawk_slots.specs.Journaled.{Journaled}

-- slots, and how many of them are live
pub record Stacked (T : Type 0) : Type 0 where
  pub slots : List T
  pub live : ℕ

abbrev pub empty_stack : {T : Type 0} → Stacked T
empty_stack = record { slots = []; live = 0 }

-- the live values, the oldest first
abbrev pub live_slots : {T : Type 0} → Stacked T → List T
live_slots s = take s.live s.slots

-- the live values, the newest first
abbrev pub live_values : {T : Type 0} → Stacked T → List T
live_values s = reverse (take s.live s.slots)

-- the live length is within the slots
abbrev pub IsLive : {T : Type 0} → Stacked T → Type 0
IsLive s = s.live ≤ length s.slots

-- the live lengths are within the slots, now and when the step began
pub record AreLive {T : Type 0} (slots : Journaled (List T)) (live began : ℕ) : Type 0 where
  pub now : live ≤ length slots.now
  pub start : began ≤ length slots.start

abbrev pub with_slots : {T : Type 0} → Stacked T → List T → Stacked T
with_slots s more = record s { slots = s.slots ++ more }

-- slots were added beyond the live ones, and nothing else was done
pub record GrownStack {T : Type 0} (s t : Stacked T) : Type 0 where
  pub more : List T
  pub is : t ≡ with_slots s more

-- slots were added beyond the live ones, and the live values are the same
pub record IsSameStack {T : Type 0} (s t : Stacked T) : Type 0 where
  pub grown : GrownStack s t
  pub same : live_values t ≡ live_values s
