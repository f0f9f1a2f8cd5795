-- The slot of an element, by its number.
use Rattle.std.specs.Prelude.{◌≡◌, ◌≢◌, ℕ, ◌<◌, length, slice_get, Option, None, Some}
use Rattle.rawk_value.specs.Values.{Bytes}
use Rattle.rawk_value.specs.declared.value.Value.{Value}
use Rattle.rawk_keys.specs.ArrayKey.{array_key}
use Rattle.rawk_arrays.specs.Laid.{Laid}

-- the slot of this number is that of the key in an array of this number; without one, no slot is
abbrev pub IsSlotOf : ℕ → Bytes → Laid → Option ℕ → Type 0
IsSlotOf a key l None = (i : ℕ) → i < length l.slots → slice_get l.index i ≢ Some (array_key a key)
IsSlotOf a key l (Some i) = (i < length l.slots) × (slice_get l.index i ≡ Some (array_key a key))

-- what a slot holds, where there is one
abbrev pub held_in : Option (Option Value) → Option Value
held_in None = None
held_in (Some slot) = slot
