use Rattle.std.proofs.Common.{◌≡◌, ◌<◌, length, drop, slice_get}
use Rattle.std.specs.Prelude.{option_copied}
use Rattle.rawk_arrays.specs.Laid.{Laid}
use Rattle.rawk_steps.specs.Leading.{arrays_forth}
use Rattle.rawk_machine.proofs.earlier.slot_through.Given as goal

abbrev pub invariant-loop-group : goal.invariant-loop-group
invariant-loop-group l = (x : Laid) → l.number < length x.slots → slice_get x.slots l.number ≡ option_copied l.now.slot → x.live ≡ l.now.live →
    (y : Laid) × (length y.slots ≡ length x.slots) × (slice_get y.slots l.number ≡ option_copied l.at.slot) × (y.live ≡ l.at.live) × (arrays_forth x l.groups ≡ arrays_forth y (drop l.group-index l.groups))
