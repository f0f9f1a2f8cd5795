use Rattle.std.proofs.Common.{◌≡◌, ◌<◌, List, length, drop, slice_get}
use Rattle.std.specs.Prelude.{option_copied}
use Rattle.rawk_value.specs.declared.value.Value.{Value}
use Rattle.rawk_store.specs.Back.{saved_or}
use Rattle.rawk_steps.specs.Leading.{globals_forth}
use Rattle.rawk_machine.proofs.earlier.saved_through.Given as goal

abbrev pub invariant-loop-group : goal.invariant-loop-group
invariant-loop-group l = (xs : List Value) → l.number < length xs →
    (ys : List Value) × (length ys ≡ length xs) × (slice_get ys l.number ≡ saved_or (option_copied l.value) (slice_get xs l.number)) × (globals_forth xs l.groups ≡ globals_forth ys (drop l.group-index l.groups))
