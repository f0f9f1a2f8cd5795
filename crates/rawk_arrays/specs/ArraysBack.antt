-- What a step changed in arrays, and the way back.
use Rattle.std.specs.Prelude.{length}
use Rattle.rawk_slots.specs.Back.{back, AreBelow}
use Rattle.rawk_arrays.specs.declared.arrays.ArraysGroup.{ArraysGroup}
use Rattle.rawk_arrays.specs.Laid.{Laid}

-- the arrays with each saved slot put back
abbrev pub arrays_back : Laid → ArraysGroup → Laid
arrays_back l group = record { index = l.index; slots = back l.slots group.slots.entries.items; live = group.live }

-- each place of the group is a slot of the arrays
abbrev pub FitsArrays : ArraysGroup → Laid → Type 0
FitsArrays group l = AreBelow (length l.slots) group.slots.entries.items
