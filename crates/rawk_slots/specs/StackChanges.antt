-- What each change makes of the values of a stack.
use Rattle.std.specs.Prelude.{List, [], ◌∷◌, drop, reverse, slice_set, take}
use Rattle.rawk_slots.specs.declared.stack.StackChange.{StackChange}
use Rattle.rawk_slots.specs.declared.stack.StackChange.TheVariants.{Push, SetNewest, SetOldest, DropNewest, KeepOldest, Clear}

-- the values after a change, the newest first
abbrev pub changed_values : {T : Type 0} → StackChange T → List T → List T
changed_values (Push value) values = value ∷ values
changed_values (SetNewest value) values = slice_set values 0 value
changed_values (SetOldest number value) values = reverse (slice_set (reverse values) number value)
changed_values (DropNewest count) values = drop count values
changed_values (KeepOldest count) values = reverse (take count (reverse values))
changed_values Clear values = []
