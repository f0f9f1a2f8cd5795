-- What steps changed, with their sets, as contracts see it.
use Rattle.std.specs.Prelude.{List, Option}
use Rattle.rawk_value.specs.declared.value.Value.{Value}
use Rattle.rawk_slots.specs.declared.saved.Saved.{Saved}
use Rattle.rawk_record.specs.Shown.{Shown}
use Rattle.rawk_store.specs.declared.rare_changes.RareChanges.{RareChanges}
use Rattle.rawk_store.specs.Groups.{Group}

-- what a step changed, and what each set changed that was made at the point that the step left, in their order
pub record Kept : Type 0 where
  pub step : Group
  pub sets : List Group

-- what leads forward again over a step that was put back: the newer globals, what is newer of the parts that few steps change, the newer record, and the groups of the sets that stood behind the step, the oldest first
pub record Forth : Type 0 where
  pub globals : List (Saved Value)
  pub others : Option RareChanges
  pub current : Option Shown
  pub sets : List Group
