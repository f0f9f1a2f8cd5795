-- What a step or a set changed, as contracts see it.
use Rattle.std.specs.Prelude.{ℕ, List, Option}
use Rattle.rawk_value.specs.declared.value.Value.{Value}
use Rattle.rawk_slots.specs.declared.saved.Saved.{Saved}
use Rattle.rawk_slots.specs.StackGroups.{StackGroup}
use Rattle.rawk_frames.specs.declared.frames.FramesGroup.{FramesGroup}
use Rattle.rawk_record.specs.Shown.{Shown}
use Rattle.rawk_store.specs.declared.registers.Registers.{Registers}
use Rattle.rawk_store.specs.declared.rare_changes.RareChanges.{RareChanges}

-- the old values of globals, each with its place; what was changed of activations and of operands, if anything was; what was changed of the parts that few steps change, if anything was; the record before, if it is another one; how many
-- bytes of output there were; the registers
pub record Group : Type 0 where
  pub globals : List (Saved Value)
  pub frames : FramesGroup
  pub operands : Option (StackGroup Value)
  pub others : Option RareChanges
  pub current : Option Shown
  pub output : ℕ
  pub registers : Registers
