-- What steps changed in activations, locals and operands, the newest first.
use Rattle.std.specs.Prelude.{◌<◌, List, length, Option}
use Rattle.rawk_value.specs.declared.value.Value.{Value}
use Rattle.rawk_slots.specs.StackGroups.{StackGroup, first_if, rest_if}
use Rattle.rawk_slots.specs.Stacked.{Stacked}
use Rattle.rawk_frames.specs.declared.frames.Activation.{Activation}
use Rattle.rawk_frames.specs.declared.frames.FramesGroup.{FramesGroup}
use Rattle.rawk_frames.specs.declared.frames.Local.{Local}
use Rattle.rawk_frames.specs.declared.kept_stacks.HasStacks.{HasStacks}
use Rattle.rawk_frames.specs.declared.kept_stacks.KeptStacks.{KeptStacks}
use Rattle.rawk_frames.specs.LaidFrames.{LaidFrames}

-- what steps changed in each of the three
pub record StackLists : Type 0 where
  pub frames : List (StackGroup Activation)
  pub locals : List (StackGroup Local)
  pub operands : List (StackGroup Value)

abbrev pub lists_of : KeptStacks → StackLists
lists_of kept = record { frames = kept.frames.groups; locals = kept.locals.groups; operands = kept.operands.groups }

-- what the newest step changed, and what the others did
abbrev pub newest_frames : HasStacks → StackLists → FramesGroup
newest_frames has all = record { frames = first_if has.frames all.frames; locals = first_if has.locals all.locals }

abbrev pub newest_operands : HasStacks → StackLists → Option (StackGroup Value)
newest_operands has all = first_if has.operands all.operands

abbrev pub older_stacks : HasStacks → StackLists → StackLists
older_stacks has all = record { frames = rest_if has.frames all.frames; locals = rest_if has.locals all.locals; operands = rest_if has.operands all.operands }

-- there is room for a step of these activations and operands
pub record HasRoomFor (kept : KeptStacks) (l : LaidFrames) (values : Stacked Value) : Type 0 where
  pub frames : length l.frames.slots < kept.frames.room
  pub locals : length l.locals.slots < kept.locals.room
  pub operands : length values.slots < kept.operands.room
