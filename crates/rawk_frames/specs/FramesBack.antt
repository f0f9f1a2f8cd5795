-- What a step changed in the activations, and the way back.
use Rattle.rawk_slots.specs.StackBack.{FitsStackIf, stack_in}
use Rattle.rawk_frames.specs.declared.frames.FramesGroup.{FramesGroup}
use Rattle.rawk_frames.specs.LaidFrames.{LaidFrames, AreNested}

abbrev pub frames_back : LaidFrames → FramesGroup → LaidFrames
frames_back l group = record { frames = stack_in l.frames group.frames; locals = stack_in l.locals group.locals }

-- the group is one of these stacks, in which it may have changed nothing, and leads back to nested activations
pub record FitsFrames (group : FramesGroup) (l : LaidFrames) : Type 0 where
  pub frames : FitsStackIf group.frames l.frames
  pub locals : FitsStackIf group.locals l.locals
  pub nested : AreNested (frames_back l group)
