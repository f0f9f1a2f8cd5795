-- What a step changed in the keys that are left, and the way back.
use Rattle.rawk_slots.specs.StackBack.{FitsStack, stack_back}
use Rattle.rawk_frames.specs.declared.keys_left.KeysLeftGroup.{KeysLeftGroup}
use Rattle.rawk_frames.specs.LaidKeys.{LaidKeys}

abbrev pub keys_back : LaidKeys → KeysLeftGroup → LaidKeys
keys_back l group = record { lists = stack_back l.lists group.lists; visited = stack_back l.visited group.visited }

-- the group is one of these stacks
pub record FitsKeys (group : KeysLeftGroup) (l : LaidKeys) : Type 0 where
  pub lists : FitsStack group.lists l.lists
  pub visited : FitsStack group.visited l.visited
