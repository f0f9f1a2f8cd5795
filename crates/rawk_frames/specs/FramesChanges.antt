-- What each change makes of the activations, and of the keys that are left.
use Rattle.std.specs.Prelude.{List, [], ◌∷◌, drop}
use Rattle.rawk_value.specs.Values.{Bytes}
use Rattle.rawk_frames.specs.declared.frames.FramesChange.{FramesChange}
use Rattle.rawk_frames.specs.declared.frames.FramesChange.TheVariants as frames
use Rattle.rawk_frames.specs.declared.keys_left.KeysChange.{KeysChange}
use Rattle.rawk_frames.specs.declared.keys_left.KeysChange.TheVariants as keys
use Rattle.rawk_frames.specs.Frame.{Frame, new_frame, with_local, with_more}
use Rattle.rawk_frames.specs.LaidKeys.{without_first}

-- the activations after a change, the newest first
abbrev pub changed_frames : FramesChange → List Frame → List Frame
changed_frames (frames.Enter function arrays_before called_at site return_to) all = new_frame function arrays_before called_at site ∷ all
changed_frames (frames.AddLocal local) all = with_more local all
changed_frames (frames.SetLocal number local) all = with_local number local all
changed_frames frames.Leave all = drop 1 all
changed_frames frames.LeaveAll all = []

-- the keys that are left after a change, the innermost loop first
abbrev pub changed_keys : KeysChange → List (List Bytes) → List (List Bytes)
changed_keys (keys.Begin list) all = list.items ∷ all
changed_keys keys.Advance all = without_first all
changed_keys (keys.End count) all = drop count all
changed_keys keys.Clear all = []
