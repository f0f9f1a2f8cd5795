-- How a state lies in its parts.
use Rattle.std.specs.Prelude.{◌≡◌, Bool, List}
use Rattle.rawk_value.specs.Values.{Bytes}
use Rattle.rawk_value.specs.declared.value.Value.{Value}
use Rattle.rawk_store.specs.State.{State}
use Rattle.rawk_slots.specs.Stacked.{Stacked, GrownStack, IsLive, live_values}
use Rattle.rawk_arrays.specs.Laid.{Laid, GrownArrays, IsLaid, arrays_of}
use Rattle.rawk_frames.specs.LaidFrames.{LaidFrames, AreFramesLive, AreNested, GrownFrames, frames_of}
use Rattle.rawk_frames.specs.LaidKeys.{LaidKeys, AreKeysLive, GrownKeys, keys_of}
use Rattle.rawk_record.specs.Shown.{Shown}
use Rattle.rawk_store.specs.declared.registers.Registers.{Registers}

-- the globals, the arrays, the activations, the keys that loops still visit, the flags of ranges, the operand stack, the record, the output not given yet, and the registers
pub record Layout : Type 0 where
  pub globals : List Value
  pub arrays : Laid
  pub frames : LaidFrames
  pub keys : LaidKeys
  pub ranges : List Bool
  pub operands : Stacked Value
  pub current : Shown
  pub output : Bytes
  pub registers : Registers

-- the state that lies there: its output is the part not given yet, and its consumed bytes are counted from the first one kept
abbrev pub state : Layout → State
state l = record {
  globals = l.globals;
  arrays = arrays_of l.arrays;
  frames = frames_of l.frames;
  ranges = l.ranges;
  whole = l.current.text;
  fields = l.current.fields;
  consumed = l.registers.consumed;
  output = l.output;
  status = l.registers.status;
  here = l.registers.here;
  site = l.registers.site;
}

-- the operands, the newest first
abbrev pub operands : Layout → List Value
operands l = live_values l.operands

-- for each loop the keys that it still visits, the innermost loop first
abbrev pub keys : Layout → List (List Bytes)
keys l = keys_of l.keys

-- the parts lie as their types keep them
pub record IsSound (l : Layout) : Type 0 where
  pub arrays : IsLaid l.arrays.index l.arrays.slots
  pub frames : AreFramesLive l.frames
  pub nested : AreNested l.frames
  pub keys : AreKeysLive l.keys
  pub operands : IsLive l.operands

-- slots were added that no program sees, and nothing else was done
pub record Grown (l m : Layout) : Type 0 where
  pub globals : m.globals ≡ l.globals
  pub arrays : GrownArrays l.arrays m.arrays
  pub frames : GrownFrames l.frames m.frames
  pub keys : GrownKeys l.keys m.keys
  pub ranges : m.ranges ≡ l.ranges
  pub operands : GrownStack l.operands m.operands
  pub current : m.current ≡ l.current
  pub output : m.output ≡ l.output
  pub registers : m.registers ≡ l.registers
