-- The parts of a store, as one layout.
use Rattle.std.specs.Prelude.{◌≡◌, []}
use Rattle.rawk_store.specs.declared.store.Store.{Store}
use Rattle.rawk_store.specs.declared.registers.Registers.{Registers}
use Rattle.rawk_slots.specs.Stacked.{empty_stack}
use Rattle.rawk_arrays.specs.Laid.{no_arrays}
use Rattle.rawk_frames.specs.LaidFrames.{AreNested, no_frames}
use Rattle.rawk_frames.specs.LaidKeys.{no_keys}
use Rattle.rawk_record.specs.Shown.{no_record}
use Rattle.rawk_store.specs.Layout.{Layout}

-- the parts as they are
abbrev pub now_of : Store → Layout
now_of s = record {
  globals = s.globals.now;
  arrays = s.arrays.now;
  frames = s.frames.now;
  keys = s.keys.now;
  ranges = s.ranges.now;
  operands = s.operands.now;
  current = s.current.now;
  output = s.output.now;
  registers = s.registers.now;
}

-- the parts as they were when the step began
abbrev pub start_of : Store → Layout
start_of s = record {
  globals = s.globals.start;
  arrays = s.arrays.start;
  frames = s.frames.start;
  keys = s.keys.start;
  ranges = s.ranges.start;
  operands = s.operands.start;
  current = s.current.start;
  output = s.output.start;
  registers = s.registers.start;
}

-- the parts that few steps change have begun anew, and the others as before
abbrev pub few_rested : Layout → Layout → Layout
few_rested now start = record {
  globals = start.globals;
  arrays = now.arrays;
  frames = start.frames;
  keys = now.keys;
  ranges = now.ranges;
  operands = start.operands;
  current = start.current;
  output = start.output;
  registers = start.registers;
}

-- the globals too
abbrev pub globals_rested : Layout → Layout → Layout
globals_rested now start = record (few_rested now start) { globals = now.globals }

-- nothing stands there but the registers
abbrev pub empty_layout : Registers → Layout
empty_layout registers = record { globals = []; arrays = no_arrays; frames = no_frames; keys = no_keys; ranges = []; operands = empty_stack; current = no_record; output = []; registers = registers }

-- a new store, with no step in progress
pub record IsNew (registers : Registers) (s : Store) : Type 0 where
  pub now : now_of s ≡ empty_layout registers
  pub start : start_of s ≡ empty_layout registers

-- the activations were nested when the step began
abbrev pub BeganNested : Store → Type 0
BeganNested s = AreNested s.frames.start
