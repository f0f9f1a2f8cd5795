-- What a step changed, and the way back.
use Rattle.std.specs.Prelude.{◌≡◌, ◌≤◌, Bool, List, length, take, Option, None, Some}
use Rattle.std.specs.Global.{Box}
use Rattle.rawk_value.specs.declared.value.Value.{Value}
use Rattle.rawk_slots.specs.declared.saved.Saved.{Saved}
use Rattle.rawk_cells.specs.declared.cells.Appended.{Appended}
use Rattle.rawk_cells.specs.Cells.{FitsAppended, with_again, without}
use Rattle.rawk_store.specs.declared.rare_changes.FewGroup.{FewGroup}
use Rattle.rawk_store.specs.declared.rare_changes.RareChanges.{RareChanges}
use Rattle.rawk_store.specs.declared.rare_changes.RareGroup.{RareGroup}
use Rattle.rawk_store.specs.declared.store.Store.{Store}
use Rattle.rawk_store.specs.Groups.{Group}
use Rattle.rawk_slots.specs.Back.{back, AreBelow}
use Rattle.rawk_slots.specs.StackBack.{FitsStackIf, stack_in}
use Rattle.rawk_arrays.specs.Laid.{Laid}
use Rattle.rawk_frames.specs.LaidKeys.{LaidKeys}
use Rattle.rawk_arrays.specs.ArraysBack.{FitsArrays, arrays_back}
use Rattle.rawk_frames.specs.FramesBack.{FitsFrames, frames_back}
use Rattle.rawk_frames.specs.KeysBack.{FitsKeys, keys_back}
use Rattle.rawk_record.specs.Shown.{record_back}
use Rattle.rawk_store.specs.Layout.{Layout}

-- what came behind a text that grew
abbrev pub grown_in : Option RareChanges → Option (Box Appended)
grown_in None = None
grown_in (Some o) = o.grown

-- the globals without it
abbrev pub globals_in : List Value → Option RareChanges → List Value
globals_in xs o = without (grown_in o) xs

-- the globals with newer values put in, and with it
abbrev pub globals_on : List Value → List (Saved Value) → Option RareChanges → List Value
globals_on xs newer o = with_again (grown_in o) (back xs newer)

-- parts that few steps change, with what was saved of them put back: a part that was not changed stays
abbrev pub few_arrays : Laid → Option (Box FewGroup) → Laid
few_arrays l None = l
few_arrays l (Some f) = arrays_back l f.value.arrays

abbrev pub arrays_in : Laid → Option RareChanges → Laid
arrays_in l None = l
arrays_in l (Some o) = few_arrays l o.few

abbrev pub rare_keys : LaidKeys → Option (Box RareGroup) → LaidKeys
rare_keys l None = l
rare_keys l (Some r) = keys_back l r.value.keys

abbrev pub rare_ranges : List Bool → Option (Box RareGroup) → List Bool
rare_ranges l None = l
rare_ranges l (Some r) = back l r.value.ranges.entries.items

abbrev pub few_keys : LaidKeys → Option (Box FewGroup) → LaidKeys
few_keys l None = l
few_keys l (Some f) = rare_keys l f.value.rare

abbrev pub few_ranges : List Bool → Option (Box FewGroup) → List Bool
few_ranges l None = l
few_ranges l (Some f) = rare_ranges l f.value.rare

abbrev pub keys_in : LaidKeys → Option RareChanges → LaidKeys
keys_in l None = l
keys_in l (Some o) = few_keys l o.few

abbrev pub ranges_in : List Bool → Option RareChanges → List Bool
ranges_in l None = l
ranges_in l (Some o) = few_ranges l o.few

-- the layout with what the group saved put back
abbrev pub put_back : Layout → Group → Layout
put_back l group = record {
  globals = back (globals_in l.globals group.others) group.globals;
  arrays = arrays_in l.arrays group.others;
  frames = frames_back l.frames group.frames;
  keys = keys_in l.keys group.others;
  ranges = ranges_in l.ranges group.others;
  operands = stack_in l.operands group.operands;
  current = record_back l.current group.current;
  output = take group.output l.output;
  registers = group.registers;
}

-- each place that was saved of arrays is one of theirs
abbrev pub FewArraysFit : Option (Box FewGroup) → Laid → Type 0
FewArraysFit None l = Unit {0}
FewArraysFit (Some f) l = FitsArrays f.value.arrays l

abbrev pub ArraysFit : Option RareChanges → Laid → Type 0
ArraysFit None l = Unit {0}
ArraysFit (Some o) l = FewArraysFit o.few l

-- each place of the rarest parts is one of the layout
abbrev pub RareFit : Option (Box RareGroup) → Layout → Type 0
RareFit None l = Unit {0}
RareFit (Some r) l = FitsKeys r.value.keys l.keys × AreBelow (length l.ranges) r.value.ranges.entries.items

-- each place of the parts that fewer steps change is one of the layout
abbrev pub FewFit : Option (Box FewGroup) → Layout → Type 0
FewFit None l = Unit {0}
FewFit (Some f) l = FitsArrays f.value.arrays l.arrays × RareFit f.value.rare l

-- each place of these parts is one of the layout
pub record RareChangesFit (o : RareChanges) (l : Layout) : Type 0 where
  pub grown : FitsAppended o.grown l.globals
  pub few : FewFit o.few l

abbrev pub FitsRareChanges : Option RareChanges → Layout → Type 0
FitsRareChanges None l = Unit {0}
FitsRareChanges (Some o) l = RareChangesFit o l

-- the layout with these parts put back
abbrev pub others_put : Layout → Option RareChanges → Layout
others_put l o = record {
  globals = globals_in l.globals o;
  arrays = arrays_in l.arrays o;
  frames = l.frames;
  keys = keys_in l.keys o;
  ranges = ranges_in l.ranges o;
  operands = l.operands;
  current = l.current;
  output = l.output;
  registers = l.registers;
}

-- what was saved of these parts leads from the one layout back to the other
pub record RareChangesLead (o : Option RareChanges) (now start : Layout) : Type 0 where
  pub arrays : arrays_in now.arrays o ≡ start.arrays
  pub keys : keys_in now.keys o ≡ start.keys
  pub ranges : ranges_in now.ranges o ≡ start.ranges

-- what was saved of the rarest parts leads back to how they stood when the step began
pub record RareLeads (r : Option (Box RareGroup)) (s : Store) : Type 0 where
  pub keys : rare_keys s.keys.now r ≡ s.keys.start
  pub ranges : rare_ranges s.ranges.now r ≡ s.ranges.start

-- what was saved of the parts that fewer steps change leads back to how they stood when the step began
pub record FewLead (f : Option (Box FewGroup)) (s : Store) : Type 0 where
  pub arrays : few_arrays s.arrays.now f ≡ s.arrays.start
  pub keys : few_keys s.keys.now f ≡ s.keys.start
  pub ranges : few_ranges s.ranges.now f ≡ s.ranges.start

-- there is room for what the step changed in the rarest parts, or it changed nothing there
pub record HasRoom (room : Option (Box RareGroup)) (s : Store) : Type 0 where
  pub keys : room ≡ None → s.keys.start ≡ s.keys.now
  pub ranges : room ≡ None → s.ranges.start ≡ s.ranges.now

-- the same of the parts that fewer steps change
abbrev pub rare_in : Option (Box FewGroup) → Option (Box RareGroup)
rare_in None = None
rare_in (Some f) = f.value.rare

pub record HasFewRoom (room : Option (Box FewGroup)) (s : Store) : Type 0 where
  pub arrays : room ≡ None → s.arrays.start ≡ s.arrays.now
  pub rare : HasRoom (rare_in room) s

-- each place of the group is one of the layout
pub record FitsIn (group : Group) (l : Layout) : Type 0 where
  pub globals : AreBelow (length (globals_in l.globals group.others)) group.globals
  pub frames : FitsFrames group.frames l.frames
  pub operands : FitsStackIf group.operands l.operands
  pub others : FitsRareChanges group.others l
  pub output : group.output ≤ length l.output
