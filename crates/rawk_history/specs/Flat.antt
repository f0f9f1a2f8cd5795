-- Steps that are kept behind one another, in one list of each kind.
use Rattle.std.specs.Prelude.{◌≡◌, ℕ, ◌≤◌, if◌then◌else◌, List, [], ◌∷◌, ◌++◌, IfSome, drop, length, reverse, take, Option, None, Some}
use Rattle.std.specs.Global.{Vec}
use Rattle.rawk_value.specs.declared.value.Value.{Value}
use Rattle.rawk_slots.specs.declared.saved.Saved.{Saved}
use Rattle.rawk_slots.specs.Back.{AreDistinctFrom, HasDistinctPlaces}
use Rattle.rawk_slots.specs.StackGroups.{StackGroup, first_if, rest_if}
use Rattle.rawk_frames.specs.declared.frames.FramesGroup.{FramesGroup}
use Rattle.rawk_frames.specs.KeptStacks.{StackLists, newest_frames, newest_operands, older_stacks}
use Rattle.rawk_record.specs.Shown.{Shown}
use Rattle.rawk_store.specs.declared.rare_changes.RareChanges.{RareChanges}
use Rattle.rawk_history.specs.declared.full.Mark.{Mark}
use Rattle.rawk_history.specs.declared.full.RareRegisters.{RareRegisters}
use Rattle.rawk_store.specs.declared.registers.Phase.TheVariants.{InBegin}
use Rattle.rawk_store.specs.declared.registers.Registers.{Registers}
use Rattle.rawk_store.specs.Layout.{Layout}
use Rattle.rawk_store.specs.GroupBack.{FitsIn, grown_in, put_back}
use Rattle.rawk_store.specs.Groups.{Group}
use Rattle.rawk_history.specs.Steps.{Kept}

abbrev pub items_of : Option (Vec Group) → List Group
items_of None = []
items_of (Some groups) = groups.items

-- how many old values of globals stand before those of these steps, the newest first, of `live` in all
abbrev pub began_by : List Mark → ℕ → ℕ
began_by [] live = live
began_by (m ∷ ms) live = began_by ms m.globals

-- what few steps change of these registers, with the bytes of output
abbrev pub slow_of : ℕ → Registers → RareRegisters
slow_of output r = record { output = output; phase = r.phase; status = r.status; ending = r.ending }

-- the newest, or that before the first step
abbrev pub newest_slow : List RareRegisters → RareRegisters
newest_slow [] = record { output = 0; phase = InBegin; status = 0; ending = None }
newest_slow (s ∷ ss) = s

-- the registers at the beginning of a step
abbrev pub registers_by : Mark → RareRegisters → Registers
registers_by m s = record { place = m.place; phase = s.phase; status = s.status; here = m.here; site = if m.has_site then Some m.site else None; consumed = m.consumed; ending = s.ending }

-- a step whose old globals stand in a list from a number on
abbrev pub step_by : ℕ → ℕ → Registers → List (Saved Value) → FramesGroup → Option (StackGroup Value) → Option RareChanges → Option Shown → Group
step_by began output registers globals frames operands others current = record { globals = drop began globals; frames = frames; operands = operands; others = others; current = current; output = output; registers = registers }

abbrev pub step_of : Mark → RareRegisters → List (Saved Value) → FramesGroup → Option (StackGroup Value) → Option RareChanges → Option Shown → Group
step_of m s globals frames operands others current = step_by m.globals s.output (registers_by m s) globals frames operands others current

-- what a step changed: its old globals stand behind a list, no place twice
pub record EndsBehind (frames : FramesGroup) (operands : Option (StackGroup Value)) (others : Option RareChanges) (current : Option Shown) (output : ℕ) (registers : Registers) (start now : Layout) (list longer : List (Saved Value)) : Type 0 where
  pub entries : List (Saved Value)
  pub is : longer ≡ list ++ entries
  pub distinct : HasDistinctPlaces entries
  pub back : put_back now (record { globals = entries; frames = frames; operands = operands; others = others; current = current; output = output; registers = registers }) ≡ start
  pub fits : FitsIn (record { globals = entries; frames = frames; operands = operands; others = others; current = current; output = output; registers = registers }) now
  pub alone : IfSome (grown_in others) (λ a. entries ≡ [])

-- the steps of these marks, the newest first: the globals of a step stand in their list, the oldest first, from the number in its mark on; in each other list, the newest first, stands what the newest step has there
abbrev pub kept_of : List Mark → List RareRegisters → List (Saved Value) → StackLists → List RareChanges → List Shown → List (Vec Group) → List Kept
kept_of [] slows globals stacks others records sets = []
kept_of (m ∷ ms) slows globals stacks others records sets =
    record {
      step = step_of m (newest_slow slows) globals (newest_frames m.stacks stacks) (newest_operands m.stacks stacks) (first_if m.has_others others) (first_if m.has_record records);
      sets = items_of (first_if m.has_sets sets);
    }
    ∷ kept_of ms (rest_if m.has_state slows) (take m.globals globals) (older_stacks m.stacks stacks) (rest_if m.has_others others) (rest_if m.has_record records) (rest_if m.has_sets sets)

-- the globals of each step begin within the list, and no place stands twice among them; nothing stands before the oldest step
abbrev pub AreMarked : List Mark → List (Saved Value) → List RareChanges → List Shown → List (Vec Group) → Type 0
AreMarked [] globals others records sets = (globals ≡ []) × (others ≡ []) × (records ≡ []) × (sets ≡ [])
AreMarked (m ∷ ms) globals others records sets =
    (m.globals ≤ length globals)
    × AreDistinctFrom m.globals globals
    × AreMarked ms (take m.globals globals) (rest_if m.has_others others) (rest_if m.has_record records) (rest_if m.has_sets sets)

-- the same of lists whose newest are the last; `live` of the globals are of steps that are kept
pub record IsFull (marks : List Mark) (globals : List (Saved Value)) (live : ℕ) (others : List RareChanges) (records : List Shown) (sets : List (Vec Group)) : Type 0 where
  pub within : live ≤ length globals
  pub marked : AreMarked (reverse marks) (take live globals) (reverse others) (reverse records) (reverse sets)
