-- A place that was written.
use Rattle.std.specs.Prelude.{◌≡◌, ◌∷◌, ◌++◌, [], List, Option, None, Some}
use Rattle.rawk_value.specs.declared.fault.Fault.{Fault}
use Rattle.rawk_value.specs.declared.value.Value.{Value}
use Rattle.rawk_frames.specs.LaidFrames.{returns_of}
use Rattle.rawk_store.specs.State.{Target, assigned}
use Rattle.rawk_store.specs.Groups.{Group}
use Rattle.rawk_store.specs.GroupBack.{FitsIn, put_back}
use Rattle.rawk_store.specs.Layout.{Layout, Grown, state}
use Rattle.rawk_code.specs.Actions.{or_same}

-- the state is the one after the assignment, and what stands beside the state is as before
pub record IsWritten (target : Target) (value : Value) (old new : Layout) : Type 0 where
  pub state : state new ≡ or_same (state old) (assigned target value (state old))
  pub returns : returns_of new.frames ≡ returns_of old.frames
  pub keys : new.keys ≡ old.keys
  pub operands : new.operands ≡ old.operands
  pub registers : new.registers ≡ old.registers

-- without a fault the place was written, and with one all is as before
abbrev pub WrittenOr : Option Fault → Target → Value → Layout → Layout → Type 0
WrittenOr None target value old new = IsWritten target value old new
WrittenOr (Some fault) target value old new = new ≡ old

-- without a fault a group that leads back, but for slots that no program sees, stands behind the others
abbrev pub StandsBehind : Option Fault → List Group → List Group → Layout → Layout → Type 0
StandsBehind None here all old new = (g : Group) × (all ≡ here ++ g ∷ []) × Grown old (put_back new g) × FitsIn g new
StandsBehind (Some fault) here all old new = all ≡ here
