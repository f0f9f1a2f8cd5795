-- Activations of functions.
use Rattle.std.specs.Prelude.{◌≡◌, ℕ, List, [], ◌∷◌, ◌++◌, Option, Some, slice_get, slice_set}
use Rattle.rawk_value.specs.Values.{Bytes}
use Rattle.rawk_value.specs.declared.value.Value.{Value}
use Rattle.rawk_value.specs.declared.value.Value.TheVariants.{String}
use Rattle.rawk_frames.specs.declared.frames.Local.{Local}
use Rattle.rawk_frames.specs.declared.frames.Local.TheVariants.{Holds}
use Rattle.rawk_frames.specs.declared.frames.Activation.{Activation}

-- an activation: its function, its locals, how many arrays there were before it, and its calling point with its site
pub record Frame : Type 0 where
  pub function : ℕ
  pub locals : List Local
  pub arrays_before : ℕ
  pub called_at : ℕ
  pub site : Option ℕ

-- an activation with no locals yet
abbrev pub new_frame : ℕ → ℕ → ℕ → Option ℕ → Frame
new_frame function arrays_before called_at site = record { function = function; locals = []; arrays_before = arrays_before; called_at = called_at; site = site }

-- the locals of the newest activation
abbrev pub locals_now : List Frame → List Local
locals_now [] = []
locals_now (f ∷ fs) = f.locals

-- a local of the newest activation is another one
abbrev pub with_local : ℕ → Local → List Frame → List Frame
with_local i v [] = []
with_local i v (f ∷ fs) = record f { locals = slice_set f.locals i v } ∷ fs

-- the newest activation has one more local
abbrev pub with_more : Local → List Frame → List Frame
with_more v [] = []
with_more v (f ∷ fs) = record f { locals = f.locals ++ v ∷ [] } ∷ fs

-- what is kept of an activation beside its locals
pub record IsOf (a : Activation) (f : Frame) : Type 0 where
  pub function : f.function ≡ a.function
  pub arrays_before : f.arrays_before ≡ a.arrays_before
  pub called_at : f.called_at ≡ a.called_at
  pub site : f.site ≡ a.site

-- a text that the program made, with bytes behind it
pub record IsLonger (more : Bytes) (old new : Value) : Type 0 where
  pub text : Bytes
  pub was : old ≡ String text
  pub is : new ≡ String (text ++ more)

-- the local at a place holds a text that the program made, with bytes behind it
pub record HasLongerAt (place : ℕ) (more : Bytes) (old new : List Local) : Type 0 where
  pub text : Bytes
  pub was : slice_get old place ≡ Some (Holds (String text))
  pub is : new ≡ slice_set old place (Holds (String (text ++ more)))

-- the same of a local of the newest activation
pub record HasLonger (number : ℕ) (more : Bytes) (old new : List Frame) : Type 0 where
  pub text : Bytes
  pub was : slice_get (locals_now old) number ≡ Some (Holds (String text))
  pub is : new ≡ with_local number (Holds (String (text ++ more))) old
