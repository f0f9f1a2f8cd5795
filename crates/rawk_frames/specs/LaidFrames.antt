-- How activations lie: on one stack what is kept of each, on another the locals of all.
use Rattle.std.specs.Prelude.{◌≡◌, ℕ, ◌+◌, ◌-◌, ◌^◌, ◌≤◌, ◌<◌, List, [], ◌∷◌, length, map, take, drop}
use Rattle.rawk_slots.specs.Journaled.{Journaled}
use Rattle.rawk_slots.specs.Stacked.{Stacked, GrownStack, IsLive, empty_stack, live_slots, live_values}
use Rattle.rawk_frames.specs.declared.frames.Local.{Local}
use Rattle.rawk_frames.specs.declared.frames.Activation.{Activation}
use Rattle.rawk_frames.specs.Frame.{Frame}

pub record LaidFrames : Type 0 where
  pub frames : Stacked Activation
  pub locals : Stacked Local

abbrev pub no_frames : LaidFrames
no_frames = record { frames = empty_stack; locals = empty_stack }

-- the activations, the newest first: the locals of each begin at its base
abbrev pub frames_from : List Activation → List Local → List Frame
frames_from [] locals = []
frames_from (a ∷ older) locals = record { function = a.function; locals = drop a.base locals; arrays_before = a.arrays_before; called_at = a.called_at; site = a.site } ∷ frames_from older (take a.base locals)

abbrev pub frames_of : LaidFrames → List Frame
frames_of l = frames_from (live_values l.frames) (live_slots l.locals)

-- the places of the code to which they return, the newest first
abbrev pub returns_of : LaidFrames → List ℕ
returns_of l = map (λ a. a.return_to) (live_values l.frames)

-- the locals of each activation begin within those that there are
abbrev pub IsNested : List Activation → ℕ → Type 0
IsNested [] n = Unit {0}
IsNested (a ∷ older) n = (a.base ≤ n) × IsNested older a.base

abbrev pub AreNested : LaidFrames → Type 0
AreNested l = IsNested (live_values l.frames) (length (live_slots l.locals))

-- where the locals of the newest activation begin: without one, behind any
abbrev pub IsBase : ℕ → List Activation → Type 0
IsBase base [] = base ≡ 2 ^ 64 - 1
IsBase base (a ∷ older) = base ≡ a.base

-- the activations are nested, and it is known where the locals of the newest one begin
pub record AreFrames (base : ℕ) (frames : Journaled (Stacked Activation)) (locals : Journaled (Stacked Local)) : Type 0 where
  pub now : IsNested (live_values frames.now) (length (live_slots locals.now))
  pub begins : IsBase base (live_values frames.now)

-- the live lengths are within the slots
pub record AreFramesLive (l : LaidFrames) : Type 0 where
  pub frames : IsLive l.frames
  pub locals : IsLive l.locals

-- slots were added beyond the live ones, and nothing else was done
pub record GrownFrames (l m : LaidFrames) : Type 0 where
  pub frames : GrownStack l.frames m.frames
  pub locals : GrownStack l.locals m.locals

-- slots were added beyond the live ones, and the activations are the same
pub record IsSameFrames (l m : LaidFrames) : Type 0 where
  pub grown : GrownFrames l m
  pub same : frames_of m ≡ frames_of l
  pub returns : returns_of m ≡ returns_of l

-- where a local of the newest activation stands among all locals
pub record IsPlace (number : ℕ) (activations : List Activation) (locals : List Local) (place : ℕ) : Type 0 where
  pub newest : Activation
  pub older : List Activation
  pub is : activations ≡ newest ∷ older
  pub there : place ≡ newest.base + number
  pub within : place < length locals
