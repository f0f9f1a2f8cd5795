-- Steps that are kept in parts, of which the last ones show.
use Rattle.std.specs.Prelude.{ℕ, ◌+◌, ◌<◌, ◌≤◌, List, [], ◌∷◌, ◌++◌, length, Option}
use Rattle.rawk_history.specs.Steps.{Kept, Forth}
use Rattle.rawk_history.specs.Keeping.{Keeping}

-- the steps of parts, the newest part first
abbrev pub kept_in : List Keeping → List Kept
kept_in [] = []
kept_in (part ∷ parts) = part.kept ++ kept_in parts

-- each part keeps a step
abbrev pub AreFilled : List Keeping → Type 0
AreFilled [] = Unit {0}
AreFilled (part ∷ parts) = (0 < length part.kept) × AreFilled parts

-- what a keeper of the last steps is: the steps that it keeps, the newest first, what leads forward over the step that was put back last, until one is kept, and how many steps it keeps at most
pub record KeepingLast : Type 0 where
  pub kept : List Kept
  pub forth : Option Forth
  pub history : ℕ

-- of all steps that lie in parts `count` are kept, no more than the history, and at least `gone` are not
pub record IsRing (newest : List Kept) (older : List Keeping) (count gone history : ℕ) : Type 0 where
  pub filled : AreFilled older
  pub within : count + gone ≤ length (newest ++ kept_in older)
  pub few : count ≤ history
