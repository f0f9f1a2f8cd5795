-- What keepers keep, and how many steps.
use Rattle.std.specs.Prelude.{◌≡◌, ℕ, ◌+◌, min, Bool, true, nat_lt, List, ◌∷◌, ◌++◌, length, Option, None, Some}
use Rattle.rawk_record.specs.Shown.{record_back}
use Rattle.rawk_store.specs.Layout.{Layout}
use Rattle.rawk_store.specs.Groups.{Group}
use Rattle.rawk_history.specs.Steps.{Kept, Forth}
use Rattle.rawk_store.specs.GroupBack.{ArraysFit, FitsIn, arrays_in, globals_on, put_back}
use Rattle.rawk_store.specs.Saving.{SavesOnce}

-- the first part of a list
pub record IsFront {T : Type 0} (xs ys : List T) : Type 0 where
  pub rest : List T
  pub is : ys ≡ xs ++ rest

-- of n steps, how many are kept
abbrev pub room : Option ℕ → ℕ → ℕ
room None n = n
room (Some h) n = min n h

abbrev pub keeps_any : Option ℕ → Bool
keeps_any None = true
keeps_any (Some h) = nat_lt 0 h

-- the step is kept, of each global and each element one old value at most, with the groups of the sets made at the point that it left
pub record KeepsStep (start now : Layout) (old new : List Kept) (here : List Group) (limit : Option ℕ) : Type 0 where
  pub item : Kept
  pub back : put_back now item.step ≡ start
  pub fits : FitsIn item.step now
  pub once : SavesOnce item.step
  pub sets : item.sets ≡ here
  pub front : IsFront new (item ∷ old)
  pub count : length new ≡ room limit (length old + 1)

-- from the one layout something leads forward again, over these groups, to the other
pub record LeadsForth (back_there now : Layout) (groups : List Group) (ahead : Option Forth) : Type 0 where
  pub forth : Forth
  pub is : ahead ≡ Some forth
  pub globals : globals_on back_there.globals forth.globals forth.others ≡ now.globals
  pub arrays : arrays_in back_there.arrays forth.others ≡ now.arrays
  pub fits : ArraysFit forth.others back_there.arrays
  pub current : record_back back_there.current forth.current ≡ now.current
  pub sets : forth.sets ≡ groups

-- the step was put back: its sets' groups stand ready, those that stood there lead forward, and what was kept before it is still kept
pub record IsPutBack (item : Kept) (rest : List Kept) (old new : Layout) (stood ready : List Group) (kept : List Kept) (ahead : Option Forth) : Type 0 where
  pub now : new ≡ put_back old item.step
  pub sets : ready ≡ item.sets
  pub left : kept ≡ rest
  pub forth : LeadsForth new old stood ahead

-- what a keeper is: the steps that it keeps, the newest first, and what leads forward over the step that was put back last, until one is kept
pub record Keeping : Type 0 where
  pub kept : List Kept
  pub forth : Option Forth
