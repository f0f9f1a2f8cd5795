-- What a keeper keeps at the end of a step.
use Rattle.std.specs.Prelude.{◌≡◌, ℕ, Bool, true, false, List, [], ◌∷◌, reverse, Option, Some}
use Rattle.rawk_record.specs.Shown.{record_back}
use Rattle.rawk_store.specs.Groups.{Group}
use Rattle.rawk_history.specs.Steps.{Kept, Forth}
use Rattle.rawk_store.specs.Layout.{Layout}
use Rattle.rawk_store.specs.GroupBack.{ArraysFit, FitsIn, arrays_in, globals_on, put_back}
use Rattle.rawk_history.specs.Keeping.{KeepsStep}
use Rattle.rawk_steps.specs.Leading.{AllArraysFit, arrays_forth, back_in, globals_forth, record_forth}

-- the step is kept where any is, and else nothing is
abbrev pub Closes : Bool → Layout → Layout → List Kept → List Kept → List Group → Option ℕ → Type 0
Closes true start now old new here limit = KeepsStep start now old new here limit
Closes false start now old new here limit = new ≡ []

-- each group fits where it is put back, the newest first
abbrev pub FitAll : Layout → List Group → Type 0
FitAll l [] = Unit {0}
FitAll l (g ∷ gs) = FitsIn g l × FitAll (put_back l g) gs

-- back at the point before: its sets' groups stand ready, and what leads forward leads to what was there
pub record HasGoneBack (item : Kept) (rest : List Kept) (old new : Layout) (stood ready : List Group) (kept : List Kept) (ahead : Option Forth) : Type 0 where
  pub now : new ≡ back_in old (reverse stood) item
  pub here : ready ≡ item.sets
  pub left : kept ≡ rest
  pub forth : Forth
  pub is : ahead ≡ Some forth
  pub globals : globals_forth (globals_on new.globals forth.globals forth.others) forth.sets ≡ old.globals
  pub arrays : arrays_forth (arrays_in new.arrays forth.others) forth.sets ≡ old.arrays
  pub fits : ArraysFit forth.others new.arrays
  pub sets_fit : AllArraysFit (arrays_in new.arrays forth.others) forth.sets
  pub current : record_forth (record_back new.current forth.current) forth.sets ≡ old.current
