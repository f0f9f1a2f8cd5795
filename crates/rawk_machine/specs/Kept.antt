-- What groups lead back to.
use Rattle.std.specs.Prelude.{◌≡◌, ℕ, ◌-◌, ◌<◌, ◌≤◌, nat_lt, List, [], ◌∷◌, ◌++◌, length, take, filter, Option, None, Some}
use Rattle.rawk_value.specs.declared.value.Value.{Value}
use Rattle.rawk_record.specs.Shown.{Shown, record_back}
use Rattle.rawk_arrays.specs.Laid.{Laid, arrays_of}
use Rattle.rawk_store.specs.Observed.{Observed, seen}
use Rattle.rawk_store.specs.Groups.{Group}
use Rattle.rawk_history.specs.Steps.{Kept, Forth}
use Rattle.rawk_store.specs.Layout.{Layout, state, operands, keys}
use Rattle.rawk_store.specs.Saving.{saved_in}
use Rattle.rawk_store.specs.GroupBack.{ArraysFit, FitsIn, arrays_in, globals_on, put_back}
use Rattle.rawk_frames.specs.LaidFrames.{returns_of}
use Rattle.rawk_steps.specs.Arrival.{site_for}
use Rattle.rawk_steps.specs.Leading.{AllArraysFit, all_back, arrays_forth, back_in, globals_forth, newest_first, record_forth}
use Rattle.rawk_code.specs.Actions.{SetAt}
use Rattle.rawk_machine.specs.Last.{Last}
use Rattle.rawk_machine.specs.Last as last
use Rattle.rawk_machine.specs.Standing.{Moment, Earlier, Past}

-- a moment, as it lies in the parts
abbrev pub moment_in : Layout → Moment
moment_in l = record {
  state = state l;
  operands = operands l;
  keys = keys l;
  returns = returns_of l.frames;
  place = l.registers.place;
  phase = l.registers.phase;
  ending = l.registers.ending;
  site = site_for l.registers.ending l.registers.site;
}

-- the sets but for the last
abbrev pub but_last : List SetAt → List SetAt
but_last sets = take (length sets - 1) sets

-- the sets of the points before this one
abbrev pub below : ℕ → List SetAt → List SetAt
below point sets = filter (λ e. nat_lt e.point point) sets

-- how it stood before each set of a point
abbrev pub unsets : Layout → List SetAt → List Group → List Earlier
unsets l sets [] = []
unsets l sets (g ∷ gs) = record { moment = moment_in (put_back l g); sets = but_last sets; saved = saved_in g } ∷ unsets (put_back l g) (but_last sets) gs

-- how it stood at each earlier point
abbrev pub pasts : Layout → List SetAt → ℕ → List Group → List Kept → List Past
pasts l sets point here [] = []
pasts l sets point here (item ∷ items) =
    record {
      last = record { moment = moment_in (back_in l here item); sets = below point sets; saved = saved_in item.step };
      unset = unsets (back_in l here item) (below point sets) (newest_first item);
    }
    ∷ pasts (back_in l here item) (below point sets) (point - 1) (newest_first item) items

-- what was seen at the newest of the earlier points
abbrev pub seen_first : List Past → Option Observed
seen_first [] = None
seen_first (p ∷ ps) = Some (seen p.last.moment.state)

abbrev pub seen_forth : List Value → Laid → Shown → Forth → Observed
seen_forth globals arrays current forth = record {
  globals = globals_forth (globals_on globals forth.globals forth.others) forth.sets;
  arrays = arrays_of (arrays_forth (arrays_in arrays forth.others) forth.sets);
  whole = (record_forth (record_back current forth.current) forth.sets).text;
  fields = (record_forth (record_back current forth.current) forth.sets).fields;
}

-- what was seen before the last move
abbrev pub before_of : Last → List Value → Laid → Shown → List Past → Option Observed
before_of last.Nothing globals arrays current history = None
before_of last.On globals arrays current history = seen_first history
before_of (last.Back forth) globals arrays current history = Some (seen_forth globals arrays current forth)

-- each place that a step leads forward to which was put back is one of the arrays
abbrev pub LastFits : Last → Laid → Type 0
LastFits last.Nothing l = Unit {0}
LastFits last.On l = Unit {0}
LastFits (last.Back forth) l = ArraysFit forth.others l × AllArraysFit (arrays_in l forth.others) forth.sets

-- at the point of this number; `size` bytes of the input are kept
pub record IsPlaced (l : Layout) (point size : ℕ) : Type 0 where
  pub goes : l.registers.ending ≡ None
  pub here : l.registers.here ≡ point
  pub consumed : l.registers.consumed ≤ size

-- the groups of a point's sets fit where they are put back, the newest first
abbrev pub FitHere : Layout → ℕ → ℕ → List Group → Type 0
FitHere l point size [] = Unit {0}
FitHere l point size (g ∷ gs) = FitsIn g l × IsPlaced (put_back l g) point size × FitHere (put_back l g) point size gs

abbrev pub AllBelow : ℕ → List SetAt → Type 0
AllBelow point [] = Unit {0}
AllBelow point (e ∷ es) = (e.point < point) × AllBelow point es

abbrev pub AllOf : ℕ → List SetAt → Type 0
AllOf point [] = Unit {0}
AllOf point (e ∷ es) = (e.point ≡ point) × AllOf point es

-- the last `count` sets are of this point, and those before are of earlier ones
pub record EndsWith (point count : ℕ) (sets : List SetAt) : Type 0 where
  pub earlier : List SetAt
  pub own : List SetAt
  pub is : sets ≡ earlier ++ own
  pub before : AllBelow point earlier
  pub now : AllOf point own
  pub count_is : length own ≡ count

-- the groups lead from point to point, and the sets of each point are as many as their groups
abbrev pub Chain : Layout → ℕ → ℕ → List SetAt → List Group → List Kept → Type 0
Chain l point size sets here [] = FitHere l point size here × EndsWith point (length here) sets
Chain l point size sets here (item ∷ items) =
    FitHere l point size here
    × EndsWith point (length here) sets
    × (0 < point)
    × FitsIn item.step (all_back l here)
    × IsPlaced (back_in l here item) (point - 1) size
    × Chain (back_in l here item) (point - 1) size (below point sets) (newest_first item) items

-- at most as many as the limit
abbrev pub Few : Option ℕ → ℕ → Type 0
Few None n = Unit {0}
Few (Some h) n = n ≤ h
