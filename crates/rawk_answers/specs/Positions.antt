-- Where a machine stands in the run of its program, and what it holds there.
use Rattle.std.specs.Prelude.{◌≡◌, ℕ, ◌-◌, ◌≤◌, max, Bool, List, [], ◌∷◌, ◌++◌, filter, nat_le, nat_eq, Option, Some, None, slice_get}
use Rattle.std.specs.List.{list_any}
use Rattle.rawk_tree.specs.declared.tree.Program.{Program}
use Rattle.rawk_value.specs.declared.value.Value.{Value}
use Rattle.rawk_devices.specs.Inputs.{Input}
use Rattle.rawk_store.specs.State.{State, Target}
use Rattle.rawk_code.specs.Actions.{Point, SetAt, Ending}
use Rattle.rawk_code.specs.Trace.{FirstValue, Trace, trace, number, site_at_end}

-- where a machine stands: what its run was given, how many steps back it keeps, its point, the sets that stand, and the oldest point kept
pub record Position : Type 0 where
  pub program : Program
  pub settings : List FirstValue
  pub steps : ℕ
  pub history : Option ℕ
  pub point : ℕ
  pub sets : List SetAt
  pub oldest : ℕ

-- what a machine holds: how the run ended, where it is over, the site of the point or of the ending, and the state
pub record Snapshot : Type 0 where
  pub over : Option Ending
  pub site : Option ℕ
  pub state : State

-- a run's trace, under some sets
unfoldable pub trace_under : Program → List FirstValue → ℕ → Input → List SetAt → Trace
trace_under program settings steps input sets = trace program settings (record { input = input; sets = sets; steps = steps })

-- the trace in which a machine stands, on an input
abbrev pub trace_of : Input → Position → Trace
trace_of input m = trace_under m.program m.settings m.steps input m.sets

abbrev pub held_or : Trace → Option Point → Snapshot
held_or t None = record { over = Some t.ending; site = site_at_end t.ending t.run; state = t.run.state }
held_or t (Some point) = record { over = None; site = point.site; state = point.state }

-- a trace's point j; from the ending's number on the ending
abbrev pub at : Trace → ℕ → Snapshot
at t j = held_or t (slice_get t.run.points j)

-- what a machine at this position holds
abbrev pub here : Input → Position → Snapshot
here input m = at (trace_of input m) m.point

-- the sets of the points 0 to k
abbrev pub upto : ℕ → List SetAt → List SetAt
upto k sets = filter (λ e. nat_le e.point k) sets

-- the oldest point that is kept after a step to j
abbrev pub raised : Option ℕ → ℕ → ℕ → ℕ
raised None j oldest = oldest
raised (Some history) j oldest = max oldest (j - history)

-- gone on to j
abbrev pub gone_to : ℕ → Position → Position
gone_to j m = record m { point = j; oldest = raised m.history j m.oldest }

-- gone back to j: the sets of later points stand no more
abbrev pub back_at : ℕ → Position → Position
back_at j m = record m { point = j; sets = upto j m.sets }

-- with one more set at its point, the last
abbrev pub with_set : Target → Value → Position → Position
with_set target value m = record m { sets = m.sets ++ (record { point = m.point; target = target; value = value }) ∷ [] }

-- whether a set stands at a point
abbrev pub has_set_at : ℕ → List SetAt → Bool
has_set_at k sets = list_any (λ e. nat_eq e.point k) sets

-- without the last of its sets, which was made at its point
pub record IsTakenBack (old new : Position) : Type 0 where
  pub last : SetAt
  pub there : last.point ≡ old.point
  pub sets : old.sets ≡ new.sets ++ last ∷ []
  pub same : new ≡ record old { sets = new.sets }

-- a position that can be: within the steps; what is kept is not beyond it, and no set stands at a later point
pub record IsPosition (m : Position) : Type 0 where
  pub within : m.point ≤ m.steps
  pub kept : m.oldest ≤ m.point
  pub few : raised m.history m.point m.oldest ≡ m.oldest
  pub past : upto m.point m.sets ≡ m.sets

-- a machine holds what the trace has at its position, which is a point of it or its ending
pub record Stands (input : Input) (m : Position) (held : Snapshot) : Type 0 where
  pub within : m.point ≤ number (trace_of input m)
  pub holds : held ≡ here input m
