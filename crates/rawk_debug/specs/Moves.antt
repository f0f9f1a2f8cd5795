-- What a session's moves look for, and where they lead.
use Rattle.std.specs.Prelude.{◌≡◌, ℕ, ◌+◌, ◌-◌, ◌≤◌, ◌<◌, Bool, true, false, ◌&&◌, ◌||◌, List, length, nat_le, nat_lt, nat_eq, Option, Some, None}
use Rattle.std.specs.List.{list_any}
use Rattle.rawk_devices.specs.Inputs.{Input}
use Rattle.rawk_code.specs.Actions.{Ending}
use Rattle.rawk_code.specs.Trace.{Trace, number}
use Rattle.rawk_commands.specs.declared.command.Way.{Way}
use Rattle.rawk_commands.specs.declared.command.Way.TheVariants.{Forward, Back}
use Rattle.rawk_commands.specs.declared.command.Goal.{Goal}
use Rattle.rawk_commands.specs.declared.command.Goal.TheVariants.{AnyPoint, NoDeeper, Shallower, StopOnly}
use Rattle.rawk_answers.specs.declared.stop.Stop.{Stop}
use Rattle.rawk_answers.specs.declared.stop.Stop.TheVariants.{Break, Watch}
use Rattle.rawk_answers.specs.declared.stop.Entry.{Entry}
use Rattle.rawk_answers.specs.Positions.{Position, Snapshot, trace_of, at, gone_to, back_at}
use Rattle.rawk_store.specs.Observed.{Observed, seen}
use Rattle.rawk_answers.specs.Watching.{differs}

-- whether a site stands there; at the ending none does
abbrev pub stands_at : ℕ → Option Ending → Option ℕ → Bool
stands_at site None (Some s) = nat_eq s site
stands_at site None None = false
stands_at site (Some ending) other = false

-- whether a breakpoint or a watch stops at a point that was come to from where a watch saw this
abbrev pub hits : Observed → Snapshot → Stop → Bool
hits came h (Break site) = stands_at site h.over h.site
hits came h (Watch place) = differs place came (seen h.state)

abbrev pub stops_at : List Entry → Observed → Snapshot → Bool
stops_at stops came h = list_any (λ e. hits came h e.stop) stops

-- the number of activations
abbrev pub depth_of : Snapshot → ℕ
depth_of h = length h.state.frames

-- whether a move that began at this depth looks for the point
abbrev pub sought : Goal → List Entry → ℕ → Observed → Snapshot → Bool
sought AnyPoint stops depth came h = true
sought NoDeeper stops depth came h = nat_le (depth_of h) depth || stops_at stops came h
sought Shallower stops depth came h = nat_lt (depth_of h) depth || stops_at stops came h
sought StopOnly stops depth came h = stops_at stops came h

-- the point from which j is come to
abbrev pub beside : Way → ℕ → ℕ
beside Forward j = j - 1
beside Back j = j + 1

-- whether a move that goes this way from k looks for j
abbrev pub looks_for : Way → Goal → List Entry → Trace → ℕ → ℕ → Bool
looks_for way goal stops t k j = sought goal stops (depth_of (at t k)) (seen (at t (beside way j)).state) (at t j)

-- j is the least number above k that is looked for, or else e
pub record IsNext (P : ℕ → Bool) (k e j : ℕ) : Type 0 where
  pub above : k < j
  pub within : j ≤ e
  pub first : (i : ℕ) → k < i → i < j → P i ≡ false
  pub found : j < e → P j ≡ true

-- j is the greatest number below k that is looked for, or else f
pub record IsLast (P : ℕ → Bool) (k f j : ℕ) : Type 0 where
  pub below : f < k → j < k
  pub within : f ≤ j
  pub upmost : j ≤ k
  pub first : (i : ℕ) → j < i → i < k → P i ≡ false
  pub found : f < j → P j ≡ true

-- what a session is: its machine, its breakpoints and watches, and how many it has made
pub record Stand : Type 0 where
  pub machine : Position
  pub stops : List Entry
  pub made : ℕ

-- what a session's move looks for
abbrev pub wanted : Input → Way → Goal → Stand → ℕ → Bool
wanted input way goal s j = looks_for way goal s.stops (trace_of input s.machine) s.machine.point j

-- a forward move has gone to its end
pub record Goes (input : Input) (goal : Goal) (old new : Stand) : Type 0 where
  pub next : IsNext (wanted input Forward goal old) old.machine.point (number (trace_of input old.machine)) new.machine.point
  pub same : new ≡ record old { machine = gone_to new.machine.point old.machine }

-- a forward move was refused memory on the way
pub record Halts (input : Input) (goal : Goal) (old new : Stand) : Type 0 where
  pub from : old.machine.point ≤ new.machine.point
  pub short : new.machine.point < number (trace_of input old.machine)
  pub first : (i : ℕ) → old.machine.point < i → i ≤ new.machine.point → wanted input Forward goal old i ≡ false
  pub same : new ≡ record old { machine = gone_to new.machine.point old.machine }

-- a backward move
pub record Returns (input : Input) (goal : Goal) (old new : Stand) : Type 0 where
  pub last : IsLast (wanted input Back goal old) old.machine.point old.machine.oldest new.machine.point
  pub same : new ≡ record old { machine = back_at new.machine.point old.machine }

-- whether a backward move to j ended where it looked for
abbrev pub is_found : Input → Goal → Stand → ℕ → Bool
is_found input goal old j = nat_lt j old.machine.point && wanted input Back goal old j

-- the state before the last step of a forward move to j, and of a backward one, as a watch sees it
abbrev pub from_below : Input → Stand → ℕ → Observed
from_below input old j = seen (at (trace_of input old.machine) (j - 1)).state

abbrev pub from_above : Input → Stand → ℕ → Observed
from_above input old j = seen (at (trace_of input old.machine) (j + 1)).state
