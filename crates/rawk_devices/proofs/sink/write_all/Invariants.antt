use Rattle.std.proofs.Common.{◌≤◌, ◌-◌, ◌++◌, List, ℕ, length, take}
use Rattle.rawk_devices.specs.Inputs.{CountsUp}
use Rattle.rawk_devices.proofs.sink.write_all.Given as goal

-- a beginning was taken, and nothing failed
abbrev pub invariant-loop-at : goal.invariant-loop-at
invariant-loop-at g l = (l.at ≤ length l.bytes) × ((held : List ℕ) → g.W.Sink.may_hold l.fn.sink held → g.W.Sink.may_hold l.sink (held ++ take l.at l.bytes)) × CountsUp (g.W.Sink.failures l.fn.sink) (g.W.Sink.failures l.sink) 0

abbrev pub decreases-loop-at : goal.decreases-loop-at
decreases-loop-at g l = length l.bytes - l.at
