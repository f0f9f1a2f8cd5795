use Rattle.std.proofs.Common.{◌-◌}
use Rattle.rawk_devices.specs.Inputs.{CountsUp}
use Rattle.rawk.proofs.SoFar.{SoFar}
use Rattle.rawk.proofs.running.run_on.Given as goal

-- the sink has taken the output of all points before the one at which the machine stands
abbrev pub invariant-steps : goal.invariant-steps
invariant-steps g l = record {
  so : SoFar g.R.Source.may_give g.R.Source.handed g.W.Sink.may_hold l.fn.runner l.fn.sink l.runner l.sink;
  failures : CountsUp (g.W.Sink.failures l.fn.sink) (g.W.Sink.failures l.sink) 0;
}

abbrev pub decreases-steps : goal.decreases-steps
decreases-steps g l = l.runner.steps - l.runner.point
