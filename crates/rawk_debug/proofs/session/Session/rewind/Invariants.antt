use Rattle.std.proofs.Common.{◌≡◌, ◌≤◌}
use Rattle.rawk_devices.specs.Inputs.{Input}
use Rattle.rawk_answers.specs.Positions.{back_at}
use Rattle.rawk_debug.specs.Sessions.{stand}
use Rattle.rawk_debug.proofs.session.Session.rewind.Given as goal

abbrev pub invariant-all : goal.invariant-all
invariant-all g l =
    let first = stand g.M.Stepper.position l.fn.self in
    let now = stand g.M.Stepper.position l.self in
    record {
      same : now ≡ record first { machine = back_at now.machine.point first.machine };
      kept : first.machine.oldest ≤ now.machine.point;
      narrows : (input : Input) → g.M.Stepper.may_be l.self.machine input → g.M.Stepper.may_be l.fn.self.machine input;
      reads_nothing : (input : Input) → g.M.Stepper.may_be l.fn.self.machine input → g.M.Stepper.may_be l.self.machine input;
      idle : g.M.Stepper.work l.self.machine ≡ g.M.Stepper.work l.fn.self.machine;
    }

abbrev pub decreases-all : goal.decreases-all
decreases-all g l = (g.M.Stepper.position l.self.machine).point
