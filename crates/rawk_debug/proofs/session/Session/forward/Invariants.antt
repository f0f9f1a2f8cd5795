use Rattle.std.proofs.Common.{◌≡◌, ◌-◌, None}
use Rattle.rawk_devices.specs.Inputs.{Input}
use Rattle.rawk_answers.specs.Positions.{Stands}
use Rattle.rawk_debug.specs.Moves.{Halts, depth_of}
use Rattle.rawk_debug.specs.Sessions.{stand}
use Rattle.rawk_answers.specs.Works.{Work, Draws}
use Rattle.rawk_debug.proofs.session.Session.forward.Given as goal

abbrev pub invariant-search : goal.invariant-search
invariant-search g l =
    let first = l.fn.self.machine in
    let now = l.self.machine in
    let position = g.M.Stepper.position in
    let may_be = g.M.Stepper.may_be in
    record {
      so_far : (input : Input) → may_be now input → Halts input l.goal (stand position l.fn.self) (stand position l.self);
      narrows : (input : Input) → may_be now input → may_be first input;
      draws : (old : Work _) → Draws g.M.Device.Source.over g.M.Device.Source.handed old (g.M.Stepper.work first) → Draws g.M.Device.Source.over g.M.Device.Source.handed old (g.M.Stepper.work now);
      stands : (input : Input) → may_be now input → Stands input (position now) (g.M.Stepper.held now);
      open_still : (g.M.Stepper.held now).over ≡ None;
      depth : l.depth ≡ depth_of (g.M.Stepper.held first);
    }

abbrev pub decreases-search : goal.decreases-search
decreases-search g l = (g.M.Stepper.position l.self.machine).steps - (g.M.Stepper.position l.self.machine).point
