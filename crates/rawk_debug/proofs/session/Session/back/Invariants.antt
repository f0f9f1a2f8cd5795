use Rattle.std.proofs.Common.{◌≡◌, IsTrue}
use Rattle.rawk_devices.specs.Inputs.{Input}
use Rattle.rawk_debug.specs.Moves.{depth_of}
use Rattle.rawk_debug.specs.Sessions.{stand}
use Rattle.rawk_debug.proofs.Searches.{Backs}
use Rattle.rawk_debug.proofs.session.Session.back.Given as goal

abbrev pub invariant-search : goal.invariant-search
invariant-search g l =
    let first = l.fn.self.machine in
    let now = l.self.machine in
    let position = g.M.Stepper.position in
    let may_be = g.M.Stepper.may_be in
    record {
      so_far : (input : Input) → may_be now input → Backs input l.goal (stand position l.fn.self) (stand position l.self) (g.M.Stepper.before now);
      narrows : (input : Input) → may_be now input → may_be first input;
      reads_nothing : (input : Input) → may_be first input → may_be now input;
      idle : g.M.Stepper.work now ≡ g.M.Stepper.work first;
      fresh : IsTrue (g.M.Stepper.fresh now);
      depth : l.depth ≡ depth_of (g.M.Stepper.held first);
    }

abbrev pub decreases-search : goal.decreases-search
decreases-search g l = (g.M.Stepper.position l.self.machine).point
