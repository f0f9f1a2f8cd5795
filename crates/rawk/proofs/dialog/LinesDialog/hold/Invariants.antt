use Rattle.std.proofs.Common.{◌≡◌, ◌≢◌, ◌-◌, ◌^◌, Some}
use Rattle.rawk_devices.specs.Inputs.{CountsUp}
use Rattle.rawk_devices.specs.declared.source.Ending.TheVariants.{Failed}
use Rattle.rawk_debug.specs.Sessions.{stand, machine_of}
use Rattle.rawk_answers.specs.Works.{Draws}
use Rattle.rawk.proofs.DialogSoFar.{SoFar}
use Rattle.rawk.proofs.dialog.LinesDialog.hold.Given as goal

abbrev pub invariant-lines : goal.invariant-lines
invariant-lines g l = record {
  so : SoFar (Unit {0}) g.M.Stepper.may_be g.C.Source.may_give g.C.Source.handed g.W.Sink.may_hold (stand g.M.Stepper.position l.fn.session) (stand g.M.Stepper.position l.session) (machine_of l.fn.session) (machine_of l.session) l.fn.commands l.commands l.lines l.fn.sink l.sink;
  draws : Draws g.M.Device.Source.over g.M.Device.Source.handed (g.M.Stepper.work (machine_of l.fn.session)) (g.M.Stepper.work (machine_of l.session));
  reported : g.C.Source.over l.commands ≡ l.lines.over;
  unfailed : l.lines.over ≢ Some Failed;
  failures : CountsUp (g.W.Sink.failures l.fn.sink) (g.W.Sink.failures l.sink) 0;
  unread : CountsUp (g.C.Source.failures l.fn.commands) (g.C.Source.failures l.commands) 0;
}

abbrev pub decreases-lines : goal.decreases-lines
decreases-lines g l = 2 ^ 64 - l.lines.taken
