use Rattle.std.proofs.Common.{length}
use Rattle.rawk_devices.specs.Inputs.{Input, CountsUp}
use Rattle.rawk_debug.specs.Sessions.{stand, machine_of}
use Rattle.rawk_answers.specs.Works.{Draws}
use Rattle.rawk.proofs.LinesInMemory.{Carried}
use Rattle.rawk.proofs.in_memory.InMemoryDialogUnit.hold.Given as goal

abbrev pub invariant-lines : goal.invariant-lines
invariant-lines g l = record {
  carried : Carried g.M.Stepper.may_be g.W.Sink.may_hold (stand g.M.Stepper.position l.fn.session) (stand g.M.Stepper.position l.session) (machine_of l.fn.session) (machine_of l.session) l.fn.self.commands.now l.left l.fn.sink l.sink;
  narrows : (input : Input) → g.M.Stepper.may_be (machine_of l.session) input → g.M.Stepper.may_be (machine_of l.fn.session) input;
  draws : Draws g.M.Device.Source.over g.M.Device.Source.handed (g.M.Stepper.work (machine_of l.fn.session)) (g.M.Stepper.work (machine_of l.session));
  failures : CountsUp (g.W.Sink.failures l.fn.sink) (g.W.Sink.failures l.sink) 0;
}

abbrev pub decreases-lines : goal.decreases-lines
decreases-lines g l = length l.left
