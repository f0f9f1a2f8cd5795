use Rattle.std.proofs.Common.{refl, sym}
use Rattle.rawk_debug.specs.Sessions.{stand, machine_of}
use Rattle.rawk_answers.specs.Works.{draws_none, draws_on}
use Rattle.rawk.specs.Reports.{read_failures, write_failures}
use Rattle.rawk.specs.Dialogs.{report_over}
use Rattle.rawk.proofs.SoFar.{none_counted, counted}
use Rattle.rawk.proofs.LinesInMemory.{begun_all, ended_all, told_all, answered_all}
use Rattle.rawk.proofs.in_memory.InMemoryDialogUnit.hold.Goals as goal

pub lines-init : goal.lines-init
lines-init g c = record {
  carried = begun_all g.M.Stepper.may_be g.W.Sink.may_hold (stand g.M.Stepper.position c.args.session.now) (machine_of c.args.session.now) c.args.self.commands.now c.args.sink.now;
  narrows = λ input may. may;
  draws = draws_none g.M.Device.Source.over g.M.Device.Source.handed (g.M.Stepper.work (machine_of c.args.session.now)) (g.M.Stepper.work (machine_of c.args.session.now)) refl;
  failures = none_counted (g.W.Sink.failures c.args.sink.now);
}

-- no line is left
pub returns-clause-speaks : goal.returns-clause-speaks
returns-clause-speaks g c = ended_all g.M.Stepper.may_be g.W.Sink.may_hold (stand g.M.Stepper.position c.args.session.now) (stand g.M.Stepper.position c.lines.session) (machine_of c.args.session.now) (machine_of c.lines.session) c.args.self.commands.now c.lines.left.now c.args.sink.now c.lines.sink c.lines.invariant.carried (sym c.lines-test.ensures)

-- the dialog is over by a reply
pub returns-in-Err-clause-speaks : goal.returns-in-Err-clause-speaks
returns-in-Err-clause-speaks g c = told_all g.M.Stepper.may_be g.W.Sink.may_hold (stand g.M.Stepper.position c.args.session.now) (stand g.M.Stepper.position c.lines.session) (machine_of c.args.session.now) (machine_of c.lines.session) c.args.self.commands.now c.lines.left.now c.args.sink.now c.lines.sink c.lines.invariant.carried (machine_of c.carry_out-reply.new.session) (stand g.M.Stepper.position c.carry_out-reply.new.session) c.tell.new.sink c.first_line.result.0.now c.first_line.result.1.now (g.M.Stepper.held (machine_of c.carry_out-reply.new.session)).state.output c.carry_out-reply.result (sym c.lines-test.ensures) c.first_line.ensures.line c.first_line.ensures.rest c.carry_out-reply.ensures.narrows c.carry_out-reply.ensures.carries c.in-Err.over c.in-Err.ensures.told

pub returns-in-Err-clause-draws : goal.returns-in-Err-clause-draws
returns-in-Err-clause-draws g c = draws_on g.M.Device.Source.over g.M.Device.Source.handed (g.M.Stepper.work (machine_of c.args.session.now)) (g.M.Stepper.work (machine_of c.lines.session)) (g.M.Stepper.work (machine_of c.carry_out-reply.new.session)) c.lines.invariant.draws c.carry_out-reply.ensures.draws

pub returns-in-Err-clause-failures : goal.returns-in-Err-clause-failures
returns-in-Err-clause-failures g c = counted (g.W.Sink.failures c.args.sink.now) (g.W.Sink.failures c.lines.sink) (g.W.Sink.failures c.tell.new.sink) (write_failures (report_over c.in-Err.over).cause) (write_failures (report_over c.in-Err.over).cause) c.lines.invariant.failures c.in-Err.ensures.failures refl

pub returns-in-Err-clause-read : goal.returns-in-Err-clause-read
returns-in-Err-clause-read g c = counted 0 0 0 0 (read_failures (report_over c.in-Err.over).cause) (none_counted 0) (none_counted 0) (sym c.in-Err.ensures.read)

-- the next line
pub lines-preserved : goal.lines-preserved
lines-preserved g c = record {
  carried = answered_all g.M.Stepper.may_be g.W.Sink.may_hold (stand g.M.Stepper.position c.args.session.now) (stand g.M.Stepper.position c.lines.session) (machine_of c.args.session.now) (machine_of c.lines.session) c.args.self.commands.now c.lines.left.now c.args.sink.now c.lines.sink c.lines.invariant.carried (machine_of c.carry_out-reply.new.session) (stand g.M.Stepper.position c.carry_out-reply.new.session) c.tell.new.sink c.first_line.result.0.now c.first_line.result.1.now (g.M.Stepper.held (machine_of c.carry_out-reply.new.session)).state.output c.carry_out-reply.result (sym c.lines-test.ensures) c.first_line.ensures.line c.first_line.ensures.rest c.carry_out-reply.ensures.narrows c.carry_out-reply.ensures.carries c.in-Ok.ensures.told;
  narrows = λ input may. c.lines.invariant.narrows input (c.carry_out-reply.ensures.narrows input may);
  draws = draws_on g.M.Device.Source.over g.M.Device.Source.handed (g.M.Stepper.work (machine_of c.args.session.now)) (g.M.Stepper.work (machine_of c.lines.session)) (g.M.Stepper.work (machine_of c.carry_out-reply.new.session)) c.lines.invariant.draws c.carry_out-reply.ensures.draws;
  failures = counted (g.W.Sink.failures c.args.sink.now) (g.W.Sink.failures c.lines.sink) (g.W.Sink.failures c.tell.new.sink) 0 0 c.lines.invariant.failures c.in-Ok.ensures.unfailing refl;
}
