use Rattle.std.proofs.Common.{ap, arith, refl, sym, subst, ◌∙◌}
use Rattle.rawk_debug.specs.declared.session.Session.{Session}
use Rattle.rawk_debug.specs.Sessions.{stand, machine_of}
use Rattle.rawk_answers.specs.Works.{draws_none, draws_on}
use Rattle.rawk_tape.specs.Lines.{LinesState, failures_at}
use Rattle.rawk.specs.declared.dialog.Over.{Over}
use Rattle.rawk.specs.Reads.{WasRead}
use Rattle.rawk.specs.Reports.{read_failures, write_failures}
use Rattle.rawk.specs.Dialogs.{Speaks, over_by, report_over}
use Rattle.rawk.proofs.SoFar.{none_counted, counted}
use Rattle.rawk.proofs.DialogSoFar.{begun, not_failed, reads_reported, writes_reported, speaks_read, unread_is, told_over, answered}
use Rattle.rawk.proofs.dialog.LinesDialog.hold.Goals as goal

pub lines-init : goal.lines-init
lines-init g c = record {
  so = begun (Unit {0}) g.M.Stepper.may_be g.C.Source.may_give g.C.Source.handed g.W.Sink.may_hold (stand g.M.Stepper.position c.args.session.now) (machine_of c.args.session.now) c.args.commands.now c.args.self c.args.sink.now c.requires.0;
  draws = draws_none g.M.Device.Source.over g.M.Device.Source.handed (g.M.Stepper.work (machine_of c.args.session.now)) (g.M.Stepper.work (machine_of c.args.session.now)) refl;
  reported = c.requires.1 ∙ sym (ap (λ (l : LinesState). l.over) c.requires.0);
  unfailed = not_failed c.args.self.over (ap (λ (l : LinesState). l.over) c.requires.0);
  failures = none_counted (g.W.Sink.failures c.args.sink.now);
  unread = none_counted (g.C.Source.failures c.args.commands.now);
}

-- there is no next line
pub returns-in-Err-clause-speaks : goal.returns-in-Err-clause-speaks
returns-in-Err-clause-speaks g c =
    let f = c.in-Err.ensures.none in
    let over : Over = over_by c.in-Err.why in
    let spoken = unread_is (Unit {0}) g.M.Stepper.may_be g.C.Source.may_give g.C.Source.handed g.W.Sink.may_hold (stand g.M.Stepper.position c.args.session.now) (stand g.M.Stepper.position c.lines.session) (machine_of c.args.session.now) (machine_of c.lines.session) c.args.commands.now c.lines.commands c.take_turn.new.commands c.lines.lines c.args.sink.now c.lines.sink c.lines.invariant.so f.all f.reads c.in-Err.why (λ other. tt) f.none f.many in
    let speaks = speaks_read (Unit {0}) g.M.Stepper.may_be g.C.Source.may_give g.C.Source.handed g.W.Sink.may_hold (stand g.M.Stepper.position c.args.session.now) (stand g.M.Stepper.position c.lines.session) (machine_of c.lines.session) c.args.commands.now c.take_turn.new.commands c.args.sink.now c.lines.sink over g.met.C.Source.gives_some spoken in
    let told = subst (λ (s : Session g.row.M.Denot). Speaks (Unit {0}) g.M.Stepper.may_be (WasRead g.C.Source.may_give g.C.Source.handed c.args.commands.now c.take_turn.new.commands) g.W.Sink.may_hold (stand g.M.Stepper.position c.args.session.now) (stand g.M.Stepper.position s) (machine_of s) c.args.sink.now c.lines.sink over) (sym c.in-Err.ensures.same) speaks in
    subst (λ (o : Over). Speaks (Unit {0}) g.M.Stepper.may_be (WasRead g.C.Source.may_give g.C.Source.handed c.args.commands.now c.take_turn.new.commands) g.W.Sink.may_hold (stand g.M.Stepper.position c.args.session.now) (stand g.M.Stepper.position c.take_turn.new.session) (machine_of c.take_turn.new.session) c.args.sink.now c.lines.sink o) (sym c.from.ensures) told

pub returns-in-Err-clause-failures : goal.returns-in-Err-clause-failures
returns-in-Err-clause-failures g c =
    counted (g.W.Sink.failures c.args.sink.now) (g.W.Sink.failures c.args.sink.now) (g.W.Sink.failures c.lines.sink) 0 (write_failures (report_over c.from.result).cause) (none_counted (g.W.Sink.failures c.args.sink.now)) c.lines.invariant.failures
    (writes_reported c.in-Err.why ∙ ap (λ (o : Over). write_failures (report_over o).cause) (sym c.from.ensures))

pub returns-in-Err-clause-read : goal.returns-in-Err-clause-read
returns-in-Err-clause-read g c =
    counted (g.C.Source.failures c.args.commands.now) (g.C.Source.failures c.lines.commands) (g.C.Source.failures c.take_turn.new.commands) (failures_at c.in-Err.why) (read_failures (report_over c.from.result).cause) c.lines.invariant.unread c.in-Err.ensures.failures
    (reads_reported c.in-Err.why ∙ ap (λ (o : Over). read_failures (report_over o).cause) (sym c.from.ensures))

pub returns-in-Err-clause-draws : goal.returns-in-Err-clause-draws
returns-in-Err-clause-draws g c = draws_on g.M.Device.Source.over g.M.Device.Source.handed (g.M.Stepper.work (machine_of c.args.session.now)) (g.M.Stepper.work (machine_of c.lines.session)) (g.M.Stepper.work (machine_of c.take_turn.new.session)) c.lines.invariant.draws c.take_turn.ensures.draws

-- the dialog is over by a reply
pub returns-in-Err-tell-clause-speaks : goal.returns-in-Err-tell-clause-speaks
returns-in-Err-tell-clause-speaks g c =
    speaks_read (Unit {0}) g.M.Stepper.may_be g.C.Source.may_give g.C.Source.handed g.W.Sink.may_hold (stand g.M.Stepper.position c.args.session.now) (stand g.M.Stepper.position c.take_turn.new.session) (machine_of c.take_turn.new.session) c.args.commands.now c.take_turn.new.commands c.args.sink.now c.tell.new.sink c.in-Err-tell.over g.met.C.Source.gives_some
    (told_over (Unit {0}) g.M.Stepper.may_be g.C.Source.may_give g.C.Source.handed g.W.Sink.may_hold (stand g.M.Stepper.position c.args.session.now) (stand g.M.Stepper.position c.lines.session) (machine_of c.args.session.now) (machine_of c.lines.session) c.args.commands.now c.lines.commands c.take_turn.new.commands c.lines.lines c.args.sink.now c.lines.sink c.lines.invariant.so c.in-Ok.ensures.takes.all c.in-Ok.ensures.takes.reads
    (machine_of c.take_turn.new.session) (stand g.M.Stepper.position c.take_turn.new.session) c.tell.new.sink c.in-Ok.ensures.takes.turn c.in-Ok.ensures.takes.count (g.M.Stepper.held (machine_of c.take_turn.new.session)).state.output c.in-Ok.reply c.in-Ok.ensures.takes.next c.take_turn.ensures.narrows c.in-Ok.ensures.takes.carries c.in-Err-tell.over c.in-Err-tell.ensures.told)

pub returns-in-Err-tell-clause-draws : goal.returns-in-Err-tell-clause-draws
returns-in-Err-tell-clause-draws g c = draws_on g.M.Device.Source.over g.M.Device.Source.handed (g.M.Stepper.work (machine_of c.args.session.now)) (g.M.Stepper.work (machine_of c.lines.session)) (g.M.Stepper.work (machine_of c.take_turn.new.session)) c.lines.invariant.draws c.take_turn.ensures.draws

pub returns-in-Err-tell-clause-failures : goal.returns-in-Err-tell-clause-failures
returns-in-Err-tell-clause-failures g c = counted (g.W.Sink.failures c.args.sink.now) (g.W.Sink.failures c.lines.sink) (g.W.Sink.failures c.tell.new.sink) (write_failures (report_over c.in-Err-tell.over).cause) (write_failures (report_over c.in-Err-tell.over).cause) c.lines.invariant.failures c.in-Err-tell.ensures.failures refl

pub returns-in-Err-tell-clause-read : goal.returns-in-Err-tell-clause-read
returns-in-Err-tell-clause-read g c = counted (g.C.Source.failures c.args.commands.now) (g.C.Source.failures c.lines.commands) (g.C.Source.failures c.take_turn.new.commands) 0 (read_failures (report_over c.in-Err-tell.over).cause) c.lines.invariant.unread c.in-Ok.ensures.unfailing (sym c.in-Err-tell.ensures.read)

-- the next line
pub lines-preserved : goal.lines-preserved
lines-preserved g c = record {
  so = answered (Unit {0}) g.M.Stepper.may_be g.C.Source.may_give g.C.Source.handed g.W.Sink.may_hold (stand g.M.Stepper.position c.args.session.now) (stand g.M.Stepper.position c.lines.session) (machine_of c.args.session.now) (machine_of c.lines.session) c.args.commands.now c.lines.commands c.take_turn.new.commands c.lines.lines c.args.sink.now c.lines.sink c.lines.invariant.so c.in-Ok.ensures.takes.all c.in-Ok.ensures.takes.reads
      (machine_of c.take_turn.new.session) (stand g.M.Stepper.position c.take_turn.new.session) c.tell.new.sink c.in-Ok.ensures.takes.turn c.in-Ok.ensures.takes.count (g.M.Stepper.held (machine_of c.take_turn.new.session)).state.output c.in-Ok.reply c.in-Ok.ensures.takes.next c.take_turn.ensures.narrows c.in-Ok.ensures.takes.carries c.take_turn.new.lines c.in-Ok.ensures.takes.within c.in-Ok.ensures.takes.left c.in-Ok.ensures.takes.taken c.in-Ok-tell.ensures.told;
  draws = draws_on g.M.Device.Source.over g.M.Device.Source.handed (g.M.Stepper.work (machine_of c.args.session.now)) (g.M.Stepper.work (machine_of c.lines.session)) (g.M.Stepper.work (machine_of c.take_turn.new.session)) c.lines.invariant.draws c.take_turn.ensures.draws;
  reported = c.in-Ok.ensures.reported;
  unfailed = c.in-Ok.ensures.unfailed;
  failures = counted (g.W.Sink.failures c.args.sink.now) (g.W.Sink.failures c.lines.sink) (g.W.Sink.failures c.tell.new.sink) 0 0 c.lines.invariant.failures c.in-Ok-tell.ensures.unfailing refl;
  unread = counted (g.C.Source.failures c.args.commands.now) (g.C.Source.failures c.lines.commands) (g.C.Source.failures c.take_turn.new.commands) 0 0 c.lines.invariant.unread c.in-Ok.ensures.unfailing refl;
}

pub lines-smaller : goal.lines-smaller
lines-smaller g c = omega (arith, c.in-Ok.ensures.takes.taken, c.in-Ok.ensures.few)
