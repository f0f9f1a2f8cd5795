use Rattle.rawk.specs.Reports.{write_failures}
use Rattle.rawk.specs.Debugs.{asks_all}
use Rattle.rawk.proofs.Runs.{refused_writes, unchanged}
use Rattle.rawk.proofs.Sessions.{reported_refused, reported_unread}
use Rattle.rawk.proofs.debugging.debug_with.Goals as goal

-- no session is held
pub returns-in-Err-clause-reported : goal.returns-in-Err-clause-reported
returns-in-Err-clause-reported g c =
    reported_refused ⊥ g.R.Source.may_give g.R.Source.over g.R.Source.handed (asks_all c.args.commands.now) _ g.W.Sink.may_hold c.args.program.now c.args.settings.now c.args.source c.args.steps c.args.history c.args.sink.now c.in-Err.report tt c.in-Err.ensures.refused

pub returns-in-Err-clause-failures : goal.returns-in-Err-clause-failures
returns-in-Err-clause-failures g c = λ few. unchanged (g.W.Sink.failures c.args.sink.now) (write_failures c.in-Err.report.cause) (refused_writes c.args.program.now c.args.settings.now c.in-Err.report c.in-Err.ensures.refused)

-- a session is held over the program, or does not stand
pub returns-in-Ok-clause-reported : goal.returns-in-Ok-clause-reported
returns-in-Ok-clause-reported g c =
    reported_unread ⊥ g.R.Source.may_give g.R.Source.over g.R.Source.handed (asks_all c.args.commands.now) _ g.W.Sink.may_hold c.args.program.now c.args.settings.now c.args.source c.session_kept.result.source c.args.steps c.args.history c.args.sink.now c.session_kept.new.sink c.session_kept.result.report
    (c.session_kept.ensures.reported c.args.program.now c.in-Ok.ensures.ready)
