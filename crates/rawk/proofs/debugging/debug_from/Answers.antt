use Rattle.std.proofs.Common.{◌≡◌, inl, refl, sym, subst}
use Rattle.rawk.specs.declared.report.Report.{Report}
use Rattle.rawk.specs.Reads.{WasRead}
use Rattle.rawk.specs.Debugs.{Debugs, never_stood}
use Rattle.rawk.specs.Reports.{read_failures, write_failures}
use Rattle.rawk.proofs.Runs.{refused_reads, refused_writes, unchanged}
use Rattle.rawk.proofs.Sessions.{reported_refused}
use Rattle.rawk.proofs.debugging.debug_from.Goals as goal

-- no session is held
pub returns-in-Err-clause-reported : goal.returns-in-Err-clause-reported
returns-in-Err-clause-reported g c =
    reported_refused (Unit {0}) g.R.Source.may_give g.R.Source.over g.R.Source.handed (WasRead g.C.Source.may_give g.C.Source.handed c.args.commands.now c.args.commands.now) _ g.W.Sink.may_hold c.args.program.now c.args.settings.now c.args.source c.args.steps c.args.history c.args.sink.now c.in-Err.report refl c.in-Err.ensures.refused

pub returns-in-Err-clause-failures : goal.returns-in-Err-clause-failures
returns-in-Err-clause-failures g c = λ few. unchanged (g.W.Sink.failures c.args.sink.now) (write_failures c.in-Err.report.cause) (refused_writes c.args.program.now c.args.settings.now c.in-Err.report c.in-Err.ensures.refused)

pub returns-in-Err-clause-read : goal.returns-in-Err-clause-read
returns-in-Err-clause-read g c = λ few. unchanged (g.C.Source.failures c.args.commands.now) (read_failures c.in-Err.report.cause) (refused_reads c.args.program.now c.args.settings.now c.in-Err.report c.in-Err.ensures.refused)

-- memory is refused for the commands
pub returns-in-Err-new-clause-reported : goal.returns-in-Err-new-clause-reported
returns-in-Err-new-clause-reported g c =
    subst (λ (r : Report). Debugs (Unit {0}) g.R.Source.may_give g.R.Source.over g.R.Source.handed (WasRead g.C.Source.may_give g.C.Source.handed c.args.commands.now c.args.commands.now) (c.args.commands.now ≡ c.args.commands.now) g.W.Sink.may_hold c.args.program.now c.args.settings.now c.args.source c.args.source c.args.steps c.args.history c.args.sink.now c.args.sink.now r)
    (sym c.stopped-report.ensures) (never_stood c.in-Ok.prepared.program c.in-Ok.ensures.ready.found c.in-Ok.ensures.ready.fits (inl refl) refl refl)

-- a session is held over the program, or does not stand
pub returns-in-Ok-new-clause-reported : goal.returns-in-Ok-new-clause-reported
returns-in-Ok-new-clause-reported g c = c.session_kept.ensures.reported c.args.program.now c.in-Ok.ensures.ready
