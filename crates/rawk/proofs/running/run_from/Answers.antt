use Rattle.rawk.specs.Reports.{write_failures}
use Rattle.rawk.specs.Tells.{ran}
use Rattle.rawk.proofs.Runs.{reported_refused, refused_writes, unchanged}
use Rattle.rawk.proofs.running.run_from.Goals as goal

-- nothing runs
pub returns-in-Err-clause-reported : goal.returns-in-Err-clause-reported
returns-in-Err-clause-reported g c =
    reported_refused g.R.Source.may_give g.R.Source.over g.R.Source.handed g.W.Sink.may_hold c.args.program.now c.args.settings.now c.args.source c.args.steps c.args.sink.now c.in-Err.report (g.met.R.Source.gives_some c.args.source) c.first_output.ensures c.in-Err.ensures.refused

pub returns-in-Err-clause-failures : goal.returns-in-Err-clause-failures
returns-in-Err-clause-failures g c = λ few.
    unchanged (g.W.Sink.failures c.args.sink.now) (write_failures c.in-Err.report.cause) (refused_writes c.args.program.now c.args.settings.now c.in-Err.report c.in-Err.ensures.refused)

-- the program runs
pub returns-in-Ok-clause-reported : goal.returns-in-Ok-clause-reported
returns-in-Ok-clause-reported g c = ran c.in-Ok.prepared.program c.run_prepared.result.report c.in-Ok.ensures.ready.found c.in-Ok.ensures.ready.fits c.run_prepared.ensures.ran
