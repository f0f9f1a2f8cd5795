use Rattle.std.proofs.Common.{sym, subst}
use Rattle.rawk_code.specs.Correct.{CodeOf}
use Rattle.rawk.specs.Runs.{IsRun}
use Rattle.rawk.proofs.Runs.{run_is, unstood_is}
use Rattle.rawk.proofs.running.run_prepared.Goals as goal

pub run_on-report-requires-clause-compiled : goal.run_on-report-requires-clause-compiled
run_on-report-requires-clause-compiled g c = subst (λ code. CodeOf c.args.prepared.program code) (sym c.in-Ok.ensures.code) c.requires.compiled

pub returns-clause-ran : goal.returns-clause-ran
returns-clause-ran g c =
    subst (λ (s : g.row.R.Denot). IsRun g.R.Source.may_give g.R.Source.over g.R.Source.handed g.W.Sink.may_hold c.args.prepared.program c.args.settings.now c.args.source s c.args.steps c.args.sink.now c.run_on-report.new.sink c.run_on-report.result) (sym c.into_source-source.ensures)
    (run_is g.R.Source.may_give g.R.Source.over g.R.Source.handed g.W.Sink.may_hold c.args.prepared.program c.args.settings.now c.args.source c.args.steps c.in-Ok.runner c.run_on-report.new.runner.tape.source c.args.sink.now c.run_on-report.new.sink c.run_on-report.result
    c.in-Ok.ensures.settings c.in-Ok.ensures.sets c.in-Ok.ensures.steps (subst (λ code. CodeOf c.args.prepared.program code) (sym c.in-Ok.ensures.code) c.requires.compiled) c.in-Ok.ensures.may c.in-Ok.ensures.counted c.run_on-report.ensures.runs)

pub returns-in-Err-clause-ran : goal.returns-in-Err-clause-ran
returns-in-Err-clause-ran g c =
    unstood_is g.R.Source.may_give g.R.Source.over g.R.Source.handed g.W.Sink.may_hold c.args.prepared.program c.args.settings.now c.args.source c.in-Err.source c.args.steps c.args.sink.now c.args.prepared.code c.stopped.result
    (g.met.R.Source.gives_some c.in-Err.source) c.first_output.ensures c.requires.compiled c.in-Err.ensures.err c.stopped.ensures
