use Rattle.std.proofs.Common.{ℕ, Option, sym, ◌∙◌, ap, subst}
use Rattle.rawk_value.specs.declared.fault.Fault.TheVariants.{WriteFailed}
use Rattle.rawk.specs.declared.report.Cause.TheVariants as cause
use Rattle.rawk.specs.declared.report.Report.{Report}
use Rattle.rawk.specs.Reports.{stopped_by, write_failures}
use Rattle.rawk.specs.Runs.{Runs, refused_behind}
use Rattle.rawk.proofs.SoFar.{begun, none_counted, counted, settled, ended, not_written, paused_on, went_on, broke_off}
use Rattle.rawk.proofs.running.run_on.Goals as goal

pub steps-init : goal.steps-init
steps-init g c = record {
  so = begun g.R.Source.may_give g.R.Source.handed g.W.Sink.may_hold c.args.runner.now c.args.sink.now c.requires.fresh c.requires.stands c.requires.asked c.requires.still;
  failures = none_counted (g.W.Sink.failures c.args.sink.now);
}

-- the sink fails
pub returns-in-Err-clause-runs : goal.returns-in-Err-clause-runs
returns-in-Err-clause-runs g c =
    subst (λ (s : g.row.R.Denot). Runs g.R.Source.may_give g.R.Source.over g.R.Source.handed g.W.Sink.may_hold c.args.program.now c.args.runner.now s c.args.sink.now c.hand_on.new.sink c.stopped.result) (sym c.hand_on.ensures.source)
    (not_written g.R.Source.may_give g.R.Source.over g.R.Source.handed g.W.Sink.may_hold c.args.program.now c.args.runner.now c.args.sink.now c.steps.runner c.steps.sink c.hand_on.new.sink c.stopped.result
    c.steps.invariant.so c.output.ensures c.requires.compiled c.in-Err.ensures.err (ap (stopped_by (cause.Faulted WriteFailed)) (sym (c.point.ensures ∙ c.hand_on.ensures.point)) ∙ sym c.stopped.ensures))

pub returns-in-Err-clause-failures : goal.returns-in-Err-clause-failures
returns-in-Err-clause-failures g c =
    counted (g.W.Sink.failures c.args.sink.now) (g.W.Sink.failures c.steps.sink) (g.W.Sink.failures c.hand_on.new.sink) 1 (write_failures c.stopped.result.cause) c.steps.invariant.failures c.in-Err.ensures.failures
    (ap (λ (r : Report). write_failures r.cause) (sym c.stopped.ensures))

-- the machine is at its ending
pub returns-in-Some-clause-runs : goal.returns-in-Some-clause-runs
returns-in-Some-clause-runs g c =
    ended g.R.Source.may_give g.R.Source.over g.R.Source.handed g.W.Sink.may_hold c.args.program.now c.args.runner.now c.args.sink.now c.hand_on.new.runner c.hand_on.new.sink c.in-Some.report
    (settled g.R.Source.may_give g.R.Source.handed g.W.Sink.may_hold c.args.runner.now c.args.sink.now c.steps.runner c.hand_on.new.runner c.steps.sink c.hand_on.new.sink c.steps.invariant.so c.in-Ok.ensures.ok c.hand_on.ensures.source) c.requires.compiled c.in-Some.ensures.failed c.in-Some.ensures.report

pub returns-in-Some-clause-failures : goal.returns-in-Some-clause-failures
returns-in-Some-clause-failures g c =
    counted (g.W.Sink.failures c.args.sink.now) (g.W.Sink.failures c.steps.sink) (g.W.Sink.failures c.hand_on.new.sink) 0 (write_failures c.in-Some.report.cause) c.steps.invariant.failures c.in-Ok.ensures.failures (sym c.in-Some.ensures.failures)

-- memory is refused in a step
pub returns-in-Err-go_on-clause-runs : goal.returns-in-Err-go_on-clause-runs
returns-in-Err-go_on-clause-runs g c =
    let m = c.hand_on.new.runner in
    broke_off g.R.Source.may_give g.R.Source.over g.R.Source.handed g.W.Sink.may_hold g.W.Sink.failures c.args.program.now c.args.runner.now c.args.sink.now c.steps.runner m c.go_on.new.self c.hand_on.new.sink c.refused.result
    (paused_on g.R.Source.may_give g.R.Source.handed g.W.Sink.may_hold g.W.Sink.failures c.args.runner.now c.args.sink.now c.steps.runner m c.steps.sink c.hand_on.new.sink c.args.program.now.lines.items
    c.steps.invariant.so c.steps.invariant.failures c.in-Ok.ensures.ok c.hand_on.ensures.source c.in-Ok.ensures.failures c.in-None.ensures.report)
    c.output.ensures c.requires.compiled c.in-Err-go_on.ensures.off
    (ap (λ (k : ℕ). refused_behind c.args.program.now k c.go_on.new.self.site) (sym c.point-in-Err-go_on.ensures)
    ∙ ap (λ (s : Option ℕ). refused_behind c.args.program.now c.point-in-Err-go_on.result s) (sym c.site.ensures) ∙ sym c.refused.ensures)

pub returns-in-Err-go_on-clause-failures : goal.returns-in-Err-go_on-clause-failures
returns-in-Err-go_on-clause-failures g c =
    counted (g.W.Sink.failures c.args.sink.now) (g.W.Sink.failures c.steps.sink) (g.W.Sink.failures c.hand_on.new.sink) 0 (write_failures c.refused.result.cause) c.steps.invariant.failures c.in-Ok.ensures.failures
    (ap (λ (r : Report). write_failures r.cause) (sym c.refused.ensures))

pub steps-preserved : goal.steps-preserved
steps-preserved g c =
    let m = c.hand_on.new.runner in
    let p = paused_on g.R.Source.may_give g.R.Source.handed g.W.Sink.may_hold g.W.Sink.failures c.args.runner.now c.args.sink.now c.steps.runner m c.steps.sink c.hand_on.new.sink c.args.program.now.lines.items
    c.steps.invariant.so c.steps.invariant.failures c.in-Ok.ensures.ok c.hand_on.ensures.source c.in-Ok.ensures.failures c.in-None.ensures.report in
    record {
      so = (went_on g.R.Source.may_give g.R.Source.over g.R.Source.handed g.W.Sink.may_hold g.W.Sink.failures c.args.runner.now c.args.sink.now c.steps.runner m c.go_on.new.self c.hand_on.new.sink p (c.in-Ok-go_on.ensures.on p.going)).0;
      failures = p.failures;
    }

pub steps-smaller : goal.steps-smaller
steps-smaller g c =
    let m = c.hand_on.new.runner in
    let p = paused_on g.R.Source.may_give g.R.Source.handed g.W.Sink.may_hold g.W.Sink.failures c.args.runner.now c.args.sink.now c.steps.runner m c.steps.sink c.hand_on.new.sink c.args.program.now.lines.items
    c.steps.invariant.so c.steps.invariant.failures c.in-Ok.ensures.ok c.hand_on.ensures.source c.in-Ok.ensures.failures c.in-None.ensures.report in
    (went_on g.R.Source.may_give g.R.Source.over g.R.Source.handed g.W.Sink.may_hold g.W.Sink.failures c.args.runner.now c.args.sink.now c.steps.runner m c.go_on.new.self c.hand_on.new.sink p (c.in-Ok-go_on.ensures.on p.going)).1 c.go_on.ensures.within
