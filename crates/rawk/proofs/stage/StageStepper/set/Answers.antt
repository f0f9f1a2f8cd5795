use Rattle.std.proofs.Common.{[], ap, ◌∙◌}
use Rattle.rawk.specs.Staged.{Staged, work_of}
use Rattle.rawk.proofs.Stages.{stage_kept, set_work}
use Rattle.rawk.proofs.stage.StageStepper.set.Goals as goal

pub invariant_of-self : goal.invariant_of-self
invariant_of-self g c =
    let i = c.self.inside in
    stage_kept g.R.Source.may_give i.program i.machine c.set.new.self c.self.invariant c.set.ensures.code c.set.ensures.limit (λ input m. (c.set.ensures.may [] input).0 m) (λ input m k. c.set.ensures.stood input k)

pub returns-clause-idle : goal.returns-clause-idle
returns-clause-idle g c =
    let m = c.self.inside.machine in
    set_work c.set.result c.args.target c.args.value m c.set.new.self c.set.ensures.made c.set.ensures.err ∙ ap (λ (s : Staged g.row.R.Denot). work_of s.machine) c.self.view_is
