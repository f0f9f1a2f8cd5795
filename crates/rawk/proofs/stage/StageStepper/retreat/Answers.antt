use Rattle.std.proofs.Common.{◌∙◌, [], ap}
use Rattle.rawk_machine.specs.Standing.{Standing}
use Rattle.rawk.specs.Staged.{Staged, work_of}
use Rattle.rawk.proofs.Stages.{stage_kept, back_work, back_code, back_limit}
use Rattle.rawk.proofs.stage.StageStepper.retreat.Goals as goal

pub invariant_of-self : goal.invariant_of-self
invariant_of-self g c =
    let i = c.self.inside in
    let m = i.machine in
    let e = c.retreat.ensures in
    stage_kept g.R.Source.may_give i.program m c.retreat.new.self c.self.invariant (ap (λ (x : Standing g.row.R.Denot). x.code) e.back ∙ back_code m.history m) (ap (λ (x : Standing g.row.R.Denot). x.limit) e.back ∙ back_limit m.history m)
    (λ input h. (e.may [] input).0 h) (λ input h k. e.stood input k)

pub returns-clause-idle : goal.returns-clause-idle
returns-clause-idle g c =
    let m = c.self.inside.machine in
    ap work_of c.retreat.ensures.back ∙ back_work m.history m ∙ ap (λ (s : Staged g.row.R.Denot). work_of s.machine) c.self.view_is
