use Rattle.std.proofs.Common.{◌∙◌, [], ap}
use Rattle.rawk_machine.specs.Standing.{Standing}
use Rattle.rawk_answers.specs.Positions.{has_set_at}
use Rattle.rawk.specs.Staged.{Staged, work_of}
use Rattle.rawk.proofs.Stages.{stage_kept, unset_work, unset_code, unset_limit, has_by}
use Rattle.rawk.proofs.stage.StageStepper.take_back.Goals as goal

pub invariant_of-self : goal.invariant_of-self
invariant_of-self g c =
    let i = c.self.inside in
    let m = i.machine in
    let e = c.take_back.ensures in
    stage_kept g.R.Source.may_give i.program m c.take_back.new.self c.self.invariant (ap (λ (x : Standing g.row.R.Denot). x.code) e.back ∙ unset_code m.unset m) (ap (λ (x : Standing g.row.R.Denot). x.limit) e.back ∙ unset_limit m.unset m)
    (λ input h. (e.may [] input).0 h) (λ input h k. e.stood input k)

pub returns-clause-result : goal.returns-clause-result
returns-clause-result g c =
    let m = c.self.inside.machine in
    c.take_back.ensures.taken ∙ has_by m.point m.sets m.unset c.known.ensures.made ∙ ap (λ (s : Staged g.row.R.Denot). has_set_at s.machine.point s.machine.sets) c.self.view_is

pub returns-clause-idle : goal.returns-clause-idle
returns-clause-idle g c =
    let m = c.self.inside.machine in
    ap work_of c.take_back.ensures.back ∙ unset_work m.unset m ∙ ap (λ (s : Staged g.row.R.Denot). work_of s.machine) c.self.view_is
