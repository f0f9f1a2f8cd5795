use Rattle.std.proofs.Common.{[], subst}
use Rattle.rawk_answers.specs.Works.{Draws}
use Rattle.rawk.specs.Staged.{Staged, work_of}
use Rattle.rawk.proofs.Stages.{stage_kept, draws_is}
use Rattle.rawk.proofs.stage.StageStepper.advance.Goals as goal

pub invariant_of-self : goal.invariant_of-self
invariant_of-self g c =
    let i = c.self.inside in
    stage_kept g.R.Source.may_give i.program i.machine c.advance.new.self c.self.invariant c.advance.ensures.code c.advance.ensures.limit (λ input m. c.advance.ensures.may [] input m) (λ input m k. c.advance.ensures.stood input m k)

pub returns-clause-draws : goal.returns-clause-draws
returns-clause-draws g c =
    subst (λ (s : Staged g.row.R.Denot). Draws g.R.Source.over g.R.Source.handed (work_of s.machine) (work_of c.advance.new.self)) c.self.view_is
    (draws_is g.R.Source.over g.R.Source.handed c.self.inside.machine c.advance.new.self c.advance.ensures.draws c.advance.ensures.ran)
