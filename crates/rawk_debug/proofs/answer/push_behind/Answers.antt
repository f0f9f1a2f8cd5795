use Rattle.std.proofs.Common.{◌≡◌, ◌++◌, OnOk, subst, sym}
use Rattle.rawk_debug.specs.declared.answer.Answer.{Answer}
use Rattle.rawk_debug.specs.Answers.{behind_shown}
use Rattle.rawk_debug.specs.Sessions.{stand}
use Rattle.rawk_debug.proofs.answer.push_behind.Goals as goal

pub returns-in-TakenBack : goal.returns-in-TakenBack
returns-in-TakenBack g c =
    let machine = c.args.session.now.machine in
    subst (λ (a : Answer). OnOk c.push_text-in-TakenBack.result (c.push_text-in-TakenBack.new.out.items ≡ c.args.out.now.items ++ behind_shown (stand g.M.Stepper.position c.args.session.now) (g.M.Stepper.held machine) (g.M.Stepper.before machine) a))
    (sym c.in-TakenBack.is) c.push_text-in-TakenBack.ensures
