use Rattle.std.proofs.Common.{◌≡◌, ◌∙◌, [], length, Option, Some, ap, sym, subst, arith}
use Rattle.rawk_machine.specs.Standing.{MayCome, step_of}
use Rattle.rawk_machine.specs.InTrace.{exactly_in_trace}
use Rattle.rawk_answers.specs.Positions.{IsPosition, Stands}
use Rattle.rawk.specs.Staged.{Staged, position_of, held_of}
use Rattle.rawk_devices.specs.declared.source.Ending.TheVariants.{Failed}
use Rattle.rawk_code.specs.Actions.{Ending}
use Rattle.rawk_answers.specs.Works.{read_failed}
use Rattle.rawk.proofs.Stages.{raised_few, upto_all, stands_in, comes_behind}
use Rattle.rawk.proofs.stage.StageStepper.known.Goals as goal

pub returns-clause-position : goal.returns-clause-position
returns-clause-position g c =
    let m = c.self.inside.machine in
    subst (λ (s : Staged g.row.R.Denot). IsPosition (position_of s.program s.machine)) c.self.view_is (record {
      within = c.known.ensures.within;
      kept = omega (arith, c.known.ensures.back);
      few = raised_few m.limit m.point (length m.history) c.known.ensures.few;
      past = upto_all m.point m.sets c.known.ensures.sets;
    })

pub returns-clause-some : goal.returns-clause-some
returns-clause-some g c =
    let k = c.known.ensures.still [] in
    (k.0, subst (λ (s : Staged g.row.R.Denot). MayCome g.R.Source.may_give s.machine [] k.0) c.self.view_is k.1)

pub returns-clause-stands : goal.returns-clause-stands
returns-clause-stands g c = λ input may.
    let m = c.self.inside.machine in
    let p = c.self.inside.program in
    let come = subst (λ (s : Staged g.row.R.Denot). MayCome g.R.Source.may_give s.machine [] input) (sym c.self.view_is) may in
    subst (λ (s : Staged g.row.R.Denot). Stands input (position_of s.program s.machine) (held_of s.machine)) c.self.view_is
    (stands_in p m input (exactly_in_trace p m input c.self.invariant.compiled (c.self.invariant.stood input come).now))

pub returns-clause-comes : goal.returns-clause-comes
returns-clause-comes g c = λ rest come. comes_behind g.R.Source.may_give c.args.self.now.machine rest come

pub returns-clause-read_failed : goal.returns-clause-read_failed
returns-clause-read_failed g c = λ is.
    let m = c.self.inside.machine in
    let same : m.ending ≡ Some read_failed = ap (λ (s : Staged g.row.R.Denot). s.machine.ending) c.self.view_is ∙ is in
    subst (λ (s : Staged g.row.R.Denot). g.R.Source.over s.machine.tape.source ≡ Some Failed) c.self.view_is
    (c.step.ensures.read_failed (c.step.ensures.answer ∙ ap (λ (o : Option Ending). step_of o m.state.status) same))
