use Rattle.std.proofs.Common.{◌≡◌, ℕ, [], true, sym, ap, ◌∙◌, subst, Option}
use Rattle.rawk_code.specs.Correct.{CodeOf}
use Rattle.rawk_history.specs.Keeping.{keeps_any}
use Rattle.rawk_machine.specs.Standing.{MayCome}
use Rattle.rawk.specs.Staged.{Staged, position_of, work_of}
use Rattle.rawk.specs.Reads.{ReadsOf}
use Rattle.rawk.proofs.Runs.{unstood_took}
use Rattle.rawk.proofs.Sessions.{position_first}
use Rattle.rawk.proofs.debugging.stage_of.Goals as goal

pub new-requires-in-Ok : goal.new-requires-in-Ok
new-requires-in-Ok g c = record {
  compiled = subst (λ x. CodeOf c.args.prepared.program x) (sym c.in-Ok.ensures.code) c.requires.compiled;
  keeps = subst (λ (l : Option ℕ). keeps_any l ≡ true) (sym c.in-Ok.ensures.limit) c.requires.keeps;
  stood = c.in-Ok.ensures.stood;
}

pub returns-in-Ok-clause-position : goal.returns-in-Ok-clause-position
returns-in-Ok-clause-position g c =
    ap (λ (s : Staged g.row.R.Denot). position_of s.program s.machine) c.new-in-Ok.ensures
    ∙ position_first c.args.prepared.program c.in-Ok.machine c.args.settings.now c.args.steps (g.K.Keeper.limit c.args.keeper) c.in-Ok.ensures.settings c.in-Ok.ensures.steps c.in-Ok.ensures.limit c.in-Ok.ensures.point c.in-Ok.ensures.sets c.in-Ok.ensures.history

pub returns-in-Ok-clause-reads : goal.returns-in-Ok-clause-reads
returns-in-Ok-clause-reads g c =
    subst (λ (s : Staged g.row.R.Denot). ReadsOf g.R.Source.may_give g.R.Source.handed (MayCome g.R.Source.may_give s.machine []) (work_of s.machine) c.args.source) (sym c.new-in-Ok.ensures) (record { given = c.in-Ok.ensures.may; counted = c.in-Ok.ensures.counted })

-- memory is refused
pub returns-in-Err-clause-err : goal.returns-in-Err-clause-err
returns-in-Err-clause-err g c =
    unstood_took g.R.Source.may_give g.R.Source.over g.R.Source.handed c.args.prepared.program c.args.settings.now c.args.source c.in-Err.source c.args.steps c.args.prepared.code (g.met.R.Source.gives_some c.in-Err.source) c.requires.compiled c.in-Err.ensures.err
