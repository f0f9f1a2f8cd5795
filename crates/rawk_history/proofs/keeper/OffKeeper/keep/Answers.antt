use Rattle.std.proofs.Common.{[], ◌∷◌, refl}
use Rattle.rawk_history.specs.Steps.{Kept}
use Rattle.rawk_history.proofs.keeper.OffKeeper.keep.Goals as goal

pub returns-clause-did : goal.returns-clause-did
returns-clause-did c =
    let item : Kept = record { step = c.in_ok-_step._step; sets = c.args.sets.now.items } in
    record { item = item; back = c.in_ok-_step.ensures.back; fits = c.in_ok-_step.ensures.fits; once = c.in_ok-_step.ensures.once; sets = refl; front = record { rest = item ∷ []; is = refl }; count = refl }
