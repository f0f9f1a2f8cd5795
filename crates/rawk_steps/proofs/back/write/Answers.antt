use Rattle.std.proofs.Common.{List, [], ◌∷◌, ◌++◌, ap, sym, subst, ◌∙◌}
use Rattle.rawk_store.specs.Groups.{Group}
use Rattle.rawk_store.specs.Layout.{Layout, Grown}
use Rattle.rawk_store.specs.Growth.{Grown-then_same}
use Rattle.rawk_store.specs.Stores.{now_of, start_of}
use Rattle.rawk_store.specs.GroupBack.{FitsIn, put_back}
use Rattle.rawk_steps.proofs.back.write.Goals as goal

pub returns-in_ok-push-in-Ok-clause-back : goal.returns-in_ok-push-in-Ok-clause-back
returns-in_ok-push-in-Ok-clause-back c =
    let g = c.in-Ok.group in (
      g,
      c.in_ok-push-in-Ok.ensures.items ∙ ap (λ (gs : List Group). gs ++ g ∷ []) c.reserve.ensures.items,
      subst (λ (l : Layout). Grown l (put_back (now_of c.finish.new.self) g)) c.requires.rest
          (Grown-then_same (start_of c.args.store.now) (start_of c.assign.new.self) (put_back (now_of c.finish.new.self) g) c.assign.ensures.start
          (ap (λ (l : Layout). put_back l g) c.finish.ensures.now ∙ c.in-Ok.ensures.back)),
      subst (λ (l : Layout). FitsIn g l) (sym c.finish.ensures.now) c.in-Ok.ensures.fits,
    )
