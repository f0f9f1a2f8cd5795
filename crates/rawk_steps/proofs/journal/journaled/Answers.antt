use Rattle.std.proofs.Common.{sym, subst, refl}
use Rattle.rawk_history.specs.Keeping.{keeps_any}
use Rattle.rawk_store.specs.Layout.{Layout}
use Rattle.rawk_store.specs.Stores.{start_of}
use Rattle.rawk_steps.specs.Closing.{Closes}
use Rattle.rawk_steps.proofs.journal.journaled.Goals as goal

pub returns-in-Ok-clause-kept : goal.returns-in-Ok-clause-kept
returns-in-Ok-clause-kept g c =
    let limit = g.K.Keeper.limit c.args.keeper.now in (
      start_of c.step.new.store,
      c.in_ok-step.ensures.start,
      subst (λ (l : Layout). Closes (keeps_any limit) (start_of c.step.new.store) l (g.K.Keeper.kept c.args.keeper.now) (g.K.Keeper.kept c.close.new.keeper) c.args.here.now.items limit) (sym c.in-Ok.ensures.now) c.in-Ok.ensures.kept,
    )

pub returns-in_err-step-clause-may : goal.returns-in_err-step-clause-may
returns-in_err-step-clause-may g c = c.step.ensures.may

pub returns-in_err-step-clause-asks : goal.returns-in_err-step-clause-asks
returns-in_err-step-clause-asks g c = c.step.ensures.asks

pub returns-in_err-step-clause-draws : goal.returns-in_err-step-clause-draws
returns-in_err-step-clause-draws g c = c.step.ensures.draws

pub returns-in_err-step-clause-consumed : goal.returns-in_err-step-clause-consumed
returns-in_err-step-clause-consumed g c = c.step.ensures.consumed

pub returns-in_err-step-clause-counted : goal.returns-in_err-step-clause-counted
returns-in_err-step-clause-counted g c = c.step.ensures.counted

pub returns-in_err-step-clause-risen : goal.returns-in_err-step-clause-risen
returns-in_err-step-clause-risen g c = c.step.ensures.risen

pub returns-in_err-step-clause-rest : goal.returns-in_err-step-clause-rest
returns-in_err-step-clause-rest g c = c.in_err-step.ensures.rest

pub returns-in_err-step-clause-sound : goal.returns-in_err-step-clause-sound
returns-in_err-step-clause-sound g c = c.in_err-step.ensures.sound

pub returns-in_err-step-clause-limit : goal.returns-in_err-step-clause-limit
returns-in_err-step-clause-limit g c = refl

pub returns-in-Ok-clause-may : goal.returns-in-Ok-clause-may
returns-in-Ok-clause-may g c = c.step.ensures.may

pub returns-in-Ok-clause-asks : goal.returns-in-Ok-clause-asks
returns-in-Ok-clause-asks g c = c.step.ensures.asks

pub returns-in-Ok-clause-draws : goal.returns-in-Ok-clause-draws
returns-in-Ok-clause-draws g c = c.step.ensures.draws

pub returns-in-Ok-clause-counted : goal.returns-in-Ok-clause-counted
returns-in-Ok-clause-counted g c = c.step.ensures.counted

pub returns-in-Ok-clause-risen : goal.returns-in-Ok-clause-risen
returns-in-Ok-clause-risen g c = c.step.ensures.risen

pub returns-in-Ok-clause-rest : goal.returns-in-Ok-clause-rest
returns-in-Ok-clause-rest g c = c.close.ensures.rest

pub returns-in-Ok-clause-sound : goal.returns-in-Ok-clause-sound
returns-in-Ok-clause-sound g c = c.close.ensures.sound

pub returns-in-Ok-clause-limit : goal.returns-in-Ok-clause-limit
returns-in-Ok-clause-limit g c = c.close.ensures.limit

pub returns-in-Ok-clause-here : goal.returns-in-Ok-clause-here
returns-in-Ok-clause-here g c = c.in-Ok.ensures.here

pub returns-in-Err-clause-rest : goal.returns-in-Err-clause-rest
returns-in-Err-clause-rest g c = c.close.ensures.rest

pub returns-in-Err-clause-sound : goal.returns-in-Err-clause-sound
returns-in-Err-clause-sound g c = c.close.ensures.sound

pub returns-in-Err-clause-limit : goal.returns-in-Err-clause-limit
returns-in-Err-clause-limit g c = c.close.ensures.limit

pub returns-in-Err-clause-same : goal.returns-in-Err-clause-same
returns-in-Err-clause-same g c = c.in-Err.ensures.same

pub returns-in-Err-clause-forth : goal.returns-in-Err-clause-forth
returns-in-Err-clause-forth g c = c.in-Err.ensures.forth

pub returns-in-Err-clause-stays : goal.returns-in-Err-clause-stays
returns-in-Err-clause-stays g c = c.in-Err.ensures.stays

pub returns-in-Err-clause-counted : goal.returns-in-Err-clause-counted
returns-in-Err-clause-counted g c = c.step.ensures.counted

pub returns-in-Err-clause-risen : goal.returns-in-Err-clause-risen
returns-in-Err-clause-risen g c = c.step.ensures.risen
