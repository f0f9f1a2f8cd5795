use Rattle.std.proofs.Common.{◌≡◌, inr, refl, sym, subst}
use Rattle.rawk_answers.specs.Positions.{Position}
use Rattle.rawk.specs.declared.report.Report.{Report}
use Rattle.rawk.specs.Dialogs.{IsHeld}
use Rattle.rawk.specs.Debugs.{Debugs, held, never_stood, stand_at}
use Rattle.rawk.proofs.debugging.session_over.Goals as goal

-- memory is refused for the machine
pub returns-in-Err-clause-reported : goal.returns-in-Err-clause-reported
returns-in-Err-clause-reported g c = λ text ready.
    subst (λ (r : Report). Debugs g.D.Dialog.is_read g.R.Source.may_give g.R.Source.over g.R.Source.handed (g.D.Dialog.asks c.args.dialog c.args.commands.now c.args.commands.now) (c.args.commands.now ≡ c.args.commands.now) g.W.Sink.may_hold text c.args.settings.now c.args.source c.in-Err.source c.args.steps (g.K.Keeper.limit c.args.keeper) c.args.sink.now c.args.sink.now r)
    (sym c.stopped-report.ensures) (never_stood c.args.prepared.program ready.found ready.fits (inr c.in-Err.ensures.err) refl refl)

pub returns-in-Ok-clause-reported : goal.returns-in-Ok-clause-reported
returns-in-Ok-clause-reported g c = λ text ready.
    let is = subst (λ (p : Position). IsHeld g.D.Dialog.is_read g.R.Source.may_give g.R.Source.over g.R.Source.handed (g.D.Dialog.asks c.args.dialog c.args.commands.now c.session_on-held.new.commands) g.W.Sink.may_hold c.args.source c.session_on-held.result.source (stand_at p) c.args.sink.now c.session_on-held.new.sink c.session_on-held.result.over)
    c.in-Ok.ensures.position (c.session_on-held.ensures.held c.args.source c.in-Ok.ensures.reads) in
    subst (λ (r : Report). Debugs g.D.Dialog.is_read g.R.Source.may_give g.R.Source.over g.R.Source.handed (g.D.Dialog.asks c.args.dialog c.args.commands.now c.session_on-held.new.commands) (c.session_on-held.new.commands ≡ c.args.commands.now) g.W.Sink.may_hold text c.args.settings.now c.args.source c.session_on-held.result.source c.args.steps (g.K.Keeper.limit c.args.keeper) c.args.sink.now c.session_on-held.new.sink r)
    (sym c.report_of-report.ensures) (held c.args.prepared.program c.session_on-held.result.over ready.found ready.fits is)
