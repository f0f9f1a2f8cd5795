use Rattle.std.proofs.Common.{◌≡◌, ℕ, sym, ap, ◌∙◌, subst, Option, Some}
use Rattle.rawk_history.specs.Parts.{KeepingLast}
use Rattle.rawk.specs.Debugs.{Debugs}
use Rattle.rawk.proofs.debugging.session_kept.Goals as goal

pub returns-in-None-clause-reported : goal.returns-in-None-clause-reported
returns-in-None-clause-reported g c = λ text ready.
    subst (λ (o : Option ℕ). Debugs g.D.Dialog.is_read g.R.Source.may_give g.R.Source.over g.R.Source.handed (g.D.Dialog.asks c.args.dialog c.args.commands.now c.session_over.new.commands) (c.session_over.new.commands ≡ c.args.commands.now) g.W.Sink.may_hold text c.args.settings.now c.args.source c.session_over.result.source c.args.steps o c.args.sink.now c.session_over.new.sink c.session_over.result.report)
    (sym c.in-None.is) (c.session_over.ensures.reported text ready)

pub returns-in-Some-clause-reported : goal.returns-in-Some-clause-reported
returns-in-Some-clause-reported g c = λ text ready.
    subst (λ (o : Option ℕ). Debugs g.D.Dialog.is_read g.R.Source.may_give g.R.Source.over g.R.Source.handed (g.D.Dialog.asks c.args.dialog c.args.commands.now c.session_over-in-Some.new.commands) (c.session_over-in-Some.new.commands ≡ c.args.commands.now) g.W.Sink.may_hold text c.args.settings.now c.args.source c.session_over-in-Some.result.source c.args.steps o c.args.sink.now c.session_over-in-Some.new.sink c.session_over-in-Some.result.report)
    (ap (λ (k : KeepingLast). Some k.history) c.new-ring.ensures ∙ sym c.in-Some.is) (c.session_over-in-Some.ensures.reported text ready)
