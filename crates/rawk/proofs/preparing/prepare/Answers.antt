use Rattle.std.proofs.Common.{sym, subst, ◌∙◌}
use Rattle.rawk.specs.declared.report.Report.{Report}
use Rattle.rawk.specs.Preparing.{IsRefused, text_refused, settings_refused, not_compiled}
use Rattle.rawk.proofs.preparing.prepare.Goals as goal

-- the text is refused
pub returns-in-Err-clause-refused : goal.returns-in-Err-clause-refused
returns-in-Err-clause-refused c =
    subst (λ (r : Report). IsRefused c.args.text.now c.args.settings.now r) (sym c.text_refused.ensures) (text_refused c.in-Err.refusal (record { exact = c.in-Err.ensures.exact; derived = c.in-Err.ensures.derived }))

-- the first values are refused
pub returns-then-not-fits-clause-refused : goal.returns-then-not-fits-clause-refused
returns-then-not-fits-clause-refused c =
    subst (λ (r : Report). IsRefused c.args.text.now c.args.settings.now r) (sym c.stopped.ensures) (settings_refused c.in-Ok.program c.in-Ok.ensures.found (sym c.fits.ensures ∙ c.if-not-fits.true))

-- memory is refused
pub returns-in-Err-compile-clause-refused : goal.returns-in-Err-compile-clause-refused
returns-in-Err-compile-clause-refused c =
    subst (λ (r : Report). IsRefused c.args.text.now c.args.settings.now r) (sym c.stopped-in-Err-compile.ensures) (not_compiled c.in-Ok.program c.in-Ok.ensures.found (sym c.fits.ensures ∙ c.if-not-fits.false))

pub returns-in-Ok-compile-clause-ready : goal.returns-in-Ok-compile-clause-ready
returns-in-Ok-compile-clause-ready c = record { found = c.in-Ok.ensures.found; fits = sym c.fits.ensures ∙ c.if-not-fits.false; compiled = c.in-Ok-compile.ensures.meaning }
