use Rattle.std.proofs.Common.{◌∙◌, sym}
use Rattle.rawk_ere_pattern.proofs.IntervalLemmas.{at_least_is, between_is}
use Rattle.rawk_ere_pattern.proofs.interval.with_comma.Goals as goal

pub returns-then-least-le255-clause-is : goal.returns-then-least-le255-clause-is
returns-then-least-le255-clause-is c = λ m e. at_least_is c.args.least m c.args.at c.args.pattern.now e c.if-least-le255.true (sym c.is_at.ensures ∙ c.if-is_at.true)

pub returns-clause-is : goal.returns-clause-is
returns-clause-is c = λ m e.
    between_is c.args.least c.digits-most.result.0 m c.args.at c.digits-most.result.1 c.args.pattern.now e c.digits-most.ensures.value c.digits-most.ensures.rest c.if-least-most.false c.if-most-gt255.false
    (sym c.is_at.ensures ∙ c.if-is_at.false) (sym c.digit_at.ensures ∙ c.if-not-digit_at.false) (sym c.is_at-2.ensures ∙ c.if-not-is_at.false)
