use Rattle.std.proofs.Common.{◌∙◌, sym, subst, drop}
use Rattle.rawk_ere_pattern.specs.Pattern.{IsBraceAt, digits_from}
use Rattle.rawk_ere_pattern.proofs.IntervalLemmas.{exactly_is, comma_is}
use Rattle.rawk_ere_pattern.proofs.interval.brace_at.Goals as goal

pub returns-then-least-le255-clause-is : goal.returns-then-least-le255-clause-is
returns-then-least-le255-clause-is c =
    exactly_is c.digits-least.result.0 c.args.at c.digits-least.result.1 c.args.pattern.now c.digits-least.ensures.value c.digits-least.ensures.rest c.if-least-le255.true
    (sym c.digit_at.ensures ∙ c.if-not-digit_at.false) (sym c.is_at.ensures ∙ c.if-is_at.true)

pub returns-then-is_at-2-clause-is : goal.returns-then-is_at-2-clause-is
returns-then-is_at-2-clause-is c =
    let p = c.args.pattern.now in
    subst (λ b. IsBraceAt p c.with_comma.result b)
    (comma_is c.args.at c.digits-least.result.1 p c.digits-least.ensures.rest (sym c.digit_at.ensures ∙ c.if-not-digit_at.false) (sym c.is_at.ensures ∙ c.if-is_at.false) (sym c.is_at-2.ensures ∙ c.if-is_at-2.true))
    (c.with_comma.ensures.is (digits_from 0 (drop c.args.at p)).0 c.digits-least.ensures.value)
