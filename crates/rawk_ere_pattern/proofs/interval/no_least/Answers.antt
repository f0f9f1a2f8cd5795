use Rattle.std.proofs.Common.{◌+◌, ◌∙◌, sym, ap, refl, drop, true, false}
use Rattle.rawk_ere_pattern.specs.Pattern.{begins, digits_from}
use Rattle.rawk_ere_pattern.proofs.IntervalLemmas.{without_is}
use Rattle.rawk_ere_pattern.proofs.interval.no_least.Goals as goal

pub returns-then-not-digit_at-clause-is : goal.returns-then-not-digit_at-clause-is
returns-then-not-digit_at-clause-is c =
    without_is c.args.at c.args.pattern.now true false (begins 125 (digits_from 0 (drop (c.args.at + 1) c.args.pattern.now)).1) (sym c.is_at.ensures ∙ c.if-not-is_at.false) (sym c.digit_at.ensures ∙ c.if-not-digit_at.true) refl

pub returns-then-is_at-clause-is : goal.returns-then-is_at-clause-is
returns-then-is_at-clause-is c =
    without_is c.args.at c.args.pattern.now true true true (sym c.is_at.ensures ∙ c.if-not-is_at.false) (sym c.digit_at.ensures ∙ c.if-not-digit_at.false)
    (sym (ap (begins 125) c.digits-most.ensures.rest) ∙ sym c.is_at-2.ensures ∙ c.if-is_at.true)

pub returns-else-is_at-clause-is : goal.returns-else-is_at-clause-is
returns-else-is_at-clause-is c =
    without_is c.args.at c.args.pattern.now true true false (sym c.is_at.ensures ∙ c.if-not-is_at.false) (sym c.digit_at.ensures ∙ c.if-not-digit_at.false)
    (sym (ap (begins 125) c.digits-most.ensures.rest) ∙ sym c.is_at-2.ensures ∙ c.if-is_at.false)
