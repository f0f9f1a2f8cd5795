-- The run ends at the first byte that is no digit, or at the text's end.
use Rattle.std.proofs.Common.{◌≡◌, length, ap, sym, below_more, arith, ◌∙◌}
use Rattle.rawk_value.specs.Scans.{held}
use Rattle.rawk_value.proofs.Fronts.{digits_value_step, digits_end, size_end}
use Rattle.rawk_value.proofs.scan.digits.Goals as goal

pub returns-then-not-is_digit-clause-len : goal.returns-then-not-is_digit-clause-len
returns-then-not-is_digit-clause-len c =
    digits_end c.args.text.now c.loop-i.i (omega arith) c.loop-i.invariant.passed (λ _. sym c.is_digit.ensures ∙ c.if-not-is_digit.true)

pub returns-then-not-is_digit-clause-size : goal.returns-then-not-is_digit-clause-size
returns-then-not-is_digit-clause-size c =
    let e = digits_end c.args.text.now c.loop-i.i (omega arith) c.loop-i.invariant.passed (λ _. sym c.is_digit.ensures ∙ c.if-not-is_digit.true) in
    size_end c.args.text.now c.loop-i.i c.loop-i.size e c.loop-i.invariant.size

pub loop-i-preserved : goal.loop-i-preserved
loop-i-preserved c =
    let digit = sym c.is_digit.ensures ∙ c.if-not-is_digit.false in
    record {
      passed = below_more _ _ c.loop-i.invariant.passed digit;
      size = c.with_digit-size.ensures _ c.loop-i.invariant.size ∙ ap held (sym (digits_value_step c.args.text.now c.loop-i.i c.loop-i-test.true digit));
    }

pub returns-clause-len : goal.returns-clause-len
returns-clause-len c =
    let e : length c.args.text.now ≡ c.loop-i.i = omega arith in
    e ∙ digits_end c.args.text.now c.loop-i.i (omega arith) c.loop-i.invariant.passed (λ h. absurd (omega arith))

pub returns-clause-size : goal.returns-clause-size
returns-clause-size c =
    let e = digits_end c.args.text.now c.loop-i.i (omega arith) c.loop-i.invariant.passed (λ h. absurd (omega arith)) in
    size_end c.args.text.now c.loop-i.i c.loop-i.size e c.loop-i.invariant.size
