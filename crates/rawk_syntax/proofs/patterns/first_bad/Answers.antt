use Rattle.std.proofs.Common.{◌≡◌, ◌<◌, false, length, arith}
use Rattle.std.proofs.lemmas.Grind.{common_steps}
use Rattle.rawk_syntax.proofs.BadPatterns.{bad_at}
use Rattle.rawk_syntax.proofs.patterns.first_bad.Goals as goal

pub returns-then-not-branch : goal.returns-then-not-branch
returns-then-not-branch c =
    let no : c.in_ok-is_readable.field-0 ≡ false = grind (arith, common_steps, c.if-not-branch.true) in
    let h : c.loop-number.number < length c.args.register.now.patterns = grind (arith, c.loop-number-test.true, c.pattern_count-number-end.ensures) in
    (bad_at c.args.register.now.patterns c.loop-number.number c.pattern_word.result.now c.in_ok-is_readable.field-0 h c.pattern_word.ensures no c.in_ok-is_readable.ensures, c.loop-number.invariant)
