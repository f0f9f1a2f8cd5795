use Rattle.std.proofs.Common.{◌≡◌, ◌≢◌, sym, ◌∙◌, rules}
use Rattle.std.proofs.lemmas.List.{take_rest}
use Rattle.rawk_lexer.specs.Lex.{blank_len}
use Rattle.rawk_lexer.proofs.Gaps.{skip_stops, skip_goes}
use Rattle.rawk_lexer.proofs.scan.skip.Goals as goal

pub returns-then-blank-eq0-clause-rest : goal.returns-then-blank-eq0-clause-rest
returns-then-blank-eq0-clause-rest c =
    let none : blank_len c.loop-z.z.now ≡ 0 = cc in
    sym (skip_stops c.loop-z.z.now none) ∙ c.loop-z.invariant.0

pub loop-z-preserved : goal.loop-z-preserved
loop-z-preserved c =
    let z = c.loop-z.z.now in
    let some : blank_len z ≢ 0 = λ q. c.if-blank-eq0.false (c.blank_len-blank.ensures.value ∙ q) in
    (rw (take_rest z c.blank_len-blank.result, c.blank_len-blank.ensures.value) (sym (skip_goes z some) ∙ c.loop-z.invariant.0), search rules)
