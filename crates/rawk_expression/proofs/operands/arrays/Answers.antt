use Rattle.std.proofs.Common.{arith}
use Rattle.std.proofs.lemmas.Grind.{common_steps}
use Rattle.rawk_expression.specs.Expression.{arrays, arrays_from}
use Rattle.rawk_parsing.specs.Turns.{one_more, no_more}
use Rattle.rawk_expression.proofs.operands.arrays.Goals as goal

pub loop-turn-init : goal.loop-turn-init
unfolding arrays
loop-turn-init c = grind (arith, common_steps)

pub returns-in_err-bare_name : goal.returns-in_err-bare_name
unfolding arrays_from
returns-in_err-bare_name c =
    let e = one_more (λ n. arrays_from n c.loop-turn.found c.loop-turn.tokens) _ c.loop-turn._turn c.loop-turn-test.true c.loop-turn.invariant in
    grind (arith, common_steps)

pub returns-then-not-eat : goal.returns-then-not-eat
unfolding arrays_from
returns-then-not-eat c =
    let e = one_more (λ n. arrays_from n c.loop-turn.found c.loop-turn.tokens) _ c.loop-turn._turn c.loop-turn-test.true c.loop-turn.invariant in
    grind (arith, common_steps)

pub loop-turn-preserved : goal.loop-turn-preserved
unfolding arrays_from
loop-turn-preserved c =
    let e = one_more (λ n. arrays_from n c.loop-turn.found c.loop-turn.tokens) _ c.loop-turn._turn c.loop-turn-test.true c.loop-turn.invariant in
    grind (arith, common_steps)

pub returns : goal.returns
unfolding arrays_from
returns c =
    let e = no_more (λ n. arrays_from n c.loop-turn.found c.loop-turn.tokens) _ c.loop-turn._turn c.loop-turn-test.false c.loop-turn.invariant in
    grind (arith, common_steps)
