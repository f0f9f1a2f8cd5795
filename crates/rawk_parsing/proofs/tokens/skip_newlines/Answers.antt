use Rattle.std.proofs.Common.{arith}
use Rattle.std.proofs.lemmas.Grind.{common_steps}
use Rattle.rawk_parsing.specs.Parser.{newlines, newlines_from}
use Rattle.rawk_parsing.specs.Turns.{one_more, no_more}
use Rattle.rawk_parsing.proofs.tokens.skip_newlines.Goals as goal

pub loop-turn-init : goal.loop-turn-init
unfolding newlines
loop-turn-init c = grind (arith, common_steps)

pub returns-then-not-sees : goal.returns-then-not-sees
unfolding newlines_from
returns-then-not-sees c =
    let e = one_more (λ n. newlines_from n c.loop-turn.tokens) _ c.loop-turn._turn c.loop-turn-test.true c.loop-turn.invariant in
    grind (arith, common_steps)

pub loop-turn-preserved : goal.loop-turn-preserved
unfolding newlines_from
loop-turn-preserved c =
    let e = one_more (λ n. newlines_from n c.loop-turn.tokens) _ c.loop-turn._turn c.loop-turn-test.true c.loop-turn.invariant in
    grind (arith, common_steps)

pub returns : goal.returns
unfolding newlines_from
returns c =
    let e = no_more (λ n. newlines_from n c.loop-turn.tokens) _ c.loop-turn._turn c.loop-turn-test.false c.loop-turn.invariant in
    grind (arith, common_steps)
