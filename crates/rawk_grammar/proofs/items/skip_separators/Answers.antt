use Rattle.std.proofs.Common.{arith}
use Rattle.std.proofs.lemmas.Grind.{common_steps}
use Rattle.rawk_grammar.specs.Items.{separators, separators_from}
use Rattle.rawk_parsing.specs.Turns.{one_more, no_more}
use Rattle.rawk_grammar.proofs.items.skip_separators.Goals as goal

pub loop-turn-init : goal.loop-turn-init
unfolding separators
loop-turn-init c = grind (arith, common_steps)

pub returns-then-not-separates : goal.returns-then-not-separates
unfolding separators_from
returns-then-not-separates c =
    let e = one_more (λ n. separators_from n c.loop-turn.tokens) _ c.loop-turn._turn c.loop-turn-test.true c.loop-turn.invariant in
    grind (arith, common_steps)

pub loop-turn-preserved : goal.loop-turn-preserved
unfolding separators_from
loop-turn-preserved c =
    let e = one_more (λ n. separators_from n c.loop-turn.tokens) _ c.loop-turn._turn c.loop-turn-test.true c.loop-turn.invariant in
    grind (arith, common_steps)

pub returns : goal.returns
unfolding separators_from
returns c =
    let e = no_more (λ n. separators_from n c.loop-turn.tokens) _ c.loop-turn._turn c.loop-turn-test.false c.loop-turn.invariant in
    grind (arith, common_steps)
