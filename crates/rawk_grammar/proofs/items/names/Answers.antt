use Rattle.std.proofs.Common.{arith}
use Rattle.std.proofs.lemmas.Grind.{common_steps}
use Rattle.rawk_grammar.specs.Items.{names, names_from}
use Rattle.rawk_parsing.specs.Turns.{one_more, no_more}
use Rattle.rawk_grammar.proofs.items.names.Goals as goal

pub loop-turn-init : goal.loop-turn-init
unfolding names
loop-turn-init c = grind (arith, common_steps)

pub returns-in_err-bare_name : goal.returns-in_err-bare_name
unfolding names_from
returns-in_err-bare_name c =
    let e = one_more (λ n. names_from n c.loop-turn.found c.loop-turn.tokens) _ c.loop-turn._turn c.loop-turn-test.true c.loop-turn.invariant in
    grind (arith, common_steps)

pub returns-then-not-eat : goal.returns-then-not-eat
unfolding names_from
returns-then-not-eat c =
    let e = one_more (λ n. names_from n c.loop-turn.found c.loop-turn.tokens) _ c.loop-turn._turn c.loop-turn-test.true c.loop-turn.invariant in
    grind (arith, common_steps)

pub loop-turn-preserved : goal.loop-turn-preserved
unfolding names_from
loop-turn-preserved c =
    let e = one_more (λ n. names_from n c.loop-turn.found c.loop-turn.tokens) _ c.loop-turn._turn c.loop-turn-test.true c.loop-turn.invariant in
    grind (arith, common_steps)

pub returns : goal.returns
unfolding names_from
returns c =
    let e = no_more (λ n. names_from n c.loop-turn.found c.loop-turn.tokens) _ c.loop-turn._turn c.loop-turn-test.false c.loop-turn.invariant in
    grind (arith, common_steps)
