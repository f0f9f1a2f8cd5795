use Rattle.std.proofs.Common.{arith}
use Rattle.std.proofs.lemmas.Grind.{common_steps}
use Rattle.rawk_grammar.specs.Items.{items, items_from}
use Rattle.rawk_parsing.specs.Turns.{one_more, no_more}
use Rattle.rawk_grammar.proofs.items.items.Goals as goal

pub loop-turn-init : goal.loop-turn-init
unfolding items
loop-turn-init c = grind (arith, common_steps)

pub returns-then-sees : goal.returns-then-sees
unfolding items_from
returns-then-sees c =
    let e = one_more (λ n. items_from c.args.depth c.args.room n c.loop-turn.found c.loop-turn.tokens) _ c.loop-turn._turn c.loop-turn-test.true c.loop-turn.invariant in
    grind (arith, common_steps)

pub returns-in_err-item : goal.returns-in_err-item
unfolding items_from
returns-in_err-item c =
    let e = one_more (λ n. items_from c.args.depth c.args.room n c.loop-turn.found c.loop-turn.tokens) _ c.loop-turn._turn c.loop-turn-test.true c.loop-turn.invariant in
    grind (arith, common_steps)

pub loop-turn-preserved : goal.loop-turn-preserved
unfolding items_from
loop-turn-preserved c =
    let e = one_more (λ n. items_from c.args.depth c.args.room n c.loop-turn.found c.loop-turn.tokens) _ c.loop-turn._turn c.loop-turn-test.true c.loop-turn.invariant in
    grind (arith, common_steps)

pub returns : goal.returns
unfolding items_from
returns c =
    let e = no_more (λ n. items_from c.args.depth c.args.room n c.loop-turn.found c.loop-turn.tokens) _ c.loop-turn._turn c.loop-turn-test.false c.loop-turn.invariant in
    grind (arith, common_steps)

pub returns-in_err-expect : goal.returns-in_err-expect
unfolding items_from
returns-in_err-expect c =
    let e = no_more (λ n. items_from c.args.depth c.args.room n c.loop-turn.found c.loop-turn.tokens) _ c.loop-turn._turn c.loop-turn-test.false c.loop-turn.invariant in
    grind (arith, common_steps)
