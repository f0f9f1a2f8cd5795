use Rattle.std.proofs.Common.{true, arith}
use Rattle.std.proofs.lemmas.Grind.{common_steps}
use Rattle.rawk_expression.specs.Expression.{list, list_from, whole, expression}
use Rattle.rawk_parsing.specs.Turns.{one_more, no_more}
use Rattle.rawk_expression.proofs.grammar.Grammar.printed_list.Goals as goal

pub loop-turn-init : goal.loop-turn-init
unfolding list
loop-turn-init g c = grind (arith, common_steps)

pub returns-in_err-whole : goal.returns-in_err-whole
unfolding list_from
returns-in_err-whole g c =
    let e = one_more (λ n. list_from (whole c.args.self.now.depth (expression c.args.self.now.depth) true) n c.loop-turn.found c.loop-turn.tokens) _ c.loop-turn._turn c.loop-turn-test.true c.loop-turn.invariant in
    grind (arith, common_steps)

pub returns-then-not-eat : goal.returns-then-not-eat
unfolding list_from
returns-then-not-eat g c =
    let e = one_more (λ n. list_from (whole c.args.self.now.depth (expression c.args.self.now.depth) true) n c.loop-turn.found c.loop-turn.tokens) _ c.loop-turn._turn c.loop-turn-test.true c.loop-turn.invariant in
    grind (arith, common_steps)

pub loop-turn-preserved : goal.loop-turn-preserved
unfolding list_from
loop-turn-preserved g c =
    let e = one_more (λ n. list_from (whole c.args.self.now.depth (expression c.args.self.now.depth) true) n c.loop-turn.found c.loop-turn.tokens) _ c.loop-turn._turn c.loop-turn-test.true c.loop-turn.invariant in
    grind (arith, common_steps)

pub returns : goal.returns
unfolding list_from
returns g c =
    let e = no_more (λ n. list_from (whole c.args.self.now.depth (expression c.args.self.now.depth) true) n c.loop-turn.found c.loop-turn.tokens) _ c.loop-turn._turn c.loop-turn-test.false c.loop-turn.invariant in
    grind (arith, common_steps)
