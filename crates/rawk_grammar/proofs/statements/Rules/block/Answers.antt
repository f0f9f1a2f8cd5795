use Rattle.std.proofs.Common.{arith}
use Rattle.std.proofs.lemmas.Grind.{common_steps}
use Rattle.rawk_grammar.specs.Statement.{block, block_from, statement}
use Rattle.rawk_parsing.specs.Turns.{one_more, no_more}
use Rattle.rawk_grammar.proofs.statements.Rules.block.Goals as goal

pub loop-turn-init : goal.loop-turn-init
unfolding block
loop-turn-init g c = grind (arith, common_steps)

pub returns-then-sees : goal.returns-then-sees
unfolding block_from
returns-then-sees g c =
    let e = one_more (λ n. block_from c.args.self.now.depth (statement c.args.self.now.depth) c.args.self.now.context n c.loop-turn.found c.loop-turn.tokens) _ c.loop-turn._turn c.loop-turn-test.true c.loop-turn.invariant in
    grind (arith, common_steps)

pub returns-in_err-deeper : goal.returns-in_err-deeper
unfolding block_from
returns-in_err-deeper g c =
    let e = one_more (λ n. block_from c.args.self.now.depth (statement c.args.self.now.depth) c.args.self.now.context n c.loop-turn.found c.loop-turn.tokens) _ c.loop-turn._turn c.loop-turn-test.true c.loop-turn.invariant in
    grind (arith, common_steps)

pub loop-turn-preserved : goal.loop-turn-preserved
unfolding block_from
loop-turn-preserved g c =
    let e = one_more (λ n. block_from c.args.self.now.depth (statement c.args.self.now.depth) c.args.self.now.context n c.loop-turn.found c.loop-turn.tokens) _ c.loop-turn._turn c.loop-turn-test.true c.loop-turn.invariant in
    grind (arith, common_steps)

pub returns : goal.returns
unfolding block_from
returns g c =
    let e = no_more (λ n. block_from c.args.self.now.depth (statement c.args.self.now.depth) c.args.self.now.context n c.loop-turn.found c.loop-turn.tokens) _ c.loop-turn._turn c.loop-turn-test.false c.loop-turn.invariant in
    grind (arith, common_steps)
