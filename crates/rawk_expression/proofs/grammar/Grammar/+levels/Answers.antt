use Rattle.std.proofs.Common.{◌≡◌, ◌-◌, None, arith}
use Rattle.std.proofs.lemmas.Grind.{common_steps}
use Rattle.rawk_expression.specs.Expression.{links, links_from, level, expression, link}
use Rattle.rawk_parsing.specs.Turns.{one_more, no_more, deeper}
use Rattle.rawk_expression.proofs.grammar.Grammar.+levels.Goals as goal

pub level-returns-in_err-first : goal.level-returns-in_err-first
unfolding level
level-returns-in_err-first g t c =
    let e = deeper (λ n. level c.args.self.now.depth (expression c.args.self.now.depth) c.args.prints c.args.head n c.args.tokens.now) c.args.level (omega arith) in
    grind (arith, common_steps)

pub level-returns-in_err-links : goal.level-returns-in_err-links
unfolding level
level-returns-in_err-links g t c =
    let e = deeper (λ n. level c.args.self.now.depth (expression c.args.self.now.depth) c.args.prints c.args.head n c.args.tokens.now) c.args.level (omega arith) in
    grind (arith, common_steps)

pub level-returns : goal.level-returns
unfolding level
level-returns g t c =
    let e = deeper (λ n. level c.args.self.now.depth (expression c.args.self.now.depth) c.args.prints c.args.head n c.args.tokens.now) c.args.level (omega arith) in
    grind (arith, common_steps)

pub level-returns-then-level-eq0 : goal.level-returns-then-level-eq0
unfolding level
level-returns-then-level-eq0 g t c =
    let e : c.args.level ≡ 0 = omega arith in
    grind (arith, common_steps)

pub links-loop-turn-init : goal.links-loop-turn-init
unfolding links
links-loop-turn-init g t c = grind (arith, common_steps)

pub links-returns-in_default : goal.links-returns-in_default
unfolding links_from link
links-returns-in_default g t c =
    let e = one_more (λ n. links_from c.args.prints c.args.level (level c.args.self.now.depth (expression c.args.self.now.depth) c.args.prints None (c.args.level - 1)) n c.loop-turn.links c.loop-turn.tokens) _ c.loop-turn._turn c.loop-turn-test.true c.loop-turn.invariant in
    grind (arith, common_steps)

pub links-returns-in_err-operand : goal.links-returns-in_err-operand
unfolding links_from link
links-returns-in_err-operand g t c =
    let e = one_more (λ n. links_from c.args.prints c.args.level (level c.args.self.now.depth (expression c.args.self.now.depth) c.args.prints None (c.args.level - 1)) n c.loop-turn.links c.loop-turn.tokens) _ c.loop-turn._turn c.loop-turn-test.true c.loop-turn.invariant in
    grind (arith, common_steps)

pub links-returns-then-is_alone : goal.links-returns-then-is_alone
unfolding links_from link
links-returns-then-is_alone g t c =
    let e = one_more (λ n. links_from c.args.prints c.args.level (level c.args.self.now.depth (expression c.args.self.now.depth) c.args.prints None (c.args.level - 1)) n c.loop-turn.links c.loop-turn.tokens) _ c.loop-turn._turn c.loop-turn-test.true c.loop-turn.invariant in
    grind (arith, common_steps)

pub links-loop-turn-preserved : goal.links-loop-turn-preserved
unfolding links_from link
links-loop-turn-preserved g t c =
    let e = one_more (λ n. links_from c.args.prints c.args.level (level c.args.self.now.depth (expression c.args.self.now.depth) c.args.prints None (c.args.level - 1)) n c.loop-turn.links c.loop-turn.tokens) _ c.loop-turn._turn c.loop-turn-test.true c.loop-turn.invariant in
    grind (arith, common_steps)

pub links-returns : goal.links-returns
unfolding links_from
links-returns g t c =
    let e = no_more (λ n. links_from c.args.prints c.args.level (level c.args.self.now.depth (expression c.args.self.now.depth) c.args.prints None (c.args.level - 1)) n c.loop-turn.links c.loop-turn.tokens) _ c.loop-turn._turn c.loop-turn-test.false c.loop-turn.invariant in
    grind (arith, common_steps)
