use Rattle.std.proofs.Common.{◌≡◌, ◌-◌, arith}
use Rattle.std.proofs.lemmas.Grind.{common_steps}
use Rattle.rawk_expression.specs.Expression.{further, further_from, joined, begun, junction, expression}
use Rattle.rawk_parsing.specs.Turns.{one_more, no_more, deeper}
use Rattle.rawk_expression.proofs.grammar.Grammar.+junctions.Goals as goal

pub junction-returns-in_err-first : goal.junction-returns-in_err-first
unfolding junction joined
junction-returns-in_err-first g t c =
    let e = deeper (λ n. junction c.args.self.now.depth (expression c.args.self.now.depth) c.args.prints n c.args.start c.args.tokens.now) c.args.level (omega arith) in
    grind (arith, common_steps)

pub junction-returns-then-first : goal.junction-returns-then-first
unfolding junction joined
junction-returns-then-first g t c =
    let e = deeper (λ n. junction c.args.self.now.depth (expression c.args.self.now.depth) c.args.prints n c.args.start c.args.tokens.now) c.args.level (omega arith) in
    grind (arith, common_steps)

pub junction-returns : goal.junction-returns
unfolding junction joined
junction-returns g t c =
    let e = deeper (λ n. junction c.args.self.now.depth (expression c.args.self.now.depth) c.args.prints n c.args.start c.args.tokens.now) c.args.level (omega arith) in
    grind (arith, common_steps)

pub junction-returns-then-level-eq0 : goal.junction-returns-then-level-eq0
unfolding junction
junction-returns-then-level-eq0 g t c =
    let e : c.args.level ≡ 0 = omega arith in
    grind (arith, common_steps)

pub further-loop-turn-init : goal.further-loop-turn-init
unfolding further
further-loop-turn-init g t c = grind (arith, common_steps)

pub further-returns-in_err-next : goal.further-returns-in_err-next
unfolding further_from
further-returns-in_err-next g t c =
    let e = one_more (λ n. further_from c.args.level (begun c.args.self.now.depth (expression c.args.self.now.depth) (junction c.args.self.now.depth (expression c.args.self.now.depth) c.args.prints (c.args.level - 1))) n c.loop-turn.operands c.loop-turn.tokens) _ c.loop-turn._turn c.loop-turn-test.true c.loop-turn.invariant in
    grind (arith, common_steps)

pub further-returns-then-next : goal.further-returns-then-next
unfolding further_from
further-returns-then-next g t c =
    let e = one_more (λ n. further_from c.args.level (begun c.args.self.now.depth (expression c.args.self.now.depth) (junction c.args.self.now.depth (expression c.args.self.now.depth) c.args.prints (c.args.level - 1))) n c.loop-turn.operands c.loop-turn.tokens) _ c.loop-turn._turn c.loop-turn-test.true c.loop-turn.invariant in
    grind (arith, common_steps)

pub further-returns-then-not-eat : goal.further-returns-then-not-eat
unfolding further_from
further-returns-then-not-eat g t c =
    let e = one_more (λ n. further_from c.args.level (begun c.args.self.now.depth (expression c.args.self.now.depth) (junction c.args.self.now.depth (expression c.args.self.now.depth) c.args.prints (c.args.level - 1))) n c.loop-turn.operands c.loop-turn.tokens) _ c.loop-turn._turn c.loop-turn-test.true c.loop-turn.invariant in
    grind (arith, common_steps)

pub further-loop-turn-preserved : goal.further-loop-turn-preserved
unfolding further_from
further-loop-turn-preserved g t c =
    let e = one_more (λ n. further_from c.args.level (begun c.args.self.now.depth (expression c.args.self.now.depth) (junction c.args.self.now.depth (expression c.args.self.now.depth) c.args.prints (c.args.level - 1))) n c.loop-turn.operands c.loop-turn.tokens) _ c.loop-turn._turn c.loop-turn-test.true c.loop-turn.invariant in
    grind (arith, common_steps)

pub further-returns : goal.further-returns
unfolding further_from
further-returns g t c =
    let e = no_more (λ n. further_from c.args.level (begun c.args.self.now.depth (expression c.args.self.now.depth) (junction c.args.self.now.depth (expression c.args.self.now.depth) c.args.prints (c.args.level - 1))) n c.loop-turn.operands c.loop-turn.tokens) _ c.loop-turn._turn c.loop-turn-test.false c.loop-turn.invariant in
    grind (arith, common_steps)
