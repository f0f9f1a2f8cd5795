use Rattle.std.proofs.Common.{sym, ap, ◌∙◌, arith}
use Rattle.std.proofs.lemmas.Grind.{common_steps}
use Rattle.rawk_grammar.specs.Statement.{chain, chain_from, statement}
use Rattle.rawk_grammar.specs.Dangling.{branch_dangles}
use Rattle.rawk_parsing.specs.Turns.{one_more, no_more}
use Rattle.rawk_grammar.proofs.NoElse.{none_found}
use Rattle.rawk_grammar.proofs.statements.Rules.chain.Goals as goal

pub loop-turn-init : goal.loop-turn-init
unfolding chain
loop-turn-init g c = grind (arith, common_steps)

pub returns-in_err-branch : goal.returns-in_err-branch
unfolding chain_from
returns-in_err-branch g c =
    let e = one_more (λ n. chain_from c.args.self.now.depth (statement c.args.self.now.depth) c.args.self.now.context n c.loop-turn.branches c.loop-turn.tokens) _ c.loop-turn._turn c.loop-turn-test.true c.loop-turn.invariant in
    grind (arith, common_steps)

pub returns-then-not-goes_on : goal.returns-then-not-goes_on
unfolding chain_from
returns-then-not-goes_on g c =
    let e = one_more (λ n. chain_from c.args.self.now.depth (statement c.args.self.now.depth) c.args.self.now.context n c.loop-turn.branches c.loop-turn.tokens) _ c.loop-turn._turn c.loop-turn-test.true c.loop-turn.invariant in
    grind (arith, common_steps)

pub returns-then-not-eat : goal.returns-then-not-eat
unfolding chain_from
returns-then-not-eat g c =
    let e = one_more (λ n. chain_from c.args.self.now.depth (statement c.args.self.now.depth) c.args.self.now.context n c.loop-turn.branches c.loop-turn.tokens) _ c.loop-turn._turn c.loop-turn-test.true c.loop-turn.invariant in
    grind (arith, common_steps)

pub loop-turn-preserved : goal.loop-turn-preserved
unfolding chain_from
loop-turn-preserved g c =
    let e = one_more (λ n. chain_from c.args.self.now.depth (statement c.args.self.now.depth) c.args.self.now.context n c.loop-turn.branches c.loop-turn.tokens) _ c.loop-turn._turn c.loop-turn-test.true c.loop-turn.invariant in
    grind (arith, common_steps)

pub returns : goal.returns
unfolding chain_from
returns g c =
    let e = no_more (λ n. chain_from c.args.self.now.depth (statement c.args.self.now.depth) c.args.self.now.context n c.loop-turn.branches c.loop-turn.tokens) _ c.loop-turn._turn c.loop-turn-test.false c.loop-turn.invariant in
    grind (arith, common_steps)

pub other_behind-goes_on-requires : goal.other_behind-goes_on-requires
other_behind-goes_on-requires g c = λ e. none_found c.args.self.now.depth c.args.self.now.context c.loop-turn.tokens c.branch-self.new.tokens c.in_ok-branch.branch c.in_ok-branch.ensures (ap branch_dangles (sym c.get.ensures) ∙ e)
