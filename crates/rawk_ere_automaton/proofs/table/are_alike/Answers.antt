use Rattle.std.proofs.Common.{◌≤◌, subst, below_more}
use Rattle.rawk_ere_walks.specs.Sets.{TakesFrom}
use Rattle.rawk_ere_automaton.proofs.BuildLemmas.{alike_all, alike_here, same_truth}
use Rattle.rawk_ere_automaton.proofs.table.are_alike.Goals as goal

pub loop-state-preserved : goal.loop-state-preserved
loop-state-preserved c =
    let q = c.loop-state.state in
    below_more _ _ c.loop-state.invariant
    (alike_here c.reads_from.result c.reads_from-in-loop-state.result (TakesFrom c.args.code.now q c.args.a) (TakesFrom c.args.code.now q c.args.b) (same_truth c.reads_from.result c.reads_from-in-loop-state.result c.if-reads_from.false) c.reads_from.ensures c.reads_from-in-loop-state.ensures)

pub returns : goal.returns
returns c = λ _. alike_all c.args.code.now c.args.a c.args.b c.loop-state.state (subst (λ n. n ≤ c.loop-state.state) c.len-state-end.ensures.value c.loop-state-test.false) c.loop-state.invariant
