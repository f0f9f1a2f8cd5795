use Rattle.std.proofs.Common.{◌<◌, ◌≤◌, ◌∙◌, subst}
use Rattle.std.specs.Prelude.{IsTrue}
use Rattle.rawk_ere_tree.specs.StateSets.{Adds}
use Rattle.rawk_ere_walks.specs.Sets.{HopsFrom}
use Rattle.rawk_ere_walks.specs.WalkLemmas.{closing_more, closing_end}
use Rattle.rawk_ere_walks.proofs.walk.close.Goals as goal

pub loop-done-preserved : goal.loop-done-preserved
loop-done-preserved c =
    let e = c.loop-done.invariant.0 in
    let adds = subst (λ n. Adds n c.loop-done.set.1 c.hop_from.new.set.1 (HopsFrom c.args.code.now (IsTrue c.args.first) (IsTrue c.args.last) c.at-state.result)) e c.hop_from.ensures.adds in
    (c.hop_from.ensures.room ∙ e, closing_more c.args.code.now (IsTrue c.args.first) (IsTrue c.args.last) c.args.set.now.0 c.args.set.now.1 c.loop-done.set.1 c.hop_from.new.set.1 c.loop-done.done c.at-state.result c.loop-done.invariant.1 (subst (λ n. c.loop-done.done < n) c.len.ensures.value c.loop-done-test.true) c.at-state.ensures.value adds)

pub returns-clause-closes : goal.returns-clause-closes
returns-clause-closes c =
    closing_end c.args.code.now (IsTrue c.args.first) (IsTrue c.args.last) c.args.set.now.0 c.args.set.now.1 c.loop-done.set.1 c.loop-done.done c.loop-done.invariant.1 (subst (λ n. n ≤ c.loop-done.done) c.len.ensures.value c.loop-done-test.false)
