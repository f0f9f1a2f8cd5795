use Rattle.std.proofs.Common.{◌∙◌, ◌≤◌, subst, sym, below_more, true≢false}
use Rattle.rawk_ere_walks.specs.Sets.{AsksAt}
use Rattle.rawk_ere_walks.specs.WalkLemmas.{asks_none}
use Rattle.rawk_ere_walks.proofs.walk.asks_in.Goals as goal

pub loop-index-preserved : goal.loop-index-preserved
loop-index-preserved c =
    below_more _ _ c.loop-index.invariant
    (λ a. true≢false (sym (c.asks_at.ensures.1 (subst (λ q. AsksAt c.args.code.now q) (sym c.at.ensures.value) a)) ∙ c.if-asks_at.false))

pub returns : goal.returns
returns c = asks_none c.args.code.now c.args.set.now.1 c.loop-index.index (subst (λ n. n ≤ c.loop-index.index) c.len-index-end.ensures.value c.loop-index-test.false) c.loop-index.invariant
