use Rattle.std.proofs.Common.{◌≡◌, ◌+◌, ◌<◌, ◌≤◌, ◌∙◌, subst}
use Rattle.rawk_ere_tree.specs.StateSets.{Adds}
use Rattle.rawk_ere_walks.specs.Sets.{TakesFrom}
use Rattle.rawk_ere_walks.specs.WalkLemmas.{reading_more, reading_end}
use Rattle.rawk_ere_walks.proofs.walk.read.Goals as goal

pub loop-index-preserved : goal.loop-index-preserved
loop-index-preserved c =
    let e = c.loop-index.invariant.0 in
    let adds = subst (λ n. Adds n c.loop-index.to.1 c.read_from.new.to.1 (λ r. TakesFrom c.args.code.now c.at.result c.args.byte × (r ≡ c.at.result + 1))) e c.read_from.ensures.adds in
    (c.read_from.ensures.room ∙ e, reading_more c.args.code.now c.args.to.now.0 c.args.byte c.args.from.now.1 c.loop-index.to.1 c.read_from.new.to.1 c.loop-index.index c.at.result c.loop-index.invariant.1 (subst (λ n. c.loop-index.index < n) c.len-index-end.ensures.value c.loop-index-test.true) c.at.ensures.value adds)

pub returns-clause-reads : goal.returns-clause-reads
returns-clause-reads c =
    reading_end c.args.code.now c.args.to.now.0 c.args.byte c.args.from.now.1 c.loop-index.to.1 c.loop-index.index c.loop-index.invariant.1 (subst (λ n. n ≤ c.loop-index.index) c.len-index-end.ensures.value c.loop-index-test.false)
