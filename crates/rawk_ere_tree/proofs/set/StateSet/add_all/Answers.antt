use Rattle.std.proofs.Common.{arith, ◌∙◌}
use Rattle.rawk_ere_tree.specs.SetLemmas.{adds_next, adds_all}
use Rattle.rawk_ere_tree.proofs.set.StateSet.add_all.Goals as goal

pub loop-index-preserved : goal.loop-index-preserved
loop-index-preserved c = (
  c.add.ensures.room ∙ c.loop-index.invariant.0,
  adds_next c.args.self.now.0 c.loop-index.self.0 c.args.self.now.1 c.loop-index.self.1 c.add.new.self.1 c.args.other.now.1 c.loop-index.index c.at.result c.loop-index.invariant.0 c.at.ensures.value c.loop-index.invariant.1 c.add.ensures.adds,
)

pub returns-clause-adds : goal.returns-clause-adds
returns-clause-adds c =
    adds_all c.args.self.now.0 c.args.self.now.1 c.loop-index.self.1 c.args.other.now.1 c.loop-index.index (omega (arith, c.len-index-end.ensures.value)) (omega (arith, c.len-index-end.ensures.value)) c.loop-index.invariant.1
