use Rattle.rawk_ere_tree.proofs.KeptLemmas.{taken_more}
use Rattle.rawk_ere_tree.proofs.code.Code.extend.Goals as goal

pub loop-index-preserved : goal.loop-index-preserved
loop-index-preserved c =
    let more = c.in_ok-push_from.ensures in
    taken_more c.args.self.now c.loop-index.self c.push_from.new.self c.args.other.now c.loop-index.index more.0 c.loop-index.invariant more.1 more.2
