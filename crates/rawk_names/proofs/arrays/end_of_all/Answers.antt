use Rattle.std.proofs.Common.{get_or}
use Rattle.rawk_names.proofs.Following.{below_more, read, nobody}
use Rattle.rawk_names.proofs.arrays.end_of_all.Goals as goal

pub loop-usage-preserved : goal.loop-usage-preserved
loop-usage-preserved c =
    let i = c.loop-usage.usage-index in
    below_more c.args.uses.now i (get_or c.args.uses.now i nobody) c.loop-usage.«end» c.in_ok-end_of.field-0 c.larger-end.result
    c.loop-usage-test.true (read c.args.uses.now i nobody c.loop-usage-test.true) c.loop-usage.invariant c.in_ok-end_of.ensures
    c.larger-end.ensures.first c.larger-end.ensures.second
