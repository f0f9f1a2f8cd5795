use Rattle.std.proofs.Common.{get_or}
use Rattle.rawk_names.proofs.Following.{links_next, read, nobody}
use Rattle.rawk_names.proofs.arrays.links_of.Goals as goal

pub loop-usage-preserved : goal.loop-usage-preserved
loop-usage-preserved c =
    let i = c.loop-usage.usage-index in
    links_next c.args.uses.now i (get_or c.args.uses.now i nobody) c.loop-usage.links.from c.loop-usage.links.to.items c.link_use.new.links.from c.link_use.new.links.to.items
    c.loop-usage-test.true (read c.args.uses.now i nobody c.loop-usage-test.true) c.in_ok-link_use.ensures.from c.in_ok-link_use.ensures.to c.loop-usage.invariant
