use Rattle.std.proofs.Common.{length}
use Rattle.rawk_keys.specs.Linked.{labels, earliers}
use Rattle.rawk_keys.proofs.Links.{empty_heads}
use Rattle.rawk_keys.proofs.chains.latest_link.Goals as goal

pub returns-then-count-eq0 : goal.returns-then-count-eq0
returns-then-count-eq0 c = empty_heads (labels c.args.links.now) (earliers c.args.links.now) c.args.heads.now (length c.args.links.now) c.args.label c.if-count-eq0.true c.requires
