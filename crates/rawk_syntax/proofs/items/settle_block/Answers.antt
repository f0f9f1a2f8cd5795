use Rattle.rawk_resolution.specs.Meant.{sense_of}
use Rattle.rawk_syntax.proofs.Layings.{block_made}
use Rattle.rawk_syntax.proofs.items.settle_block.Goals as goal

pub returns-clause-settled : goal.returns-clause-settled
returns-clause-settled c =
    block_made (sense_of c.args.scope.now) c.push.result c.args.sites.now.text.now c.args.steps.now c.in_ok-steps.steps c.args.sites.now.lines.items c.settle_statements.new.sites.lines.items c.args.blocks.now.items c.push.new.values.items c.in_ok-steps.ensures.settled c.push.ensures
