use Rattle.std.proofs.Common.{◌∙◌, ap}
use Rattle.rawk_resolution.specs.Meant.{sense_of}
use Rattle.rawk_syntax.proofs.Layings.{always_made}
use Rattle.rawk_syntax.proofs.items.settle_always.Goals as goal

pub returns-clause-settled : goal.returns-clause-settled
returns-clause-settled c =
    always_made (sense_of c.args.scope.now) c.push.result c.args.sites.now.text.now c.add.new.self.text.now c.args.brace c.args.steps.now c.in_ok-steps.steps c.len-site.result c.args.sites.now.lines.items c.add.new.self.lines.items c.settle_statements.new.sites.lines.items c.args.rules.now.items c.push.new.values.items
    (c.len-site.ensures ∙ c.args.sites.now.lines.ok.0) c.in_ok-add.ensures.lines (ap (λ v. v.now) c.add.ensures.text) c.in_ok-steps.ensures.settled c.push.ensures
