use Rattle.std.proofs.Common.{◌∙◌, ap}
use Rattle.rawk_resolution.specs.Meant.{sense_of}
use Rattle.rawk_syntax.proofs.Layings.{rule_made}
use Rattle.rawk_syntax.proofs.items.settle_rule.Goals as goal

pub returns-clause-settled : goal.returns-clause-settled
returns-clause-settled c =
    rule_made (sense_of c.args.scope.now) c.args.ranges c.push.result c.args.sites.now.text.now c.settle_guard.new.sites.text.now c.args.pattern.now c.in_ok-guard.guard c.args.action.now c.in_ok-action.action c.len-site.result
    c.args.sites.now.lines.items c.settle_guard.new.sites.lines.items c.settle_action.new.sites.lines.items c.args.rules.now.items c.push.new.values.items
    (c.len-site.ensures ∙ c.args.sites.now.lines.ok.0) (ap (λ v. v.now) c.settle_guard.ensures.text) c.in_ok-guard.ensures.settled c.in_ok-action.ensures.settled c.push.ensures
