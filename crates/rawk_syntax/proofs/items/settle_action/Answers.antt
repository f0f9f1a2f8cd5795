use Rattle.std.proofs.Common.{◌∙◌, [], refl}
use Rattle.rawk_resolution.specs.Meant.{sense_of}
use Rattle.rawk_syntax.proofs.Layings.{missing_does, given_does}
use Rattle.rawk_syntax.proofs.items.settle_action.Goals as goal

pub returns-in_ok-values-in-Missing-clause-settled : goal.returns-in_ok-values-in-Missing-clause-settled
returns-in_ok-values-in-Missing-clause-settled c =
    missing_does (sense_of c.args.scope.now) c.args.sites.now.text.now c.args.action.now c.in-Missing.left [] c.in_ok-values-in-Missing.values c.len-site.result c.args.sites.now.lines.items c.add.new.self.lines.items
    c.in-Missing.is refl (c.len-site.ensures ∙ c.args.sites.now.lines.ok.0) c.in_ok-add-in-Missing.ensures.lines c.in_ok-values-in-Missing.ensures

pub returns-in_ok-steps-in-Given-clause-settled : goal.returns-in_ok-steps-in-Given-clause-settled
returns-in_ok-steps-in-Given-clause-settled c =
    given_does (sense_of c.args.scope.now) c.args.sites.now.text.now c.args.action.now c.in-Given.steps c.as_slice.result.now c.in_ok-steps-in-Given.steps c.args.sites.now.lines.items c.settle_statements.new.sites.lines.items
    c.in-Given.is c.as_slice.ensures c.in_ok-steps-in-Given.ensures.settled
