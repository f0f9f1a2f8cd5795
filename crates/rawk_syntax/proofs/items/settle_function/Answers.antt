use Rattle.std.proofs.Common.{◌-◌, ◌∙◌, ap}
use Rattle.rawk_names.specs.Named.{known}
use Rattle.rawk_resolution.specs.Meant.{parameter_kinds, sense_of}
use Rattle.rawk_syntax.proofs.Layings.{defined}
use Rattle.rawk_syntax.proofs.items.settle_function.Goals as goal

pub returns-clause-settled : goal.returns-clause-settled
returns-clause-settled c =
    defined (sense_of c.args.scope.now) c.push_function.result c.args.sites.now.text.now c.add.new.self.text.now (c.args.scope.now.number - 1) c.args.left c.args.name.now c.args.parameters.now c.args.steps.now c.in_ok-name.name c.in_ok-parameters.parameters c.in_ok-kinds.kinds c.in_ok-steps.steps c.len-site.result
    c.args.sites.now.lines.items c.add.new.self.lines.items c.settle_statements.new.sites.lines.items c.args.functions.now.items c.push_function.new.functions.items
    (c.in_ok-name.ensures ∙ c.as_slice.ensures) c.in_ok-parameters.ensures (c.in_ok-kinds.ensures ∙ ap (parameter_kinds (known c.args.scope.now.names.now)) c.saturating_sub.ensures) (c.len-site.ensures ∙ c.args.sites.now.lines.ok.0) c.in_ok-add.ensures.lines (ap (λ v. v.now) c.add.ensures.text) c.in_ok-steps.ensures.settled c.push_function.ensures
