use Rattle.std.proofs.Common.{◌∙◌, ◌+◌, ap, refl}
use Rattle.rawk_names.specs.Named.{known}
use Rattle.rawk_resolution.specs.Meant.{sense}
use Rattle.rawk_syntax.proofs.Layings.{begin_laid, end_laid, always_laid, rule_laid, function_laid}
use Rattle.rawk_syntax.proofs.items.settle_item.Goals as goal

pub returns-in-Begin-clause-settled : goal.returns-in-Begin-clause-settled
returns-in-Begin-clause-settled c =
    begin_laid (sense (known c.args.names.now)) c.settle_block.result c.args.sites.now.text.now c.args.item.now c.in-Begin.steps c.as_slice.result.now c.args.sites.now.lines.items c.settle_block.new.sites.lines.items c.args.program.now (record c.args.program.now { begin = c.settle_block.new.blocks })
    c.in-Begin.is c.as_slice.ensures refl c.settle_block.ensures.settled

pub returns-in-End-clause-settled : goal.returns-in-End-clause-settled
returns-in-End-clause-settled c =
    end_laid (sense (known c.args.names.now)) c.settle_block-in-End.result c.args.sites.now.text.now c.args.item.now c.in-End.steps c.as_slice-in-End.result.now c.args.sites.now.lines.items c.settle_block-in-End.new.sites.lines.items c.args.program.now (record c.args.program.now { end = c.settle_block-in-End.new.blocks })
    c.in-End.is c.as_slice-in-End.ensures refl c.settle_block-in-End.ensures.settled

pub returns-in-Always-clause-settled : goal.returns-in-Always-clause-settled
returns-in-Always-clause-settled c =
    always_laid (sense (known c.args.names.now)) c.settle_always.result c.args.sites.now.text.now c.args.item.now c.in-Always.left c.in-Always.steps c.as_slice-in-Always.result.now c.args.sites.now.lines.items c.settle_always.new.sites.lines.items c.args.program.now (record c.args.program.now { rules = c.settle_always.new.rules })
    c.in-Always.is c.as_slice-in-Always.ensures refl c.settle_always.ensures.settled

pub returns-in_ok-settle_rule-in-Rule-clause-settled : goal.returns-in_ok-settle_rule-in-Rule-clause-settled
returns-in_ok-settle_rule-in-Rule-clause-settled c = λ items before.
    rule_laid (sense (known c.args.names.now)) c.args.sites.now.text.now items c.args.item.now c.in-Rule.pattern c.get-pattern.result.now c.in-Rule.action c.args.sites.now.lines.items c.settle_rule.new.sites.lines.items c.args.program.now (record c.args.program.now { rules = c.settle_rule.new.rules; ranges = c.args.program.now.ranges + c.ranges_of.result })
    c.in-Rule.is c.get-pattern.ensures refl (ap (λ n. c.args.program.now.ranges + n) c.ranges_of.ensures) c.in_ok-settle_rule-in-Rule.ensures.settled before

pub returns-in-Function-clause-settled : goal.returns-in-Function-clause-settled
returns-in-Function-clause-settled c =
    function_laid (sense (known c.args.names.now)) c.settle_function.result c.args.sites.now.text.now c.args.item.now c.in-Function.left c.in-Function.name c.in-Function.parameters c.as_slice-takes.result.now c.in-Function.steps c.as_slice-steps.result.now c.len-before.result c.args.sites.now.lines.items c.settle_function.new.sites.lines.items c.args.program.now (record c.args.program.now { functions = c.settle_function.new.functions })
    c.in-Function.is c.as_slice-takes.ensures c.as_slice-steps.ensures (c.len-before.ensures ∙ c.args.program.now.functions.ok.0) refl c.settle_function.ensures.settled
