use Rattle.rawk_compiler.specs.Code.{rule_code, nowhere}
use Rattle.rawk_compiler.proofs.Trees.{more_turns}
use Rattle.rawk_compiler.proofs.compiler.emit_rules.Goals as goal

pub loop-rule-preserved : goal.loop-rule-preserved
loop-rule-preserved c =
    more_turns rule_code c.args.rules.now c.loop-rule.rule-index c.rule-item.result nowhere c.args.code.now.items _ _ c.loop-rule-test.true c.rule-item.is c.loop-rule.invariant c.in_ok-emit_guarded.ensures
