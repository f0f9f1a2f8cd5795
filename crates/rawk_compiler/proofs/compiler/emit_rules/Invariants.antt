use Rattle.std.proofs.Common.{◌≡◌, ◌++◌, map, take, length}
use Rattle.rawk_compiler.specs.Code.{rule_code, in_turn, nowhere}
use Rattle.rawk_compiler.proofs.compiler.emit_rules.Given as goal

abbrev pub invariant-loop-rule : goal.invariant-loop-rule
invariant-loop-rule l = l.code.items ≡ l.fn.code.items ++ in_turn (map rule_code (take l.rule-index l.rules)) nowhere (length l.fn.code.items)
