use Rattle.std.proofs.Common.{◌≡◌, ◌-◌}
use Rattle.rawk_expression.specs.Expression.{arrays, arrays_from}
use Rattle.rawk_expression.proofs.operands.arrays.Given as goal

abbrev pub invariant-loop-turn : goal.invariant-loop-turn
invariant-loop-turn l = arrays l.fn.tokens ≡ arrays_from (l._turn-end - l._turn) l.found l.tokens
