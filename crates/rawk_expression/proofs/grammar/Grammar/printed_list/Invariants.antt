use Rattle.std.proofs.Common.{◌≡◌, ◌-◌, true}
use Rattle.rawk_expression.specs.Expression.{list, list_from, whole, expression}
use Rattle.rawk_expression.proofs.grammar.Grammar.printed_list.Given as goal

abbrev pub invariant-loop-turn : goal.invariant-loop-turn
invariant-loop-turn g l = list (whole l.self.depth (expression l.self.depth) true) l.fn.found l.fn.tokens ≡ list_from (whole l.self.depth (expression l.self.depth) true) (l._turn-end - l._turn) l.found l.tokens
