use Rattle.std.proofs.Common.{◌≡◌, ◌-◌}
use Rattle.rawk_expression.specs.declared.grammar.Wanted.TheVariants as want
use Rattle.rawk_expression.specs.Expression.{list, list_from, expression}
use Rattle.rawk_expression.proofs.grammar.Grammar.list.Given as goal

abbrev pub invariant-loop-turn : goal.invariant-loop-turn
invariant-loop-turn g l = list (expression l.self.depth want.Whole) l.fn.found l.fn.tokens ≡ list_from (expression l.self.depth want.Whole) (l._turn-end - l._turn) l.found l.tokens
