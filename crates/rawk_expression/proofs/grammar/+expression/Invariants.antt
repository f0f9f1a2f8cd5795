use Rattle.rawk_expression.proofs.grammar.+expression.Given as goal

abbrev pub decreases-expression : goal.decreases-expression
decreases-expression l = l.depth
