use Rattle.rawk_grammar.proofs.statements.+statement.Given as goal

abbrev pub decreases-statement : goal.decreases-statement
decreases-statement l = l.depth
