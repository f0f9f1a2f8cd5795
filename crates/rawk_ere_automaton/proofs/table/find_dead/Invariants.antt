use Rattle.rawk_ere_automaton.proofs.table.find_dead.Given as goal

abbrev pub invariant-loop-index : goal.invariant-loop-index
invariant-loop-index l = Unit {0}
