use Rattle.rawk_grammar.proofs.CompleteItems.{read_from}
use Rattle.rawk_grammar.proofs.SoundItems.{found_from}
use Rattle.rawk_grammar.proofs.items.program.Goals as goal

pub returns-clause-found : goal.returns-clause-found
returns-clause-found c = found_from _ _ _ _ c.whole.ensures

pub returns-clause-derived : goal.returns-clause-derived
returns-clause-derived c = read_from _ _ _ _ c.whole.ensures
