use Rattle.rawk_grammar.proofs.CompleteItems.{one_program}
use Rattle.rawk_grammar.proofs.laws.unambiguous.Goals as goal

pub returns : goal.returns
returns c = one_program
