use Rattle.rawk_search.specs.CutsOf.{cuts_of}
use Rattle.rawk_search.proofs.CutsLemmas.{of_cuts}
use Rattle.rawk_search.proofs.laws.cuts.Goals as goal

pub returns : goal.returns
returns c = λ s e ms. (cuts_of s e ms, of_cuts s e ms)
