use Rattle.rawk_search.specs.EndsOf.{ends_in, ends_of, needs_in, needs_of}
use Rattle.rawk_search.proofs.laws.places.Goals as goal

pub returns : goal.returns
returns c = record { ends = λ closed s e i j. (ends_in closed s e i j, ends_of closed s e i j); needs = λ s e i. (needs_in s e i, needs_of s e i) }
