use Rattle.rawk_search.specs.Found.{span_of, nonempty_is, is_nonempty, none_is, is_none}
use Rattle.rawk_search.proofs.SearchLemmas.{match_between}
use Rattle.rawk_search.proofs.laws.matches.Goals as goal

pub returns : goal.returns
returns c = record {
  first = match_between;
  some = λ closed s e p m. (is_nonempty closed s e p m, nonempty_is closed s e p (span_of m));
  none = λ closed s e p. (is_none closed s e p, none_is closed s e p);
}
