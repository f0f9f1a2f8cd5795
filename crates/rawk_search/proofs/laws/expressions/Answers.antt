use Rattle.rawk_search.proofs.ExpressionLemmas.{read_is, is_read}
use Rattle.rawk_search.proofs.laws.expressions.Goals as goal

pub returns : goal.returns
returns c = λ pattern e. (λ r. read_is pattern e r.0 r.1, is_read pattern e)
