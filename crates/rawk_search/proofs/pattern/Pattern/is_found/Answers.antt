use Rattle.rawk_search.proofs.SearchLemmas.{found_is}
use Rattle.rawk_search.proofs.pattern.Pattern.is_found.Goals as goal

pub returns : goal.returns
returns c = found_is c.args.self.now c.args.text.now c.ere.result.now c.in_ok-found.found c.ere.ensures c.in_ok-found.ensures
