use Rattle.std.proofs.Common.{sym, ◌∙◌}
use Rattle.rawk_search.proofs.SearchLemmas.{match_between}
use Rattle.rawk_search.proofs.search.next_match_on.Goals as goal

pub returns-clause-is : goal.returns-clause-is
returns-clause-is c =
    c.span.ensures
    ∙ sym (match_between c.args.finder.now.text c.args.finder.now.ere c.args.from c.in_ok-found.found c.in_ok-found.ensures.is c.in_ok-found.ensures.within)
