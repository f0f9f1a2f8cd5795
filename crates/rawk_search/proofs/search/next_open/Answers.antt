use Rattle.std.proofs.Common.{sym, ◌∙◌}
use Rattle.rawk_search.specs.Found.{open_of}
use Rattle.rawk_search.proofs.SearchLemmas.{open_spans}
use Rattle.rawk_search.proofs.search.next_open.Goals as goal

pub returns-clause-is : goal.returns-clause-is
returns-clause-is c = c.span.ensures ∙ sym (open_of c.args.text.now c.args.ere.now c.args.from c.in_ok-found.found c.in_ok-found.ensures.is)

pub returns-clause-within : goal.returns-clause-within
returns-clause-within c =
    open_spans c.args.text.now c.args.ere.now c.args.from c.span.result (c.span.ensures ∙ sym (open_of c.args.text.now c.args.ere.now c.args.from c.in_ok-found.found c.in_ok-found.ensures.is))
