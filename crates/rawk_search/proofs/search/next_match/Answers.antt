use Rattle.std.proofs.Common.{sym, subst, ◌∙◌}
use Rattle.std.specs.Option.{IfSome}
use Rattle.rawk_search.specs.Found.{IsWithin}
use Rattle.rawk_search.proofs.SearchLemmas.{match_between, between_within}
use Rattle.rawk_search.proofs.search.next_match.Goals as goal

pub returns-clause-is : goal.returns-clause-is
returns-clause-is c =
    c.span.ensures ∙ sym (match_between c.args.text.now c.args.ere.now c.args.from c.in_ok-found.found c.in_ok-found.ensures.is c.in_ok-found.ensures.within)

pub returns-clause-within : goal.returns-clause-within
returns-clause-within c =
    subst (λ o. IfSome o (IsWithin c.args.from c.args.text.now)) (sym c.span.ensures) (between_within c.args.text.now c.args.from c.in_ok-found.found c.in_ok-found.ensures.within)
