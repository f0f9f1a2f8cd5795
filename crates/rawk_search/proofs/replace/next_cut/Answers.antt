use Rattle.std.proofs.Common.{◌≡◌, ◌+◌, ◌∙◌, length, sym, ap, arith}
use Rattle.std.proofs.lemmas.Result.{IfOk-weaker}
use Rattle.rawk_search.specs.Matches.{first_match}
use Rattle.rawk_search.specs.Replacements.{next_cut}
use Rattle.rawk_search.proofs.CutLemmas.{cut_missing, cut_long, cut_apart, cut_further, no_match_past}
use Rattle.rawk_search.proofs.replace.next_cut.Goals as goal
use Rattle.rawk_search.proofs.replace.next_cut.Goals.{then-found-via-then-found, then-found-via-else-found+then-ne}

pub returns-in_default-clause-is : goal.returns-in_default-clause-is
returns-in_default-clause-is c = cut_missing c.args.finder.now.text c.args.finder.now.ere c.args.after c.args.from c.in_ok-found.field-0 c.in_ok-found.ensures.is c.in_default.is

pub returns-then-found-clause-is : goal.returns-then-found-clause-is
returns-then-found-clause-is c =
    elim c.then-found.branch [
      | then-found-via-then-found w ↦ cut_long c.args.finder.now.text c.args.finder.now.ere c.args.after c.args.from c.in_ok-found.field-0 c.in-Some.found c.in_ok-found.ensures.is c.in-Some.is w.if-found.true
      | then-found-via-else-found+then-ne w ↦
          cut_apart c.args.finder.now.text c.args.finder.now.ere c.args.after c.args.from c.in_ok-found.field-0 c.in-Some.found c.in_ok-found.ensures.is c.in-Some.is (sym w.if-ne.true ∙ w.ne.ensures)
    ]

pub returns-then-found-len-clause-is : goal.returns-then-found-len-clause-is
returns-then-found-len-clause-is c =
    let w = rw c.in-Some.is at c.in_ok-found.ensures.within in
    let end = ap (λ f. length f.text) c.next_match_on.ensures.same in
    sym (no_match_past c.args.finder.now.text c.args.finder.now.ere (c.in-Some.found.start + 1) (omega (arith, c.if-found-len.true, c.len.ensures, end)))
    ∙ cut_further c.args.finder.now.text c.args.finder.now.ere c.args.after c.args.from c.in_ok-found.field-0 c.in-Some.found c.in_ok-found.ensures.is c.in-Some.is w.1 c.if-found.false (sym c.if-ne.false ∙ c.ne.ensures)

pub returns-clause-is : goal.returns-clause-is
returns-clause-is c =
    let w = rw c.in-Some.is at c.in_ok-found.ensures.within in
    IfOk-weaker c.next_match_again.result (λ o. o ≡ first_match c.next_match_on.new.finder.text c.next_match_on.new.finder.ere (c.in-Some.found.start + 1))
    (λ o. o ≡ next_cut c.args.finder.now.text c.args.finder.now.ere c.args.from c.args.after)
    (λ o is.
    is ∙ ap (λ f. first_match f.text f.ere (c.in-Some.found.start + 1)) c.next_match_on.ensures.same
    ∙ cut_further c.args.finder.now.text c.args.finder.now.ere c.args.after c.args.from c.in_ok-found.field-0 c.in-Some.found c.in_ok-found.ensures.is c.in-Some.is w.1 c.if-found.false (sym c.if-ne.false ∙ c.ne.ensures))
    c.next_match_again.ensures.is
