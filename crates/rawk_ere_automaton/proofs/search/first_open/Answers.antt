use Rattle.std.proofs.Common.{sym, subst, ◌∙◌, true≢false}
use Rattle.rawk_ere_automaton.specs.Search.{IsOpening}
use Rattle.rawk_ere_automaton.proofs.SearchLemmas.{opened_asks, opened_here, opened_none}
use Rattle.rawk_ere_automaton.proofs.search.first_open.Goals as goal

pub returns-then-asks-clause-is : goal.returns-then-asks-clause-is
returns-then-asks-clause-is c =
    let found = subst (IsOpening c.args.code.now c.args.text.now c.args.from) c.in-At.is c.in_ok-found.ensures.0 in
    opened_asks c.args.code.now c.args.text.now c.args.from c.in-At.begin c.in-At.longest c.in-At.asks found c.if-asks.true

pub returns-in-After-clause-is : goal.returns-in-After-clause-is
returns-in-After-clause-is c =
    let found = subst (IsOpening c.args.code.now c.args.text.now c.args.from) c.in-After.is c.in_ok-found.ensures.0 in
    opened_none c.args.code.now c.args.text.now c.args.from c.in-After.field-0 found (c.in_ok-found.ensures.1 c.in-After.field-0 c.in-After.is)

pub returns-else-asks-clause-is : goal.returns-else-asks-clause-is
returns-else-asks-clause-is c =
    let found = subst (IsOpening c.args.code.now c.args.text.now c.args.from) c.in-At.is c.in_ok-found.ensures.0 in
    (opened_here c.args.code.now c.args.text.now c.args.from c.in-At.begin c.in-At.longest c.in-At.asks c.span.result found (λ h. true≢false (sym h ∙ c.if-asks.false)) c.span.ensures).0

pub returns-else-asks-clause-within : goal.returns-else-asks-clause-within
returns-else-asks-clause-within c =
    let found = subst (IsOpening c.args.code.now c.args.text.now c.args.from) c.in-At.is c.in_ok-found.ensures.0 in
    (opened_here c.args.code.now c.args.text.now c.args.from c.in-At.begin c.in-At.longest c.in-At.asks c.span.result found (λ h. true≢false (sym h ∙ c.if-asks.false)) c.span.ensures).1
