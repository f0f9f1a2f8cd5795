use Rattle.std.proofs.Common.{subst}
use Rattle.rawk_ere_automaton.specs.Search.{IsOpening}
use Rattle.rawk_ere_automaton.proofs.SearchLemmas.{opening_from}
use Rattle.rawk_ere_automaton.proofs.search.opening.Goals as goal

pub returns-in_ok-found-in-After : goal.returns-in_ok-found-in-After
returns-in_ok-found-in-After c =
    let before = subst (IsOpening c.args.code.now c.args.text.now c.args.from) c.in-After.is c.open_by_table.ensures in
    opening_from c.args.code.now c.args.text.now c.args.from c.in-After.at c.in_ok-found-in-After.found before.0 before.2 c.in_ok-found-in-After.ensures
