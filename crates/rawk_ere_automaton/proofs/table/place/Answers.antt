use Rattle.rawk_ere_automaton.proofs.BuildLemmas.{placed_found}
use Rattle.rawk_ere_automaton.proofs.table.place.Goals as goal

pub returns-in-Some : goal.returns-in-Some
returns-in-Some c =
    placed_found c.args.sets.now.items c.deref.result.now c.args.set.1 c.in-Some.row c.deref.ensures.value (c.row_of-found.ensures c.in-Some.row c.in-Some.is)
