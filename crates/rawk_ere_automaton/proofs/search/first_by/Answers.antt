use Rattle.rawk_ere_automaton.proofs.SearchLemmas.{found_from}
use Rattle.rawk_ere_automaton.proofs.search.first_by.Goals as goal

pub returns-in_ok-found-in-Paused-clause-found : goal.returns-in_ok-found-in-Paused-clause-found
returns-in_ok-found-in-Paused-clause-found c =
    found_from c.args.code.now c.args.text.now c.args.from c.in-Paused.at c.in_ok-found-in-Paused.found c.in-Paused.ensures.progress.0 c.in-Paused.ensures.progress.2 c.in_ok-found-in-Paused.ensures.found
