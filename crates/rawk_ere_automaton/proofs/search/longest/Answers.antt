use Rattle.rawk_ere_automaton.proofs.SearchLemmas.{way_between}
use Rattle.rawk_ere_automaton.proofs.search.longest.Goals as goal

pub returns-clause-within : goal.returns-clause-within
returns-clause-within c = way_between c.args.code.now c.args.text.now c.args.closed c.args.from c.walk.result.longest c.requires c.walk.ensures.farthest
