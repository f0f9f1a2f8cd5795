use Rattle.rawk_ere_automaton.proofs.SearchLemmas.{first_longest}
use Rattle.rawk_ere_automaton.proofs.search.halve.Goals as goal

pub returns : goal.returns
returns c =
    first_longest c.args.code.now c.args.text.now c.args.from c.first_begin-begin.result c.run-ran.result.longest c.span.result c.first_begin-begin.ensures.within c.first_begin-begin.ensures.first c.run-ran.ensures.farthest c.span.ensures
