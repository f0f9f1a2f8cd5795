use Rattle.rawk_ere_last.proofs.FindLemmas.{begins_where_found}
use Rattle.rawk_ere_last.proofs.find.is_found_apart.Goals as goal

pub find_last-requires-clause-last : goal.find_last-requires-clause-last
find_last-requires-clause-last c = c.requires.last c.in-Some-width.width c.in-Some-width.is

pub returns-in-Some-width : goal.returns-in-Some-width
returns-in-Some-width c = begins_where_found c.args.code.now c.args.text.now c.find_last.result c.is_some.result c.is_some.ensures c.find_last.ensures
