use Rattle.rawk_ere_last.proofs.find.first_apart.Goals as goal

pub find_last-requires-clause-last : goal.find_last-requires-clause-last
find_last-requires-clause-last c = c.requires.last c.in-Some-width.width c.in-Some-width.is
