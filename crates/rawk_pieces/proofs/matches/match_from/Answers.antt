use Rattle.std.proofs.Common.{true, sym, ◌∙◌}
use Rattle.rawk_search.specs.Laws.{nonempty_later, nonempty_never}
use Rattle.rawk_pieces.proofs.matches.match_from.Goals as goal

pub returns-then-from-span-clause-found : goal.returns-then-from-span-clause-found
returns-then-from-span-clause-found c =
    sym (nonempty_later true c.args.finder.now.text c.args.finder.now.ere c.args.ahead.from c.args.from c.in-Some.span (sym c.requires.found ∙ c.in-Some.is) c.requires.low c.if-from-span.true)

pub returns-in-None-clause-found : goal.returns-in-None-clause-found
returns-in-None-clause-found c =
    sym (nonempty_never true c.args.finder.now.text c.args.finder.now.ere c.args.ahead.from c.args.from (sym c.requires.found ∙ c.in-None.is) c.requires.low)
