use Rattle.rawk_ere_automaton.proofs.SearchLemmas.{none_join}
use Rattle.rawk_ere_automaton.proofs.TableLemmas.{begins_none_seek, knows_still, later_on}
use Rattle.rawk_ere_automaton.proofs.table.skip_noting.Goals as goal

pub returns-clause-none : goal.returns-clause-none
returns-clause-none c =
    let code = c.args.code.now in
    let text = c.args.text.now in
    let table = c.args.table.now in
    let at = c.beyond-at.result in
    let seek = c.seek_noting.ensures in
    none_join code text c.args.from at c.seek_noting.result c.beyond-at.ensures.none
    (begins_none_seek code text table c.requires.table at c.seek_noting.result (later_on code text table c.args.from at c.beyond-at.ensures.low c.requires.begun) seek.high (λ k. (c.type_inv.text k).fits) c.requires.reads seek.passed)

pub returns-clause-known : goal.returns-clause-known
returns-clause-known c =
    knows_still c.args.code.now c.args.text.now c.args.table.now c.requires.table c.args.known.now c.seek_noting.new.known (λ k. (c.type_inv.text k).fits) c.requires.reads c.seek_noting.ensures.known c.requires.known
