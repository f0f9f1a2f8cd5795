use Rattle.std.proofs.Common.{false, arith, sym, ◌∙◌}
use Rattle.std.proofs.lemmas.List.{get_or_read}
use Rattle.rawk_ere_automaton.proofs.TableLemmas.{begins_none_next}
use Rattle.rawk_ere_automaton.proofs.table.skip_on.Goals as goal

pub returns-in-Some-clause-none : goal.returns-in-Some-clause-none
returns-in-Some-clause-none c = begins_none_next c.args.code.now c.args.text.now c.args.known.now c.args.from c.in-Some.at c.if-from-gt0.true c.requires.known (rw c.in-Some.is at c.next.ensures)

pub skip_noting-requires-clause-reads : goal.skip_noting-requires-clause-reads
skip_noting-requires-clause-reads c =
    let table = c.args.table.now in
    let t = c.requires.table in
    sym (get_or_read table.ends.items table.later _ (omega (arith, t.starts.later_within, t.ends_all)) c.index.ensures false) ∙ c.if-index.false
