use Rattle.std.proofs.Common.{ℕ, ◌+◌, ◌*◌, ◌<◌, true, length, get_or, arith, sym, subst}
use Rattle.std.proofs.lemmas.List.{get_or_read}
use Rattle.rawk_ere_walks.specs.Sets.{IsFarthest}
use Rattle.rawk_ere_automaton.proofs.TableLemmas.{single_is}
use Rattle.rawk_ere_automaton.proofs.table.run_here.Goals as goal
use Rattle.rawk_ere_automaton.proofs.table.run_here.Goals.{then-to-table, else-to-table}

pub returns-clause-farthest : goal.returns-clause-farthest
returns-clause-farthest c =
    let code = c.args.code.now in
    let text = c.args.text.now in
    let table = c.args.table.now in
    let t = c.requires.table in
    let from = c.args.from in
    let fits : (k : ℕ) → get_or text k 0 < 256 = λ k. (c.type_inv.text k).fits in
    let b = get_or text from 0 in
    let within : table.later * 256 + b < length table.next.items = omega (arith, t.starts.later_within, t.all, fits from) in
    let to = get_or_read table.next.items (table.later * 256 + b) _ within c.index.ensures 0 in
    let is = single_is code text table t from c.index.result.now (omega (arith, c.if-from-eq0.false)) c.requires.within fits c.if-not-table.false to in
    elim c.if-to-table.branch [
      | then-to-table w ↦ subst (IsFarthest code true text from) (sym w.longest-is) (is.0 w.if-to-table.true)
      | else-to-table w ↦ subst (IsFarthest code true text from) (sym w.longest-is) (is.1 w.if-to-table.false)
    ]
