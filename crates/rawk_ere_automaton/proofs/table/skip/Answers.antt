use Rattle.std.proofs.Common.{◌≡◌, ℕ, ◌<◌, false, get_or, arith, subst, sym, ◌∙◌}
use Rattle.std.proofs.lemmas.List.{get_or_read}
use Rattle.rawk_ere_automaton.specs.Search.{BeginsNone}
use Rattle.rawk_ere_automaton.proofs.SearchLemmas.{none_join}
use Rattle.rawk_ere_automaton.proofs.TableLemmas.{begins_none_dead, begins_none_seek, later_on}
use Rattle.rawk_ere_automaton.proofs.table.skip.Goals as goal

pub returns-then-first-upto-clause-none : goal.returns-then-first-upto-clause-none
returns-then-first-upto-clause-none c =
    let text = c.args.text.now in
    let table = c.args.table.now in
    let t = c.requires.table in
    let fits : (k : ℕ) → get_or text k 0 < 256 = λ k. (c.type_inv.text k).fits in
    let read = get_or_read table.ends.items table.later _ (omega (arith, t.starts.later_within, t.ends_all)) c.index.ensures false in
    begins_none_dead c.args.code.now text table t c.args.from c.args.from c.pass_dead-first.result c.requires.begun (omega (arith, c.pass_dead-first.ensures.high, c.near-upto.ensures.high)) fits (sym read ∙ c.if-index.false)
    c.pass_dead-first.ensures.dead (λ i j low lt w. omega (arith, low, lt))

pub returns-clause-none : goal.returns-clause-none
returns-clause-none c =
    let code = c.args.code.now in
    let text = c.args.text.now in
    let table = c.args.table.now in
    let t = c.requires.table in
    let fits : (k : ℕ) → get_or text k 0 < 256 = λ k. (c.type_inv.text k).fits in
    let read = get_or_read table.ends.items table.later _ (omega (arith, t.starts.later_within, t.ends_all)) c.index.ensures false in
    let e : c.pass_dead-first.result ≡ c.near-upto.result = omega (arith, c.pass_dead-first.ensures.high, c.if-first-upto.false) in
    let before = begins_none_dead code text table t c.args.from c.args.from c.pass_dead-first.result c.requires.begun (omega (arith, c.pass_dead-first.ensures.high, c.near-upto.ensures.high)) fits (sym read ∙ c.if-index.false)
    c.pass_dead-first.ensures.dead (λ i j low lt w. omega (arith, low, lt)) in
    let after = begins_none_seek code text table t c.near-upto.result c.seek.result (later_on code text table c.args.from c.near-upto.result c.near-upto.ensures.low c.requires.begun) c.seek.ensures.high fits (sym read ∙ c.if-index.false) c.seek.ensures.passed in
    none_join code text c.args.from c.near-upto.result c.seek.result (subst (BeginsNone code text c.args.from) e before) after
