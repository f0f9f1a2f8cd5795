use Rattle.std.proofs.Common.{◌≡◌, ℕ, ◌<◌, get_or, arith, subst}
use Rattle.rawk_ere_automaton.specs.Search.{NoneMay}
use Rattle.rawk_ere_automaton.proofs.SearchLemmas.{none_may_join}
use Rattle.rawk_ere_automaton.proofs.TableLemmas.{none_may_dead, none_may_seek, later_on}
use Rattle.rawk_ere_automaton.proofs.table.skip_open.Goals as goal

pub returns-then-first-upto-clause-none : goal.returns-then-first-upto-clause-none
returns-then-first-upto-clause-none c =
    let text = c.args.text.now in
    let fits : (k : ℕ) → get_or text k 0 < 256 = λ k. (c.type_inv.text k).fits in
    none_may_dead c.args.code.now text c.args.table.now c.requires.table c.args.from c.args.from c.pass_dead-first.result c.requires.begun (omega (arith, c.pass_dead-first.ensures.high, c.near-upto.ensures.high)) fits
    c.pass_dead-first.ensures.dead (λ i low lt m. omega (arith, low, lt))

pub returns-clause-none : goal.returns-clause-none
returns-clause-none c =
    let code = c.args.code.now in
    let text = c.args.text.now in
    let table = c.args.table.now in
    let fits : (k : ℕ) → get_or text k 0 < 256 = λ k. (c.type_inv.text k).fits in
    let e : c.pass_dead-first.result ≡ c.near-upto.result = omega (arith, c.pass_dead-first.ensures.high, c.if-first-upto.false) in
    let before = none_may_dead code text table c.requires.table c.args.from c.args.from c.pass_dead-first.result c.requires.begun (omega (arith, c.pass_dead-first.ensures.high, c.near-upto.ensures.high)) fits
    c.pass_dead-first.ensures.dead (λ i low lt m. omega (arith, low, lt)) in
    let after = none_may_seek code text table c.requires.table c.near-upto.result c.seek.result (later_on code text table c.args.from c.near-upto.result c.near-upto.ensures.low c.requires.begun) c.seek.ensures.high fits c.seek.ensures.passed in
    none_may_join code text c.args.from c.near-upto.result c.seek.result (subst (NoneMay code text c.args.from) e before) after
