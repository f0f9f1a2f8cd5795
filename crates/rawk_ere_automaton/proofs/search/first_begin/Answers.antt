use Rattle.std.proofs.Common.{◌+◌, ◌-◌, ◌/◌, arith}
use Rattle.rawk_ere_automaton.proofs.SearchLemmas.{half_none, half_left, half_done}
use Rattle.rawk_ere_automaton.proofs.search.first_begin.Goals as goal

pub loop-low-preserved : goal.loop-low-preserved
loop-low-preserved c =
    let i = c.loop-low.invariant in
    let low = c.loop-low.low in
    let middle = low + (c.loop-low.high - low) / 2 in
    record {
      now = c.first_end-found.ensures.now;
      next = c.first_end-found.ensures.next;
      low = omega (arith, i.low);
      between = omega (arith, i.between);
      high = i.high;
      before = half_none c.args.code.now c.args.text.now c.args.from low c.loop-low.high middle c.first_end-found.result c.in-None.is c.first_end-found.ensures.ends i.before;
      some = half_left c.args.code.now c.args.text.now low c.loop-low.high middle c.first_end-found.result c.in-None.is c.first_end-found.ensures.ends i.some;
    }

pub returns-clause-first : goal.returns-clause-first
returns-clause-first c =
    let i = c.loop-low.invariant in half_done c.args.code.now c.args.text.now c.args.from c.loop-low.low c.loop-low.high i.low (omega arith) i.before i.some
