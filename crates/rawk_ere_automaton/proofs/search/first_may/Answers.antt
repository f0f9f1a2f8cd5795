use Rattle.std.proofs.Common.{◌+◌, ◌-◌, ◌/◌, arith}
use Rattle.rawk_ere_automaton.proofs.SearchLemmas.{may_none, may_left, may_done}
use Rattle.rawk_ere_automaton.proofs.search.first_may.Goals as goal

pub loop-low-preserved : goal.loop-low-preserved
loop-low-preserved c =
    let i = c.loop-low.invariant in
    let low = c.loop-low.low in
    let middle = low + (c.loop-low.high - low) / 2 in
    record {
      now = c.may_begin_by-found.ensures.now;
      next = c.may_begin_by-found.ensures.next;
      low = omega (arith, i.low);
      between = omega (arith, i.between);
      high = i.high;
      none = may_none c.args.code.now c.args.text.now c.args.from low middle c.may_begin_by-found.result c.in-None.is c.may_begin_by-found.ensures.by i.none;
      some = may_left c.args.code.now c.args.text.now low c.loop-low.high middle c.may_begin_by-found.result c.in-None.is c.may_begin_by-found.ensures.by i.some;
    }

pub returns-clause-here : goal.returns-clause-here
returns-clause-here c = may_done c.args.code.now c.args.text.now c.loop-low.low c.loop-low.high (omega arith) c.loop-low.invariant.some
