use Rattle.std.proofs.Common.{◌∙◌, ◌≤◌, sym, drop, arith, length}
use Rattle.std.proofs.Math.ListN.{drop_of_length-le}
use Rattle.rawk_ere_pattern.proofs.BracketLemmas.{gather_more, gather_end, gather_none, gather_open}
use Rattle.rawk_ere_pattern.proofs.bracket.gather.Goals as goal

pub returns-then-is_closed-clause-is : goal.returns-then-is_closed-clause-is
returns-then-is_closed-clause-is c =
    let p = c.args.pattern.now in
    gather_end (drop c.args.from p) c.loop-at.place c.loop-at.at p c.args.set.now c.loop-at.set c.loop-at.invariant.2 (sym c.is_closed.ensures ∙ c.if-is_closed.true)

pub returns-in-None-clause-is : goal.returns-in-None-clause-is
returns-in-None-clause-is c =
    let p = c.args.pattern.now in
    gather_none (drop c.args.from p) c.loop-at.place (drop c.loop-at.at p) c.args.set.now c.loop-at.set c.loop-at.invariant.2 (sym c.is_closed.ensures ∙ c.if-is_closed.false) c.in-None.ensures.is

pub returns-clause-is : goal.returns-clause-is
returns-clause-is c =
    let p = c.args.pattern.now in
    let le : length p ≤ c.loop-at.at = c.loop-at-test.false in
    gather_open (drop c.args.from p) c.loop-at.place (drop c.loop-at.at p) c.args.set.now c.loop-at.set (drop_of_length-le p le) c.loop-at.invariant.2

pub loop-at-preserved : goal.loop-at-preserved
loop-at-preserved c =
    let p = c.args.pattern.now in (
      omega (arith, c.loop-at.invariant.0, c.in-Some.ensures.within.0),
      c.in-Some.ensures.within.1,
      gather_more (drop c.args.from p) c.loop-at.place c.in-Some.after (drop c.loop-at.at p) (drop c.in-Some.next p) c.args.set.now c.loop-at.set c.add_item.new.set c.in-Some.item
          c.loop-at.invariant.2 (sym c.is_closed.ensures ∙ c.if-is_closed.false) c.in-Some.ensures.is c.add_item.ensures,
    )
