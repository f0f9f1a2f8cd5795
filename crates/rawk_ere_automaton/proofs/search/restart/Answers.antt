use Rattle.std.proofs.Common.{◌≡◌, ◌+◌, length, subst, arith}
use Rattle.rawk_ere_automaton.specs.Search.{BeginsNone}
use Rattle.rawk_ere_automaton.proofs.SearchLemmas.{found_here, none_more, none_join}
use Rattle.rawk_ere_automaton.proofs.search.restart.Goals as goal

pub returns-in-Some-clause-progress : goal.returns-in-Some-clause-progress
returns-in-Some-clause-progress c =
    let i = c.loop-begin.invariant in
    found_here c.args.code.now c.args.text.now c.args.from c.loop-begin.begin c.in-Some.end c.run_here-ran.result.longest c.in-Some.is i.low i.high i.none c.run_here-ran.ensures.farthest

pub returns-then-spent-left-clause-progress : goal.returns-then-spent-left-clause-progress
returns-then-spent-left-clause-progress c =
    let i = c.loop-begin.invariant in
    let code = c.args.code.now in
    let text = c.args.text.now in
    let more = none_more code text c.args.from c.loop-begin.begin c.run_here-ran.result.longest c.in-None.is i.none c.run_here-ran.ensures.farthest in
    (omega (arith, i.low, c.skip_on-next.ensures.low), c.skip_on-next.ensures.high, none_join code text c.args.from (c.loop-begin.begin + 1) c.skip_on-next.result more c.skip_on-next.ensures.none)

pub loop-begin-preserved : goal.loop-begin-preserved
loop-begin-preserved c =
    let i = c.loop-begin.invariant in
    let code = c.args.code.now in
    let text = c.args.text.now in
    let more = none_more code text c.args.from c.loop-begin.begin c.run_here-ran.result.longest c.in-None.is i.none c.run_here-ran.ensures.farthest in
    record {
      low = omega (arith, i.low, c.skip_on-next.ensures.low);
      high = c.skip_on-next.ensures.high;
      none = none_join code text c.args.from (c.loop-begin.begin + 1) c.skip_on-next.result more c.skip_on-next.ensures.none;
      known = c.skip_on-next.ensures.known;
    }

pub returns-clause-progress : goal.returns-clause-progress
returns-clause-progress c =
    let i = c.loop-begin.invariant in
    let e : c.loop-begin.begin ≡ length c.args.text.now = omega (arith, i.high, c.loop-begin-test.false) in
    subst (λ x. BeginsNone c.args.code.now c.args.text.now c.args.from x) e i.none
