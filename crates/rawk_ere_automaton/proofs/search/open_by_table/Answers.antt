use Rattle.std.proofs.Common.{◌+◌, ◌∙◌, sym, true≢false, arith}
use Rattle.rawk_ere_automaton.proofs.SearchLemmas.{may_more, none_may_join}
use Rattle.rawk_ere_automaton.proofs.search.open_by_table.Goals as goal

pub returns-then-spent-left : goal.returns-then-spent-left
returns-then-spent-left c =
    let i = c.loop-begin.invariant in
    let code = c.args.code.now in
    let text = c.args.text.now in
    let more = may_more code text c.args.from c.loop-begin.begin c.run_open-ran.result.longest c.run_open-ran.result.asks i.none c.run_open-ran.ensures.farthest c.run_open-ran.ensures.asks
    (λ h. true≢false (sym h ∙ c.if-ran.false)) (λ h. true≢false (sym (c.reads.ensures.1 h) ∙ c.if-reads.false)) in
    (omega (arith, i.low, c.skip_open-next.ensures.low), c.skip_open-next.ensures.high, none_may_join code text c.args.from (c.loop-begin.begin + 1) c.skip_open-next.result more c.skip_open-next.ensures.none)

pub loop-begin-preserved : goal.loop-begin-preserved
loop-begin-preserved c =
    let i = c.loop-begin.invariant in
    let code = c.args.code.now in
    let text = c.args.text.now in
    let more = may_more code text c.args.from c.loop-begin.begin c.run_open-ran.result.longest c.run_open-ran.result.asks i.none c.run_open-ran.ensures.farthest c.run_open-ran.ensures.asks
    (λ h. true≢false (sym h ∙ c.if-ran.false)) (λ h. true≢false (sym (c.reads.ensures.1 h) ∙ c.if-reads.false)) in
    record {
      low = omega (arith, i.low, c.skip_open-next.ensures.low);
      high = c.skip_open-next.ensures.high;
      none = none_may_join code text c.args.from (c.loop-begin.begin + 1) c.skip_open-next.result more c.skip_open-next.ensures.none;
    }
