use Rattle.std.proofs.Common.{◌≡◌, ◌+◌, length, refl, sym, ◌∙◌, true≢false, arith}
use Rattle.rawk_ere_automaton.proofs.SearchLemmas.{none_more_way, none_join, found_way, found_passed, found_last}
use Rattle.rawk_ere_automaton.proofs.search.is_found_by.Goals as goal

pub returns-then-found : goal.returns-then-found
returns-then-found c = (
  λ h. found_way c.args.code.now c.args.text.now c.loop-begin.begin c.loop-begin.invariant.high (c.first_stop-found.ensures.way.0 c.if-found.true),
  λ w. refl,
)

pub returns-then-spent-left : goal.returns-then-spent-left
returns-then-spent-left c =
    let code = c.args.code.now in
    let text = c.args.text.now in
    let begin = c.loop-begin.begin in
    let more = none_more_way code text 0 begin (λ j w. true≢false (sym (c.first_stop-found.ensures.way.1 (j, w)) ∙ c.if-found.false)) c.loop-begin.invariant.none in
    found_passed code text c.skip_on-next.result c.in_ok-passed.passed c.is_some.result c.is_some.ensures (none_join code text 0 (begin + 1) c.skip_on-next.result more c.skip_on-next.ensures.none) c.in_ok-passed.ensures

pub loop-begin-preserved : goal.loop-begin-preserved
loop-begin-preserved c =
    let code = c.args.code.now in
    let text = c.args.text.now in
    let begin = c.loop-begin.begin in
    let more = none_more_way code text 0 begin (λ j w. true≢false (sym (c.first_stop-found.ensures.way.1 (j, w)) ∙ c.if-found.false)) c.loop-begin.invariant.none in
    record { high = c.skip_on-next.ensures.high; none = none_join code text 0 (begin + 1) c.skip_on-next.result more c.skip_on-next.ensures.none; known = c.skip_on-next.ensures.known }

pub returns : goal.returns
returns c =
    let e : c.loop-begin.begin ≡ length c.args.text.now = omega (arith, c.loop-begin.invariant.high, c.loop-begin-test.false) in
    found_last c.args.code.now c.args.text.now c.loop-begin.begin c.first_stop-last.result.is_end e c.loop-begin.invariant.none c.first_stop-last.ensures.way
