use Rattle.std.proofs.Common.{◌≡◌, ◌+◌, ◌∙◌, ℕ, List, length, false, sym, ap, subst, arith, true≢false}
use Rattle.rawk_ere_walks.specs.Sets.{HasReached}
use Rattle.rawk_ere_walks.specs.WalkLemmas.{NoneRead, all_start, none_read, none_read_more, may_found, may_stop, may_end, may_end_none}
use Rattle.rawk_ere_walks.proofs.walk.may_begin_by.Goals as goal

pub loop-at-init : goal.loop-at-init
loop-at-init c = (
  c.start.ensures.room ∙ c.requires.now,
  c.requires.next,
  all_start c.args.code.now false c.args.text.now c.args.from c.args.upto c.start.new.set.1 c.requires.from c.start.ensures.reached,
  none_read c.args.code.now c.args.text.now c.args.from c.args.upto,
)

pub loop-at-preserved : goal.loop-at-preserved
loop-at-preserved c = (
  ap (λ (p : ℕ × List ℕ). p.0) c.swap.ensures.x_after ∙ c.begin_next.ensures.room ∙ c.advance_begun.ensures.room ∙ c.loop-at.invariant.1,
  ap (λ (p : ℕ × List ℕ). p.0) c.swap.ensures.y_after ∙ c.loop-at.invariant.0,
  subst (λ (p : ℕ × List ℕ). HasReached c.args.code.now false c.args.text.now c.args.from c.args.upto (c.loop-at.at + 1) p.1) (sym c.swap.ensures.x_after) c.begin_next.ensures.reached,
  none_read_more c.args.code.now c.args.text.now c.args.from c.args.upto c.loop-at.at c.advance_begun.new.next.1 c.advance_begun.ensures.reached (λ h. true≢false (sym (c.has_end.ensures.1 h) ∙ c.if-has_end.false)) c.loop-at.invariant.3,
)

pub returns-then-len-eq0-clause-by : goal.returns-then-len-eq0-clause-by
returns-then-len-eq0-clause-by c =
    may_stop c.args.code.now c.args.text.now c.args.from c.args.upto c.loop-at.at c.loop-at.now.1 c.if-upto-at.true (omega arith) (sym c.len.ensures.value ∙ c.if-len-eq0.true) c.loop-at.invariant.2 c.loop-at.invariant.3

pub returns-then-has_end-clause-by : goal.returns-then-has_end-clause-by
returns-then-has_end-clause-by c =
    may_found c.args.code.now c.args.text.now c.args.from c.args.upto c.loop-at.at c.advance_begun.new.next.1 c.min.result c.min.ensures c.requires.from (omega arith) c.advance_begun.ensures.reached (c.has_end.ensures.0 c.if-has_end.true)

pub returns-then-asks_in-clause-by : goal.returns-then-asks_in-clause-by
returns-then-asks_in-clause-by c =
    let e : c.loop-at.at ≡ length c.args.text.now = omega arith in
    let reached = subst (λ a. HasReached c.args.code.now false c.args.text.now c.args.from c.args.upto a c.loop-at.now.1) e c.loop-at.invariant.2 in
    may_end c.args.code.now c.args.text.now c.args.from c.args.upto c.loop-at.now.1 c.asks_in.result c.requires.from c.requires.upto c.asks_in.ensures c.if-asks_in.true reached

pub returns-else-asks_in-clause-by : goal.returns-else-asks_in-clause-by
returns-else-asks_in-clause-by c =
    let code = c.args.code.now in
    let text = c.args.text.now in
    let e : c.loop-at.at ≡ length text = omega arith in
    let reached = subst (λ a. HasReached code false text c.args.from c.args.upto a c.loop-at.now.1) e c.loop-at.invariant.2 in
    let read = subst (λ a. NoneRead code text c.args.from c.args.upto a) e c.loop-at.invariant.3 in
    may_end_none code text c.args.from c.args.upto c.loop-at.now.1 c.asks_in.result c.requires.upto c.asks_in.ensures (λ h. true≢false (sym h ∙ c.if-asks_in.false)) reached read
