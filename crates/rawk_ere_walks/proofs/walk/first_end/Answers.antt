use Rattle.std.proofs.Common.{◌≡◌, ◌+◌, ◌∙◌, ℕ, List, length, true, sym, ap, subst, arith, true≢false}
use Rattle.rawk_ere_walks.specs.Sets.{HasReached}
use Rattle.rawk_ere_walks.specs.WalkLemmas.{NoneEnded, all_start, none_ended, none_ended_more, no_way, no_way_left, way_found}
use Rattle.rawk_ere_walks.proofs.walk.first_end.Goals as goal

pub loop-at-init : goal.loop-at-init
loop-at-init c = (
  c.start.ensures.room ∙ c.requires.now,
  c.requires.next,
  all_start c.args.code.now true c.args.text.now c.args.from c.args.upto c.start.new.set.1 c.requires.from c.start.ensures.reached,
  none_ended c.args.code.now c.args.text.now c.args.from c.args.upto,
)

pub loop-at-preserved : goal.loop-at-preserved
loop-at-preserved c = (
  ap (λ (p : ℕ × List ℕ). p.0) c.swap.ensures.x_after ∙ c.advance_all.ensures.room ∙ c.loop-at.invariant.1,
  ap (λ (p : ℕ × List ℕ). p.0) c.swap.ensures.y_after ∙ c.loop-at.invariant.0,
  subst (λ (p : ℕ × List ℕ). HasReached c.args.code.now true c.args.text.now c.args.from c.args.upto (c.loop-at.at + 1) p.1) (sym c.swap.ensures.x_after) c.advance_all.ensures.reached,
  none_ended_more c.args.code.now c.args.text.now c.args.from c.args.upto c.loop-at.at c.loop-at.now.1 c.loop-at.invariant.2 (λ h. true≢false (sym (c.has_end.ensures.1 h) ∙ c.if-has_end.false)) c.loop-at.invariant.3,
)

pub returns-then-has_end-clause-ends : goal.returns-then-has_end-clause-ends
returns-then-has_end-clause-ends c =
    way_found c.args.code.now c.args.text.now c.args.from c.args.upto c.loop-at.at c.loop-at.now.1 c.loop-at.invariant.2 (c.has_end.ensures.0 c.if-has_end.true)

pub returns-then-len-eq0-clause-ends : goal.returns-then-len-eq0-clause-ends
returns-then-len-eq0-clause-ends c =
    no_way_left c.args.code.now c.args.text.now c.args.from c.args.upto c.loop-at.at c.loop-at.now.1 c.if-upto-at.true (sym c.len.ensures.value ∙ c.if-len-eq0.true) c.loop-at.invariant.2 c.loop-at.invariant.3

pub returns-then-has_end-2-clause-ends : goal.returns-then-has_end-2-clause-ends
returns-then-has_end-2-clause-ends c =
    let e : c.loop-at.at ≡ length c.args.text.now = omega arith in
    let reached = subst (λ a. HasReached c.args.code.now true c.args.text.now c.args.from c.args.upto a c.loop-at.now.1) e c.loop-at.invariant.2 in
    way_found c.args.code.now c.args.text.now c.args.from c.args.upto (length c.args.text.now) c.loop-at.now.1 reached (c.has_end-2.ensures.0 c.if-has_end-2.true)

pub returns-else-has_end-2-clause-ends : goal.returns-else-has_end-2-clause-ends
returns-else-has_end-2-clause-ends c =
    let code = c.args.code.now in
    let text = c.args.text.now in
    let e : c.loop-at.at ≡ length text = omega arith in
    let reached = subst (λ a. HasReached code true text c.args.from c.args.upto a c.loop-at.now.1) e c.loop-at.invariant.2 in
    let ended = subst (λ a. NoneEnded code text c.args.from c.args.upto a) e c.loop-at.invariant.3 in
    no_way code text c.args.from c.args.upto (length text + 1) (omega arith) c.requires.upto
    (none_ended_more code text c.args.from c.args.upto (length text) c.loop-at.now.1 reached (λ h. true≢false (sym (c.has_end-2.ensures.1 h) ∙ c.if-has_end-2.false)) ended)
