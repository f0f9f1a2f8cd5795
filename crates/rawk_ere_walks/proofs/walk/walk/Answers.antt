use Rattle.std.proofs.Common.{◌≡◌, ℕ, List, ◌+◌, ◌-◌, ◌*◌, ◌≤◌, length, arith, sym, ap, subst, ◌∙◌}
use Rattle.rawk_ere_walks.specs.Sets.{AreReached, IsFarthestBefore}
use Rattle.rawk_ere_walks.specs.WalkLemmas.{none_before, noted_is, farthest_stop, farthest_end, wants_none, wants_in}
use Rattle.rawk_ere_walks.proofs.walk.walk.Goals as goal

pub loop-at-init : goal.loop-at-init
loop-at-init c = (
  record {
    now_room = c.start.ensures.room ∙ c.requires.now;
    next_room = c.requires.next;
    reached = c.start.ensures.reached;
    before = none_before c.args.code.now c.args.closed c.args.text.now c.args.from;
  },
  omega arith,
)

pub returns-then-len-eq0-clause-farthest : goal.returns-then-len-eq0-clause-farthest
returns-then-len-eq0-clause-farthest c =
    farthest_stop c.args.code.now c.args.closed c.args.text.now c.args.from c.loop-at.at c.loop-at.now.1 c.loop-at.longest (omega arith) (sym c.len.ensures.value ∙ c.if-len-eq0.true) c.loop-at.invariant.0.reached c.loop-at.invariant.0.before

pub returns-then-len-eq0-clause-asks : goal.returns-then-len-eq0-clause-asks
returns-then-len-eq0-clause-asks c =
    wants_none c.args.code.now c.args.closed c.args.text.now c.args.from c.loop-at.at c.loop-at.now.1 (omega arith) (omega arith) (sym c.len.ensures.value ∙ c.if-len-eq0.true) c.loop-at.invariant.0.reached

pub loop-at-preserved : goal.loop-at-preserved
loop-at-preserved c = (
  record {
    now_room = ap (λ (p : ℕ × List ℕ). p.0) c.swap.ensures.x_after ∙ c.advance.ensures.room ∙ c.loop-at.invariant.0.next_room;
    next_room = ap (λ (p : ℕ × List ℕ). p.0) c.swap.ensures.y_after ∙ c.loop-at.invariant.0.now_room;
    reached = subst (λ (p : ℕ × List ℕ). AreReached c.args.code.now c.args.closed c.args.text.now c.args.from (c.loop-at.at + 1) p.1) (sym c.swap.ensures.x_after) c.advance.ensures.reached;
    before = noted_is c.args.code.now c.args.closed c.args.text.now c.args.from c.loop-at.at c.loop-at.now.1 c.loop-at.longest c.noted-longest.result c.loop-at.invariant.0.reached c.noted-longest.ensures c.loop-at.invariant.0.before;
  },
  let n : c.loop-at.at - c.args.from + 1 ≡ c.loop-at.at + 1 - c.args.from = omega arith in
      let room = length c.args.code.now + 1 in
      subst (λ k. c.counted-entered.result ≤ k * room) n (subst (λ m. c.counted-entered.result ≤ (c.loop-at.at - c.args.from + 1) * m) c.loop-at.invariant.0.now_room c.counted-entered.ensures),
)

pub returns-clause-farthest : goal.returns-clause-farthest
returns-clause-farthest c =
    let e : c.loop-at.at ≡ length c.args.text.now = omega arith in
    let end = length c.args.text.now in
    let reached = subst (λ a. AreReached c.args.code.now c.args.closed c.args.text.now c.args.from a c.loop-at.now.1) e c.loop-at.invariant.0.reached in
    let earlier = subst (λ a. IsFarthestBefore c.args.code.now c.args.closed c.args.text.now c.args.from a c.loop-at.longest) e c.loop-at.invariant.0.before in
    let before = noted_is c.args.code.now c.args.closed c.args.text.now c.args.from end c.loop-at.now.1 c.loop-at.longest c.noted-longest-2.result reached c.noted-longest-2.ensures earlier in
    farthest_end c.args.code.now c.args.closed c.args.text.now c.args.from (end + 1) c.noted-longest-2.result c.requires.from (omega arith) before

pub returns-clause-asks : goal.returns-clause-asks
returns-clause-asks c =
    let e : c.loop-at.at ≡ length c.args.text.now = omega arith in
    let reached = subst (λ a. AreReached c.args.code.now c.args.closed c.args.text.now c.args.from a c.loop-at.now.1) e c.loop-at.invariant.0.reached in
    wants_in c.args.code.now c.args.closed c.args.text.now c.args.from c.loop-at.now.1 c.asks_in.result reached c.asks_in.ensures
