use Rattle.std.proofs.Common.{true, length, refl, sym, ap, subst, ◌∙◌, arith}
use Rattle.rawk_ere_tree.specs.Ends.{IsMatch}
use Rattle.rawk_search.specs.Laws.{nonempty_within}
use Rattle.rawk_search.proofs.SearchLemmas.{found_long, found_short, found_end, found_none}
use Rattle.rawk_search.proofs.search.next_nonempty_on.Goals as goal

pub loop-start-init : goal.loop-start-init
loop-start-init c = record { stays = refl; low = omega arith; high = c.requires; same = refl }

pub returns-then-start-end-clause-is : goal.returns-then-start-end-clause-is
returns-then-start-end-clause-is c =
    let is = subst (λ f. IsMatch f.text f.ere c.loop-start.at c.in_ok-start.field-0) c.loop-start.invariant.stays c.in_ok-start.ensures.is in
    sym (c.loop-start.invariant.same
    ∙ found_long c.args.finder.now.text c.args.finder.now.ere c.loop-start.at c.in_ok-start.field-0 c.in-Some.start c.in-Some.end c.in-Some.is is c.if-start-end.true)

pub returns-then-start-end-clause-within : goal.returns-then-start-end-clause-within
returns-then-start-end-clause-within c =
    let is = subst (λ f. IsMatch f.text f.ere c.loop-start.at c.in_ok-start.field-0) c.loop-start.invariant.stays c.in_ok-start.ensures.is in
    let w = nonempty_within true c.args.finder.now.text c.args.finder.now.ere c.loop-start.at _
    (found_long c.args.finder.now.text c.args.finder.now.ere c.loop-start.at c.in_ok-start.field-0 c.in-Some.start c.in-Some.end c.in-Some.is is c.if-start-end.true) in
    (omega (arith, w.0), w.1, w.2)

pub returns-then-start-len-clause-is : goal.returns-then-start-len-clause-is
returns-then-start-len-clause-is c =
    let is = subst (λ f. IsMatch f.text f.ere c.loop-start.at c.in_ok-start.field-0) c.loop-start.invariant.stays c.in_ok-start.ensures.is in
    let end = ap (λ f. length f.text) (c.find.ensures.same ∙ c.loop-start.invariant.stays) in
    sym (c.loop-start.invariant.same
    ∙ found_end c.args.finder.now.text c.args.finder.now.ere c.loop-start.at c.in_ok-start.field-0 c.in-Some.start c.in-Some.end c.in-Some.is is c.if-start-end.false (c.if-start-len.true ∙ c.len.ensures ∙ end))

pub loop-start-smaller : goal.loop-start-smaller
loop-start-smaller c =
    let end = ap (λ f. length f.text) c.loop-start.invariant.stays in
    let w = rw c.in-Some.is at c.in_ok-start.ensures.within in
    omega (arith, w.0, w.1, w.2, end)

pub loop-start-preserved : goal.loop-start-preserved
loop-start-preserved c =
    let is = subst (λ f. IsMatch f.text f.ere c.loop-start.at c.in_ok-start.field-0) c.loop-start.invariant.stays c.in_ok-start.ensures.is in
    let stays = c.find.ensures.same ∙ c.loop-start.invariant.stays in
    let before = ap (λ f. length f.text) c.loop-start.invariant.stays in
    let end = ap (λ f. length f.text) stays in
    let w = rw c.in-Some.is at c.in_ok-start.ensures.within in
    record {
      stays = stays;
      low = omega (arith, w.0);
      high = omega (arith, w.1, w.2, c.if-start-len.false, c.len.ensures, end, before);
      same = c.loop-start.invariant.same
          ∙ found_short c.args.finder.now.text c.args.finder.now.ere c.loop-start.at c.in_ok-start.field-0 c.in-Some.start c.in-Some.end c.in-Some.is is c.if-start-end.false;
    }

pub returns-clause-is : goal.returns-clause-is
returns-clause-is c =
    let is = subst (λ f. IsMatch f.text f.ere c.loop-start.at c.in_ok-start.field-0) c.loop-start.invariant.stays c.in_ok-start.ensures.is in
    sym (c.loop-start.invariant.same ∙ found_none c.args.finder.now.text c.args.finder.now.ere c.loop-start.at c.in_ok-start.field-0 c.in_default.is is)
