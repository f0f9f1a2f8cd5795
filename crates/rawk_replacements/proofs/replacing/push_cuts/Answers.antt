use Rattle.std.proofs.Common.{◌+◌, None, Some, length, arith, refl, ◌∙◌}
use Rattle.rawk_replacements.proofs.Cutting.{begins, within, later, after_long, after_empty, whole, all_counted, past_end, nearer, sought_as, sought_length}
use Rattle.rawk_replacements.proofs.replacing.push_cuts.Goals as goal

pub loop-next-init : goal.loop-next-init
loop-next-init c = record { cutting = begins c.args.text.now c.args.finder.now.ere c.args.by.now c.args.out.now.items c.args.first c.requires.first; same = refl }

pub push_match-requires-clause-within : goal.push_match-requires-clause-within
push_match-requires-clause-within c = within c.args.text.now c.args.finder.now.ere c.args.by.now c.args.out.now.items c.loop-next.next c.loop-next.out.items c.loop-next.copied c.loop-next.at c.loop-next.count c.loop-next.invariant.cutting c.in-Some.found c.in-Some.is

pub next_cut-requires : goal.next_cut-requires
next_cut-requires c =
    let w = within c.args.text.now c.args.finder.now.ere c.args.by.now c.args.out.now.items c.loop-next.next c.loop-next.out.items c.loop-next.copied c.loop-next.at c.loop-next.count c.loop-next.invariant.cutting c.in-Some.found c.in-Some.is in
    omega (arith, w.2, sought_length c.loop-next.finder c.args.finder.now c.args.text.now c.loop-next.invariant.same c.requires.text)

pub loop-next-smaller-then-found : goal.loop-next-smaller-then-found
loop-next-smaller-then-found c =
    let low = later c.args.text.now c.args.finder.now.ere c.args.by.now c.args.out.now.items c.loop-next.next c.loop-next.out.items c.loop-next.copied c.loop-next.at c.loop-next.count c.loop-next.invariant.cutting c.in-Some.found c.in-Some.is in
    nearer (length c.args.text.now) c.loop-next.at c.in-Some.found.end (omega (arith, low, c.if-found.true)) c.loop-next.invariant.cutting.at_within

pub loop-next-preserved-then-found : goal.loop-next-preserved-then-found
loop-next-preserved-then-found c = record {
  cutting = after_long c.args.text.now c.args.finder.now.ere c.args.by.now c.args.out.now.items c.loop-next.next c.loop-next.out.items c.loop-next.copied c.loop-next.at c.loop-next.count c.loop-next.invariant.cutting c.in-Some.found c.push_match.new.out.items c.in_ok-next.next c.in-Some.is c.if-found.true c.in_ok-push_match.ensures
      (sought_as c.loop-next.finder c.args.finder.now c.args.text.now c.in-Some.found.end (Some c.in-Some.found.end) c.in_ok-next.next c.loop-next.invariant.same c.requires.text c.in_ok-next.ensures.is);
  same = c.next_cut.ensures.same ∙ c.loop-next.invariant.same;
}

pub overflow_add-at : goal.overflow_add-at
overflow_add-at c =
    let w = within c.args.text.now c.args.finder.now.ere c.args.by.now c.args.out.now.items c.loop-next.next c.loop-next.out.items c.loop-next.copied c.loop-next.at c.loop-next.count c.loop-next.invariant.cutting c.in-Some.found c.in-Some.is in
    omega (arith, w.1, w.2)

pub loop-next-smaller-in_ok-next-2 : goal.loop-next-smaller-in_ok-next-2
loop-next-smaller-in_ok-next-2 c =
    let low = later c.args.text.now c.args.finder.now.ere c.args.by.now c.args.out.now.items c.loop-next.next c.loop-next.out.items c.loop-next.copied c.loop-next.at c.loop-next.count c.loop-next.invariant.cutting c.in-Some.found c.in-Some.is in
    nearer (length c.args.text.now) c.loop-next.at (c.in-Some.found.start + 1) (omega (arith, low)) c.loop-next.invariant.cutting.at_within

pub loop-next-preserved-in_ok-next-2 : goal.loop-next-preserved-in_ok-next-2
loop-next-preserved-in_ok-next-2 c = record {
  cutting = after_empty c.args.text.now c.args.finder.now.ere c.args.by.now c.args.out.now.items c.loop-next.next c.loop-next.out.items c.loop-next.copied c.loop-next.at c.loop-next.count c.loop-next.invariant.cutting c.in-Some.found c.push_match.new.out.items c.in_ok-next-2.next c.in-Some.is c.if-found.false c.in_ok-push_match.ensures
      (sought_as c.loop-next.finder c.args.finder.now c.args.text.now (c.in-Some.found.start + 1) None c.in_ok-next-2.next c.loop-next.invariant.same c.requires.text c.in_ok-next-2.ensures.is);
  same = c.next_cut-then-at-text.ensures.same ∙ c.loop-next.invariant.same;
}

pub loop-next-smaller : goal.loop-next-smaller
loop-next-smaller c =
    let low = later c.args.text.now c.args.finder.now.ere c.args.by.now c.args.out.now.items c.loop-next.next c.loop-next.out.items c.loop-next.copied c.loop-next.at c.loop-next.count c.loop-next.invariant.cutting c.in-Some.found c.in-Some.is in
    nearer (length c.args.text.now) c.loop-next.at (c.in-Some.found.start + 1) (omega (arith, low)) c.loop-next.invariant.cutting.at_within

pub loop-next-preserved : goal.loop-next-preserved
loop-next-preserved c = record { cutting = after_empty c.args.text.now c.args.finder.now.ere c.args.by.now c.args.out.now.items c.loop-next.next c.loop-next.out.items c.loop-next.copied c.loop-next.at c.loop-next.count c.loop-next.invariant.cutting c.in-Some.found c.push_match.new.out.items _ c.in-Some.is c.if-found.false c.in_ok-push_match.ensures (past_end c.args.text.now c.args.finder.now.ere (c.in-Some.found.start + 1) c.if-at-text.false); same = c.loop-next.invariant.same }

pub returns-clause-items : goal.returns-clause-items
returns-clause-items c = whole c.args.text.now c.args.finder.now.ere c.args.by.now c.args.out.now.items c.loop-next.next c.loop-next.out.items c.loop-next.copied c.loop-next.at c.loop-next.count c.loop-next.invariant.cutting c.extend_from_slice.new.self.items c.in_default.is c.in_ok-extend_from_slice.ensures.items

pub returns-clause-count : goal.returns-clause-count
returns-clause-count c = all_counted c.args.text.now c.args.finder.now.ere c.args.by.now c.args.out.now.items c.loop-next.next c.loop-next.out.items c.loop-next.copied c.loop-next.at c.loop-next.count c.loop-next.invariant.cutting c.in_default.is
