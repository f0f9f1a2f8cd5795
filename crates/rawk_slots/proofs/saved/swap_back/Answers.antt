use Rattle.std.proofs.Common.{◌≡◌, ◌-◌, ◌∙◌, ap, sym, arith, get_or, drop, length, refl}
use Rattle.std.proofs.lemmas.List.{length-set, take-set}
use Rattle.rawk_slots.proofs.Backs.{same_at, AreBelow-from, places-set, back_next, newer_next, take_less}
use Rattle.rawk_slots.specs.Back.{back}
use Rattle.rawk_slots.specs.BackLaws.{length-back}
use Rattle.rawk_slots.proofs.saved.swap_back.Goals as goal

pub index_mut-requires : goal.index_mut-requires
index_mut-requires g c =
    let inv = c.loop-i.invariant in
    let e = c.index_mut-entry.result.now in
    let k : e.place ≡ (get_or c.args.saved.now.items (c.loop-i.i - 1) e).place = ap (λ d. d.place) (c.index_mut-entry.ensures.value ∙ same_at c.loop-i.saved.items c.args.saved.now.items c.loop-i.i (c.loop-i.i - 1) e inv.left (omega arith)) in
    let b = AreBelow-from (length c.args.items.now.items) c.args.began c.args.saved.now.items (c.loop-i.i - 1) e c.requires.below (omega (arith, c.loop-i-test.true)) (omega (arith, c.loop-i-test.true, inv.within)) in
    let n : length c.loop-i.items.items ≡ length c.args.items.now.items = ap length inv.done ∙ length-back c.args.items.now.items (drop c.loop-i.i c.args.saved.now.items) in
    omega (arith, c.loop-i.items.ok.0)

pub loop-i-preserved : goal.loop-i-preserved
loop-i-preserved g c =
    let inv = c.loop-i.invariant in
    let e = c.index_mut-entry.result.now in
    record {
      within = omega arith;
      behind = omega (arith, c.loop-i-test.true);
      same_length = length-set c.loop-i.saved.items (c.loop-i.i - 1) _ ∙ inv.same_length;
      left = take-set c.loop-i.saved.items (c.loop-i.i - 1) _ ∙ take_less c.loop-i.saved.items c.args.saved.now.items c.loop-i.i (c.loop-i.i - 1) (omega arith) inv.left;
      same_places = places-set c.loop-i.saved.items (c.loop-i.i - 1) _ e (ap (λ d. d.place) c.index_mut-entry.ensures.value) ∙ inv.same_places;
      done = back_next c.args.items.now.items c.loop-i.items.items c.args.saved.now.items c.loop-i.i e _ (omega (arith, c.loop-i-test.true)) inv.within inv.done
          (c.index_mut-entry.ensures.value ∙ same_at c.loop-i.saved.items c.args.saved.now.items c.loop-i.i (c.loop-i.i - 1) e inv.left (omega arith)) c.swap.ensures.x_after;
      newer = newer_next c.args.items.now.items c.loop-i.items.items c.args.saved.now.items c.loop-i.saved.items c.loop-i.i e _ _ _ c.args.began (omega (arith, c.loop-i-test.true)) (omega (arith, c.loop-i-test.true)) inv.within (omega (arith, inv.within, inv.same_length)) c.requires.distinct
          (c.index_mut-entry.ensures.value ∙ same_at c.loop-i.saved.items c.args.saved.now.items c.loop-i.i (c.loop-i.i - 1) e inv.left (omega arith)) inv.done inv.newer refl (c.swap.ensures.y_after ∙ c.index_mut.ensures.value);
    }

pub returns-clause-earlier : goal.returns-clause-earlier
returns-clause-earlier g c = let inv = c.loop-i.invariant in take_less c.loop-i.saved.items c.args.saved.now.items c.loop-i.i c.args.began inv.behind inv.left

pub returns-clause-items : goal.returns-clause-items
returns-clause-items g c =
    let inv = c.loop-i.invariant in
    let same : c.loop-i.i ≡ c.args.began = omega (arith, inv.behind, c.loop-i-test.false) in
    inv.done ∙ ap (λ k. back c.args.items.now.items (drop k c.args.saved.now.items)) same

pub returns-clause-newer : goal.returns-clause-newer
returns-clause-newer g c =
    let inv = c.loop-i.invariant in
    let same : c.loop-i.i ≡ c.args.began = omega (arith, inv.behind, c.loop-i-test.false) in
    ap (λ k. back c.loop-i.items.items (drop k c.loop-i.saved.items)) (sym same) ∙ inv.newer
