use Rattle.std.proofs.Common.{◌≡◌, ◌∷◌, ◌∙◌, ◌-◌, ◌+◌, ◌<◌, suc, ap, sym, arith, drop, drop-cons, length, take}
use Rattle.rawk_history.specs.Keeping.{Keeping}
use Rattle.rawk_history.specs.Parts.{kept_in}
use Rattle.rawk_history.specs.Saving.{saved_by_all}
use Rattle.rawk_history.proofs.Parts.{saved_across}
use Rattle.rawk_history.proofs.ring.saved_in_newest.Goals as goal

pub loop-i-preserved : goal.loop-i-preserved
loop-i-preserved c = λ few.
    let xs = c.args.parts.now.items in
    let i = c.loop-i.i in
    let left = c.loop-i.left in
    let part = c.index-part.result.now in
    let lt : i < length xs = omega (arith, c.args.parts.now.ok.0, c.loop-i-test.true, c.len-i-end.ensures) in
    let next : suc i ≡ i + 1 = omega arith in
    let parts : drop i xs ≡ part ∷ drop (i + 1) xs = drop-cons xs i part lt ∙ (ap (λ (k : Keeping). k ∷ drop (suc i) xs) (sym c.index-part.ensures) ∙ ap (λ j. part ∷ drop j xs) next) in
    let rest = kept_in (drop (i + 1) xs) in
    let across = ap (λ ks. saved_by_all (take left (kept_in ks))) parts ∙ saved_across left part.kept rest in
    let before = c.loop-i.invariant few in
    let x = c.saved_in_newest.ensures (omega (arith, few, before, across)) in
    let after = ap (λ n. saved_by_all (take n rest)) (c.saturating_sub-left.ensures ∙ ap (λ n. left - n) c.len.ensures) in
    omega (arith, few, before, across, x, after, c.saturating_add-saved.ensures)
