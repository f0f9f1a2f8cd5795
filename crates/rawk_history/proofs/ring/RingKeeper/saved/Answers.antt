use Rattle.std.proofs.Common.{◌∙◌, ◌-◌, ap, arith, take}
use Rattle.rawk_history.specs.Parts.{kept_in}
use Rattle.rawk_history.specs.Saving.{saved_by_all}
use Rattle.rawk_history.proofs.Parts.{saved_across}
use Rattle.rawk_history.proofs.ring.RingKeeper.saved.Goals as goal

pub returns : goal.returns
returns c = λ few.
    let i = c.self.inside in
    let all = saved_across i.count i.newest.kept (kept_in i.older.items) in
    let view = ap (λ k. saved_by_all k.kept) c.self.view_is in
    let left = ap (λ n. saved_by_all (take n (kept_in i.older.items))) (c.saturating_sub-left.ensures ∙ ap (λ n. i.count - n) c.len.ensures) in
    let x = c.saved_in_newest-newest.ensures (omega (arith, few, all, view)) in
    let y = c.saved_in_newest.ensures (omega (arith, few, all, view, left)) in
    omega (arith, few, all, view, left, x, y, c.saturating_add.ensures)
