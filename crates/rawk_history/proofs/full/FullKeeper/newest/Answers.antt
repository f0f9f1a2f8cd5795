use Rattle.std.proofs.Common.{◌∙◌, ap, sym, take, reverse}
use Rattle.rawk_frames.specs.KeptStacks.{lists_of}
use Rattle.rawk_history.proofs.Flats.{lent_some, newest_is, slice_is}
use Rattle.rawk_history.proofs.full.FullKeeper.newest.Goals as goal

pub returns-in-Some : goal.returns-in-Some
returns-in-Some c =
    let i = c.self.inside in
    let m = c.in-Some.mark.now in
    let l = lent_some c.deref.result.now c.last.result c.in-Some.mark c.last.ensures.value c.in-Some.is in
    let n = newest_is i.marks.items m (reverse i.slows.items) (take i.live i.globals.items) (lists_of i.stacks) (reverse i.others.items) (reverse i.records.items) (reverse i.sets.items) l.0 (ap (λ xs. reverse xs) (sym c.deref.ensures.value) ∙ l.1) in
    (n.0, n.1, sym (ap (λ k. k.kept) c.self.view_is) ∙ n.2, slice_is m.globals i.live c.deref-in-Some.result.now i.globals.items c.deref-in-Some.ensures.value ∙ sym n.3, c.newest_if.ensures ∙ sym n.4, c.newest_if-in-Some.ensures ∙ sym n.5)
