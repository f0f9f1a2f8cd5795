use Rattle.std.proofs.Common.{◌≡◌, ◌∙◌, List, ap, sym, arith, length, take, reverse}
use Rattle.std.specs.List.{count_by}
use Rattle.std.specs.Global.{Vec}
use Rattle.std.proofs.lemmas.List.{length-reverse, length-take-le}
use Rattle.rawk_record.specs.Shown.{Shown}
use Rattle.rawk_store.specs.declared.rare_changes.RareChanges.{RareChanges}
use Rattle.rawk_store.specs.Groups.{Group}
use Rattle.rawk_history.specs.declared.full.Mark.{Mark}
use Rattle.rawk_history.specs.Flat.{began_by}
use Rattle.rawk_history.specs.Saving.{saved_by_all, saved_in_others, saved_in_sets}
use Rattle.rawk_history.proofs.Flats.{others_reverse, sets_reverse}
use Rattle.rawk_frames.specs.KeptStacks.{lists_of}
use Rattle.rawk_history.proofs.Saved.{began-le, count-reverse, saved_newest}
use Rattle.rawk_history.proofs.full.Full.saved_in_newest.Goals as goal

pub returns : goal.returns
returns c = λ few.
    let i = c.self.inside in
    let v = c.self.invariant in
    let n = c.args.count in
    let globals = take i.live i.globals.items in
    let newest : List Mark = take n (reverse i.marks.items) in
    let marks = c.newest_of-marks.result.now in
    let flat = saved_newest n (reverse i.marks.items) (reverse i.slows.items) globals (lists_of i.stacks) (reverse i.others.items) (reverse i.records.items) (reverse i.sets.items) v.marked in
    let within = began-le n (reverse i.marks.items) globals (reverse i.others.items) (reverse i.records.items) (reverse i.sets.items) v.marked in
    let view = ap (λ k. saved_by_all (take n k.kept)) c.self.view_is in
    let size = length-take-le i.live i.globals.items v.within in
    let is : reverse marks ≡ newest = c.newest_of-marks.ensures ∙ ap (λ (xs : List Mark). take n (reverse xs)) c.deref.ensures.value in
    let first = c.first_global.ensures ∙ (ap (λ (xs : List Mark). began_by xs i.live) is ∙ ap (began_by newest) (sym size)) in
    let rn = c.records_in.ensures ∙ (sym (count-reverse (λ m. m.has_record) marks) ∙ ap (count_by (λ (m : Mark). m.has_record)) is) in
    let on = c.others_in.ensures ∙ (sym (count-reverse (λ m. m.has_others) marks) ∙ ap (count_by (λ (m : Mark). m.has_others)) is) in
    let sn = c.sets_in.ensures ∙ (sym (count-reverse (λ m. m.has_sets) marks) ∙ ap (count_by (λ (m : Mark). m.has_sets)) is) in
    let r = sym (length-reverse c.newest_of-records.result.now) ∙ ap length (c.newest_of-records.ensures ∙ (ap (λ k. take k (reverse c.deref-2.result.now)) rn ∙ ap (λ (xs : List Shown). take (count_by (λ (m : Mark). m.has_record) newest) (reverse xs)) c.deref-2.ensures.value)) in
    let o = sym (others_reverse c.newest_of.result.now) ∙ ap saved_in_others (c.newest_of.ensures ∙ (ap (λ k. take k (reverse c.deref-3.result.now)) on ∙ ap (λ (xs : List RareChanges). take (count_by (λ (m : Mark). m.has_others) newest) (reverse xs)) c.deref-3.ensures.value)) in
    let s = sym (sets_reverse c.newest_of-2.result.now) ∙ ap saved_in_sets (c.newest_of-2.ensures ∙ (ap (λ k. take k (reverse c.deref-4.result.now)) sn ∙ ap (λ (xs : List (Vec Group)). take (count_by (λ (m : Mark). m.has_sets) newest) (reverse xs)) c.deref-4.ensures.value)) in
    let x = c.saved_in_others-others.ensures (omega (arith, few, view, flat, within, o)) in
    let y = c.saved_in_sets-sets.ensures (omega (arith, few, view, flat, within, s)) in
    omega (arith, few, view, flat, within, size, first, r, o, s, x, y, c.saturating_sub-globals.ensures, c.saturating_add-saved.ensures, c.saturating_add.ensures, c.saturating_add-2.ensures)
