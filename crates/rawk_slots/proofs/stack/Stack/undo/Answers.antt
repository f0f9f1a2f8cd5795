use Rattle.std.proofs.Common.{◌≡◌, ◌≤◌, ◌∙◌, ap, length}
use Rattle.rawk_slots.specs.BackLaws.{length-back}
use Rattle.rawk_slots.proofs.stack.Stack.undo.Goals as goal

pub invariant_of-self : goal.invariant_of-self
invariant_of-self g c =
    let s = c.self.inside in
    let e = c.group.inside in
    let now : length c.undo.new.self.now ≡ length s.slots.now = ap (λ j. length j.now) c.undo.ensures.now ∙ length-back s.slots.now e.slots.entries.items in
    let start : length c.undo.new.self.start ≡ length s.slots.now = ap (λ j. length j.start) c.undo.ensures.now ∙ length-back s.slots.now e.slots.entries.items in
    let live : e.live ≤ length s.slots.now = rw (← ap (λ w. w.now) c.self.view_is, ← ap (λ w. w.live) c.group.view_is) at c.requires.live in
    record { now = rw now live; start = rw start live }

pub returns-clause-live : goal.returns-clause-live
returns-clause-live g c = (invariant_of-self g c).now
