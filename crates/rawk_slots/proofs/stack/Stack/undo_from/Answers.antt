use Rattle.std.proofs.Common.{◌≡◌, ◌≤◌, ◌∙◌, ap, drop, length}
use Rattle.rawk_slots.specs.BackLaws.{length-back}
use Rattle.rawk_slots.proofs.stack.Stack.undo_from.Goals as goal

pub invariant_of-self : goal.invariant_of-self
invariant_of-self g c =
    let s = c.self.inside in
    let es = drop c.args.began c.args.list.now.items in
    let now : length c.undo_from.new.self.now ≡ length s.slots.now = ap (λ j. length j.now) c.undo_from.ensures.now ∙ length-back s.slots.now es in
    let start : length c.undo_from.new.self.start ≡ length s.slots.now = ap (λ j. length j.start) c.undo_from.ensures.now ∙ length-back s.slots.now es in
    let live : c.args.live ≤ length s.slots.now = rw (← ap (λ w. w.now) c.self.view_is) at c.requires.live in
    record { now = rw now live; start = rw start live }

pub returns-clause-live : goal.returns-clause-live
returns-clause-live g c = (invariant_of-self g c).now
