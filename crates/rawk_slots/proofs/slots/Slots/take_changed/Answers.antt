use Rattle.std.proofs.Common.{◌∙◌, ap, length, refl}
use Rattle.rawk_slots.proofs.Backs.{back_hides, length-written}
use Rattle.rawk_slots.specs.Saving.{OnTrue-any}
use Rattle.rawk_slots.proofs.slots.Slots.take_changed.Goals as goal

pub returns-then-is_saved-clause-start : goal.returns-then-is_saved-clause-start
returns-then-is_saved-clause-start g c =
    let hit = rw (c.deref.ensures.value, c.deref-2.ensures.value) at (c.if-is_saved.ensures.0 refl) in
    OnTrue-any _ _ (back_hides c.self.inside.items.items c.self.inside.saved.items _ c.args.place c.replace-then-is_saved.new.dest hit ∙ ap (λ j. j.start) c.self.view_is)

pub returns-then-is_saved-clause-size : goal.returns-then-is_saved-clause-size
returns-then-is_saved-clause-size g c = length-written c.self.inside.items.items c.self.inside.saved.items c.self.inside.saved.items c.args.place c.replace-then-is_saved.new.dest ∙ ap (λ j. length j.start) c.self.view_is

pub returns-then-not-this-clause-size : goal.returns-then-not-this-clause-size
returns-then-not-this-clause-size g c = length-written c.self.inside.items.items c.self.inside.saved.items c.self.inside.saved.items c.args.place c.replace.new.dest ∙ ap (λ j. length j.start) c.self.view_is
