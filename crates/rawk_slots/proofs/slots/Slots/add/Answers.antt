use Rattle.std.proofs.Common.{◌≡◌, ◌∙◌, ap, List, [], ◌∷◌, ◌++◌, ℕ}
use Rattle.rawk_slots.proofs.Backs.{IsJournal-add}
use Rattle.rawk_slots.specs.BackLaws.{back_grow}
use Rattle.rawk_slots.proofs.slots.Slots.add.Goals as goal

pub invariant_of-self-2 : goal.invariant_of-self-2
invariant_of-self-2 g c =
    let marks : c.push-2.new.self.items ≡ c.self.inside.marks.items ++ 0 ∷ [] = c.in_ok-push-2.ensures.items ∙ ap (λ (xs : List ℕ). xs ++ 0 ∷ []) c.reserve.ensures.items in
    rw (c.in_ok-push.ensures.items, marks) (IsJournal-add _ _ _ c.args.value c.self.invariant)

pub returns-clause-start : goal.returns-clause-start
returns-clause-start g c =
    rw c.in_ok-push.ensures.items
    (back_grow c.self.inside.items.items c.self.inside.saved.items (c.args.value ∷ []) c.self.invariant.below ∙ ap (λ j. j.start ++ c.args.value ∷ []) c.self.view_is)
