use Rattle.std.proofs.Common.{◌≡◌, ◌∙◌, ap, refl, get_or, List, [], ◌∷◌, ◌++◌, length, ◌<◌}
use Rattle.std.proofs.lemmas.Bool.{false≢true}
use Rattle.rawk_slots.proofs.Backs.{back_hides, back_saved, length-written, IsJournal-push}
use Rattle.rawk_slots.specs.declared.saved.Saved.{Saved}
use Rattle.rawk_slots.specs.Back.{IsSavedAt}
use Rattle.rawk_slots.specs.Saving.{OnTrue-any}
use Rattle.rawk_slots.proofs.slots.Slots.write.Goals as goal

pub returns-then-is_saved-clause-start : goal.returns-then-is_saved-clause-start
returns-then-is_saved-clause-start g c =
    let hit = rw (c.deref.ensures.value, c.deref-2.ensures.value) at (c.if-is_saved.ensures.0 refl) in
    OnTrue-any _ _ (back_hides c.self.inside.items.items c.self.inside.saved.items _ c.args.place c.args.value hit ∙ ap (λ j. j.start) c.self.view_is)

pub invariant_of-self-2 : goal.invariant_of-self-2
invariant_of-self-2 g c =
    let items = c.self.inside.items.items in
    let saved = c.self.inside.saved.items in
    let e : Saved g.row.T.Denot = record { place = c.args.place; old = c.replace-old.result } in
    let pushed : c.push_reserved.new.self.items ≡ saved ++ e ∷ [] = c.push_reserved.ensures.items ∙ ap (λ (xs : List (Saved g.row.T.Denot)). xs ++ e ∷ []) c.reserve_one.ensures.items in
    let count : c.len.result ≡ length saved = c.len.ensures ∙ (c.reserve_one.ensures.len ∙ c.self.inside.saved.ok.0) in
    let inside : c.args.place < length items = rw (← ap (λ j. length j.now) c.self.view_is) at c.requires in
    let hit = rw (c.deref.ensures.value, c.deref-2.ensures.value) at c.if-is_saved.ensures.1 in
    let no = λ (s : IsSavedAt saved (get_or c.self.inside.marks.items c.args.place 0) c.args.place). false≢true (hit s) in
    rw (pushed, count, c.replace-old.ensures.after)
    (IsJournal-push items c.self.inside.marks.items saved e c.args.value c.self.invariant inside no)

pub returns-clause-start : goal.returns-clause-start
returns-clause-start g c =
    let items = c.self.inside.items.items in
    let saved = c.self.inside.saved.items in
    let e : Saved g.row.T.Denot = record { place = c.args.place; old = c.replace-old.result } in
    let pushed : c.push_reserved.new.self.items ≡ saved ++ e ∷ [] = c.push_reserved.ensures.items ∙ ap (λ (xs : List (Saved g.row.T.Denot)). xs ++ e ∷ []) c.reserve_one.ensures.items in
    let before : e.old ≡ get_or items c.args.place e.old = rw c.replace-old.ensures.value c.index_mut-2.ensures.value in
    OnTrue-any _ _ (back_saved items saved c.push_reserved.new.self.items e c.replace-old.new.dest pushed before ∙ ap (λ j. j.start) c.self.view_is)

pub returns-clause-size : goal.returns-clause-size
returns-clause-size g c = length-written c.self.inside.items.items c.self.inside.saved.items c.push_reserved.new.self.items c.args.place c.replace-old.new.dest ∙ ap (λ j. length j.start) c.self.view_is

pub returns-then-is_saved-clause-size : goal.returns-then-is_saved-clause-size
returns-then-is_saved-clause-size g c = length-written c.self.inside.items.items c.self.inside.saved.items c.self.inside.saved.items c.args.place c.args.value ∙ ap (λ j. length j.start) c.self.view_is

pub returns-then-not-this-clause-size : goal.returns-then-not-this-clause-size
returns-then-not-this-clause-size g c = length-written c.self.inside.items.items c.self.inside.saved.items c.self.inside.saved.items c.args.place c.args.value ∙ ap (λ j. length j.start) c.self.view_is
