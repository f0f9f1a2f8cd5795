use Rattle.std.proofs.Common.{◌≡◌, ◌<◌, ℕ, false, true, length, get_or, sym, subst, arith}
use Rattle.std.specs.Prelude.{Contains}
use Rattle.rawk_ere_tree.specs.StateSets.{AreMarks}
use Rattle.rawk_ere_tree.specs.SetLemmas.{member_within, no_marks}
use Rattle.rawk_ere_tree.proofs.set.StateSet.clear.Goals as goal

pub unmark-requires : goal.unmark-requires
unmark-requires c =
    let members = c.self.inside.members.items in
    let marks = c.self.inside.marks.items in
    subst (λ l. (k : ℕ) → k < length l → get_or l k 0 < length marks) (sym c.deref.ensures.value) (λ k lt. member_within members marks k c.self.invariant.0 lt)

pub invariant_of-self : goal.invariant_of-self
invariant_of-self c =
    let members = c.self.inside.members.items in
    let old = c.self.inside.marks.items in
    let marks = c.unmark.new.marks.items in
    let taken = subst (λ l. (q : ℕ) → get_or marks q false ≡ true → (get_or old q false ≡ true) × (Contains l q → ⊥)) c.deref.ensures.value c.unmark.ensures.taken in (
      subst (λ l. AreMarks l marks) (sym c.clear.ensures.items) (no_marks members old marks c.self.invariant.0 taken),
      omega (arith, c.unmark.ensures.same, c.clear.ensures.capacity, c.self.invariant.1),
    )
