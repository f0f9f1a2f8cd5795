-- What steps changed in a stack, behind one another.
use Rattle.std.proofs.Common.{◌≡◌, List, [], ◌∷◌, ◌++◌, length, take, reverse, sym, ap, ◌∙◌, subst, arith}
use Rattle.std.proofs.lemmas.List.{reverse-append, take_at, length-append}
use Rattle.rawk_slots.specs.declared.saved.Saved.{Saved}
use Rattle.rawk_slots.specs.declared.stack_groups.Begins.{Begins}
use Rattle.rawk_slots.specs.Back.{AreDistinctFrom, HasDistinctPlaces}
use Rattle.rawk_slots.specs.BackLaws.{distinct_behind}
use Rattle.rawk_slots.specs.StackGroups.{AreBegun}

newest_first : (bs bs2 : List Begins) (b : Begins) → bs2 ≡ bs ++ b ∷ [] → reverse bs2 ≡ b ∷ reverse bs
newest_first bs bs2 b is = ap (λ (xs : List Begins). reverse xs) is ∙ reverse-append bs (b ∷ [])

-- a step more
pub begun_added : {T : Type 0} (bs bs2 : List Begins) (b : Begins) (old new entries : List (Saved T)) → AreBegun (reverse bs) old → HasDistinctPlaces entries →
    bs2 ≡ bs ++ b ∷ [] → b.entries ≡ length old → new ≡ old ++ entries → AreBegun (reverse bs2) new
begun_added {T} bs bs2 b old new entries h distinct marked at is =
    let total = length-append old entries in
    let size = ap length is in
    let older : take b.entries new ≡ old = ap (take b.entries) is ∙ take_at old entries b.entries (sym at) in
    let from : AreDistinctFrom b.entries new = subst (λ k. AreDistinctFrom k new) (sym at) (subst (λ (es : List (Saved T)). AreDistinctFrom (length old) es) (sym is) (distinct_behind old entries distinct)) in
    subst (λ (xs : List Begins). AreBegun xs new) (sym (newest_first bs bs2 b marked)) (omega (arith, at, total, size), from, subst (λ (es : List (Saved T)). AreBegun (reverse bs) es) (sym older) h)
