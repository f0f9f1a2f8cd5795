use Rattle.std.proofs.Common.{ℕ, List, sym, ap, subst}
use Rattle.std.specs.Prelude.{Contains}
use Rattle.std.specs.Cmp.{booleans_Decides}
use Rattle.std.proofs.lemmas.Slice.Eq.{slice_eq-Decides}
use Rattle.rawk_ere_tree.specs.SetLemmas.{same_members}
use Rattle.rawk_ere_tree.proofs.set.StateSet.is_same.Goals as goal

pub returns : goal.returns
returns c = λ is q.
    let a = c.self.inside in
    let b = c.other.inside in
    let e = (slice_eq-Decides booleans_Decides a.marks.items b.marks.items c.eq.result c.eq.ensures).0 is in
    let here = ap (λ (p : ℕ × List ℕ). p.1) c.self.view_is in
    let there = ap (λ (p : ℕ × List ℕ). p.1) c.other.view_is in (
      λ h. subst (λ l. Contains l q) there (same_members a.members.items b.members.items a.marks.items b.marks.items c.self.invariant.0 c.other.invariant.0 e q (subst (λ l. Contains l q) (sym here) h)),
      λ h. subst (λ l. Contains l q) here (same_members b.members.items a.members.items b.marks.items a.marks.items c.other.invariant.0 c.self.invariant.0 (sym e) q (subst (λ l. Contains l q) (sym there) h)),
    )
