use Rattle.std.proofs.Common.{arith, rules, ℕ, List, length, ◌≤◌, sym, subst}
use Rattle.std.specs.Prelude.{Contains}
use Rattle.rawk_ere_tree.specs.SetLemmas.{not_past}
use Rattle.rawk_ere_tree.proofs.set.StateSet.contains.Goals as goal

pub returns-else-state-len : goal.returns-else-state-len
returns-else-state-len c =
    let marks = c.self.inside.marks.items in
    let q : ℕ = c.args.state in
    let past : length marks ≤ q = omega (arith, c.if-state-len.false, c.self.inside.marks.ok.0) in (
      λ h. search rules,
      λ h. absurd (not_past c.self.inside.members.items marks q c.self.invariant.0 past (subst (λ (p : ℕ × List ℕ). Contains p.1 q) (sym c.self.view_is) h)),
    )
