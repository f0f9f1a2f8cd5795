use Rattle.std.proofs.Common.{sym, ◌∙◌, subst}
use Rattle.rawk_ere_tree.specs.declared.code.Instruction.{Instruction}
use Rattle.std.specs.Prelude.{IsTrue}
use Rattle.rawk_ere_tree.specs.Code.{Hops}
use Rattle.rawk_ere_tree.specs.StateSets.{Adds}
use Rattle.rawk_ere_tree.specs.SetLemmas.{adds_both, adds_where}
use Rattle.rawk_ere_walks.proofs.walk.hop.Goals as goal

pub returns-then-first-clause-adds : goal.returns-then-first-clause-adds
returns-then-first-clause-adds c =
    let F = λ (x : Instruction). Adds c.args.set.now.0 c.args.set.now.1 c.add_after.new.self.1 (Hops (IsTrue c.args.first) (IsTrue c.args.last) c.args.state x) in
    subst F (sym c.in-Start.is) (adds_where _ _ _ _ _ (λ r h. (c.if-first.true, h)) (λ r h. h.1) c.add_after.ensures.adds)

pub returns-then-last-clause-adds : goal.returns-then-last-clause-adds
returns-then-last-clause-adds c =
    let F = λ (x : Instruction). Adds c.args.set.now.0 c.args.set.now.1 c.add_after-then-last.new.self.1 (Hops (IsTrue c.args.first) (IsTrue c.args.last) c.args.state x) in
    subst F (sym c.in-End.is) (adds_where _ _ _ _ _ (λ r h. (c.if-last.true, h)) (λ r h. h.1) c.add_after-then-last.ensures.adds)

pub returns-in-Split-clause-adds : goal.returns-in-Split-clause-adds
returns-in-Split-clause-adds c =
    let F = λ (x : Instruction). Adds c.args.set.now.0 c.args.set.now.1 c.add_after-in-Split-2.new.self.1 (Hops (IsTrue c.args.first) (IsTrue c.args.last) c.args.state x) in
    subst F (sym c.in-Split.is) (adds_both _ _ _ _ _ _ _ c.add_after-in-Split.ensures.room c.add_after-in-Split.ensures.adds c.add_after-in-Split-2.ensures.adds)

pub returns-in-Fork-clause-adds : goal.returns-in-Fork-clause-adds
returns-in-Fork-clause-adds c =
    let F = λ (x : Instruction). Adds c.args.set.now.0 c.args.set.now.1 c.add-in-Fork.new.self.1 (Hops (IsTrue c.args.first) (IsTrue c.args.last) c.args.state x) in
    let e = c.saturating_sub-in-Fork.ensures in
    subst F (sym c.in-Fork.is) (adds_both _ _ _ _ _ _ _ c.add_after-in-Fork.ensures.room c.add_after-in-Fork.ensures.adds (adds_where _ _ _ _ _ (λ r h. h ∙ e) (λ r h. h ∙ sym e) c.add-in-Fork.ensures.adds))

pub returns-in-Go-clause-adds : goal.returns-in-Go-clause-adds
returns-in-Go-clause-adds c =
    let F = λ (x : Instruction). Adds c.args.set.now.0 c.args.set.now.1 c.add_after-in-Go.new.self.1 (Hops (IsTrue c.args.first) (IsTrue c.args.last) c.args.state x) in
    subst F (sym c.in-Go.is) c.add_after-in-Go.ensures.adds

pub returns-in-Back-clause-adds : goal.returns-in-Back-clause-adds
returns-in-Back-clause-adds c =
    let F = λ (x : Instruction). Adds c.args.set.now.0 c.args.set.now.1 c.add.new.self.1 (Hops (IsTrue c.args.first) (IsTrue c.args.last) c.args.state x) in
    let e = c.saturating_sub.ensures in
    subst F (sym c.in-Back.is) (adds_where _ _ _ _ _ (λ r h. h ∙ e) (λ r h. h ∙ sym e) c.add.ensures.adds)
