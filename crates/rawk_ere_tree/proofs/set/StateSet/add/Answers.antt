use Rattle.std.specs.Prelude.{slice_set}
use Rattle.std.proofs.Common.{◌≡◌, ℕ, List, ◌<◌, true, false, length, arith, sym, subst, ◌∙◌, length-set}
use Rattle.std.proofs.lemmas.List.{get_or_read}
use Rattle.rawk_ere_tree.specs.SetLemmas.{has_room, marks_more, adds_one, adds_past, adds_marked}
use Rattle.rawk_ere_tree.specs.StateSets.{AreMarks, Adds}
use Rattle.rawk_ere_tree.proofs.set.StateSet.add.Goals as goal
use Rattle.rawk_ere_tree.proofs.set.StateSet.add.Goals.{then-state-len-via-then-state-len, then-state-len-via-else-state-len+then-index}

pub push_reserved-requires : goal.push_reserved-requires
push_reserved-requires c =
    let marks = c.self.inside.marks.items in
    let within : c.args.state < length marks = omega (arith, c.self.inside.marks.ok.0) in
    let off = sym (get_or_read marks c.args.state _ within c.index.ensures false) ∙ c.if-index.false in
    omega (arith, has_room c.self.inside.members.items marks c.args.state c.self.invariant.0 within off, c.self.inside.members.ok.0, c.self.invariant.1)

pub invariant_of-self : goal.invariant_of-self
invariant_of-self c =
    let marks = c.self.inside.marks.items in
    let within : c.args.state < length marks = omega (arith, c.self.inside.marks.ok.0) in
    let off = sym (get_or_read marks c.args.state _ within c.index.ensures false) ∙ c.if-index.false in (
      subst (λ ms. AreMarks ms (slice_set marks c.args.state true)) (sym c.push_reserved.ensures.items) (marks_more c.self.inside.members.items marks c.args.state c.self.invariant.0 within off),
      omega (arith, length-set marks c.args.state true, c.self.invariant.1, c.push_reserved.ensures.capacity),
    )

pub returns-then-state-len-clause-adds : goal.returns-then-state-len-clause-adds
returns-then-state-len-clause-adds c =
    let marks = c.self.inside.marks.items in
    let q : ℕ = c.args.state in
    let P = λ (p : ℕ × List ℕ). Adds p.0 p.1 p.1 (λ r. r ≡ q) in
    subst P c.self.view_is (elim c.then-state-len.branch [
      | then-state-len-via-then-state-len w ↦ adds_past (length marks) c.self.inside.members.items q (omega (arith, w.if-state-len.true, c.self.inside.marks.ok.0))
      | then-state-len-via-else-state-len+then-index w ↦
          let within : q < length marks = omega (arith, w.if-state-len.false, c.self.inside.marks.ok.0) in
          adds_marked (length marks) c.self.inside.members.items marks q c.self.invariant.0 (sym (get_or_read marks q _ within w.index.ensures false) ∙ w.if-index.true)
    ])

pub returns-clause-adds : goal.returns-clause-adds
returns-clause-adds c =
    let q : ℕ = c.args.state in
    let P = λ (p : ℕ × List ℕ). Adds p.0 p.1 c.push_reserved.new.self.items (λ r. r ≡ q) in
    subst P c.self.view_is (subst (λ new. Adds (length c.self.inside.marks.items) c.self.inside.members.items new (λ r. r ≡ q)) (sym c.push_reserved.ensures.items) (adds_one (length c.self.inside.marks.items) c.self.inside.members.items q))
