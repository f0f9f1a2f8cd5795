use Rattle.std.proofs.Common.{◌≡◌, ℕ, List, false, ap, subst, ◌∙◌}
use Rattle.std.specs.Prelude.{IsTrue}
use Rattle.rawk_ere_tree.specs.StateSets.{Adds}
use Rattle.rawk_ere_walks.specs.Sets.{Closes}
use Rattle.rawk_ere_automaton.proofs.table.begin.Goals as goal

pub returns : goal.returns
returns c =
    let e = c.in_ok-set.ensures in
    record {
      one = c.add.new.self.1;
      adds = subst (λ (p : ℕ × List ℕ). Adds p.0 p.1 c.add.new.self.1 (λ r. r ≡ 0)) e c.add.ensures.adds;
      closes = subst (λ n. Closes n c.args.code.now (IsTrue c.args.first) (IsTrue false) c.add.new.self.1 c.close.new.set.1) (c.add.ensures.room ∙ ap (λ (p : ℕ × List ℕ). p.0) e) c.close.ensures.closes;
    }
