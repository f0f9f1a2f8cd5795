use Rattle.std.proofs.Common.{ℕ, List, true, false, ap, subst, ◌∙◌}
use Rattle.std.specs.Prelude.{IsTrue, Contains}
use Rattle.rawk_ere_tree.specs.StateSets.{Adds}
use Rattle.rawk_ere_walks.specs.Sets.{Closes}
use Rattle.rawk_ere_automaton.proofs.table.ends_last.Goals as goal

pub returns : goal.returns
returns c =
    let e = c.in_ok-copy.ensures in
    record {
      copy = c.add_all.new.self.1;
      new = c.close.new.set.1;
      copies = subst (λ (p : ℕ × List ℕ). Adds p.0 p.1 c.add_all.new.self.1 (Contains c.args.set.now.1)) e c.add_all.ensures.adds;
      closes = subst (λ n. Closes n c.args.code.now (IsTrue false) (IsTrue true) c.add_all.new.self.1 c.close.new.set.1) (c.add_all.ensures.room ∙ ap (λ (p : ℕ × List ℕ). p.0) e) c.close.ensures.closes;
      is = c.has_end.ensures;
    }
