use Rattle.std.proofs.Common.{ℕ, List, false, ap, subst, ◌∙◌}
use Rattle.std.specs.Prelude.{IsTrue}
use Rattle.rawk_ere_walks.specs.Sets.{AdvancesBy, Closes}
use Rattle.rawk_ere_automaton.proofs.table.step.Goals as goal

pub returns : goal.returns
returns c =
    let e = ap (λ (p : ℕ × List ℕ). p.0) c.in_ok-to.ensures in
    record {
      mid = c.read.new.to.1;
      reads = subst (λ n. AdvancesBy n c.args.code.now c.args.byte c.args.from.now.1 c.read.new.to.1) e c.read.ensures.reads;
      closes = subst (λ n. Closes n c.args.code.now (IsTrue false) (IsTrue false) c.read.new.to.1 c.close.new.set.1) (c.read.ensures.room ∙ e) c.close.ensures.closes;
    }
