use Rattle.std.proofs.Common.{length, ℕ, List, ◌≡◌, ◌+◌, ◌∙◌, rules, ap, subst}
use Rattle.rawk_ere_tree.specs.Ends.{IsLast}
use Rattle.rawk_ere_walks.specs.Sets.{Closes}
use Rattle.rawk_ere_walks.specs.WalkLemmas.{reached_first, closes_where}
use Rattle.rawk_ere_walks.proofs.walk.start.Goals as goal

pub returns-clause-reached : goal.returns-clause-reached
returns-clause-reached c =
    let room : c.clear.new.self.0 ≡ length c.args.code.now + 1 = ap (λ (p : ℕ × List ℕ). p.0) c.clear.ensures ∙ c.requires in
    let there = closes_where _ _ _ (c.args.from ≡ 0) _ (IsLast c.args.closed c.args.text.now c.args.from) _ _ (λ h. search rules, λ h. search rules) c.is_last.ensures c.close.ensures.closes in
    let closes = subst (λ n. Closes n c.args.code.now (c.args.from ≡ 0) (IsLast c.args.closed c.args.text.now c.args.from) c.add.new.self.1 c.close.new.set.1) c.add.ensures.room there in
    reached_first c.args.code.now c.args.closed c.args.text.now c.clear.new.self.0 c.args.from c.clear.new.self.1 c.add.new.self.1 c.close.new.set.1 room (ap (λ (p : ℕ × List ℕ). p.1) c.clear.ensures) c.add.ensures.adds closes
