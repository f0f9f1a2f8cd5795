use Rattle.std.proofs.Common.{◌≡◌, ◌+◌, ◌∙◌, refl, subst, rules, arith, true}
use Rattle.std.specs.Prelude.{IsTrue, nat_lt}
use Rattle.rawk_ere_tree.specs.Ends.{IsLast}
use Rattle.rawk_ere_tree.specs.StateSets.{Adds}
use Rattle.rawk_ere_walks.specs.WalkLemmas.{all_more, closes_where}
use Rattle.rawk_ere_walks.proofs.walk.advance_all.Goals as goal

pub returns-clause-reached : goal.returns-clause-reached
returns-clause-reached c =
    let at = c.args.at + 1 in
    let code = c.args.code.now in
    let text = c.args.text.now in
    let closes = closes_where _ _ _ (at ≡ 0) _ (IsLast true text at) _ _ (λ h. absurd (search rules), λ h. absurd (omega (arith, h))) c.is_last.ensures c.close.ensures.closes in
    let begins = nat_lt c.args.at c.args.upto in
    let adds = subst (λ n. Adds n c.read.new.to.1 c.add_first.new.set.1 (λ r. IsTrue begins × (r ≡ 0))) c.read.ensures.room c.add_first.ensures.adds in
    all_more code true text c.args.next.now.0 c.add_first.new.set.0 c.args.from c.args.upto c.args.at _ (IsTrue begins) c.args.now.now.1 c.read.new.to.1 c.add_first.new.set.1 c.close.new.set.1 c.requires.room (c.add_first.ensures.room ∙ c.read.ensures.room)
    c.requires.within c.requires.begun refl (λ h. search rules, λ h. search rules) c.requires.reached c.read.ensures.reads adds closes
