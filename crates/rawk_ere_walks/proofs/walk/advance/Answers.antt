use Rattle.std.proofs.Common.{◌≡◌, ◌+◌, refl, subst, rules, arith}
use Rattle.rawk_ere_tree.specs.Ends.{IsLast}
use Rattle.rawk_ere_walks.specs.Sets.{Closes}
use Rattle.rawk_ere_walks.specs.WalkLemmas.{reached_more, closes_where}
use Rattle.rawk_ere_walks.proofs.walk.advance.Goals as goal

pub returns-clause-reached : goal.returns-clause-reached
returns-clause-reached c =
    let at = c.args.at + 1 in
    let there = closes_where _ _ _ (at ≡ 0) _ (IsLast c.args.closed c.args.text.now at) _ _ (λ h. absurd (search rules), λ h. absurd (omega (arith, h))) c.is_last.ensures c.close.ensures.closes in
    let closes = subst (λ n. Closes n c.args.code.now (at ≡ 0) (IsLast c.args.closed c.args.text.now at) c.read.new.to.1 c.close.new.set.1) c.read.ensures.room there in
    reached_more c.args.code.now c.args.closed c.args.text.now c.args.next.now.0 c.args.from c.args.at _ c.args.now.now.1 c.read.new.to.1 c.close.new.set.1 c.requires.room c.requires.begun c.requires.within refl c.requires.reached c.read.ensures.reads closes
