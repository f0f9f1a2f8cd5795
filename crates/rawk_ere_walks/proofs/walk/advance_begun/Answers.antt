use Rattle.std.proofs.Common.{◌≡◌, ◌+◌, false, refl, rules, arith}
use Rattle.rawk_ere_tree.specs.Ends.{IsLast}
use Rattle.rawk_ere_walks.specs.WalkLemmas.{begun_more, closes_where}
use Rattle.rawk_ere_walks.proofs.walk.advance_begun.Goals as goal

pub returns-clause-reached : goal.returns-clause-reached
returns-clause-reached c =
    let at = c.args.at + 1 in
    let code = c.args.code.now in
    let text = c.args.text.now in
    let closes = closes_where _ _ _ (at ≡ 0) _ (IsLast false text at) _ _ (λ h. absurd (search rules), λ h. absurd (omega (arith, h))) (λ h. absurd (search rules), λ h. h.0) c.close.ensures.closes in
    begun_more code false text c.args.next.now.0 c.read.new.to.0 c.args.from c.args.upto c.args.at _ c.args.now.now.1 c.read.new.to.1 c.close.new.set.1 c.requires.room c.read.ensures.room
    c.requires.within c.requires.begun refl c.requires.reached c.read.ensures.reads closes
