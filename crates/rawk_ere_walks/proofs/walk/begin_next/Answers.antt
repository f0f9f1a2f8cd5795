use Rattle.std.proofs.Common.{◌≡◌, ◌+◌, false, rules, arith}
use Rattle.std.specs.Prelude.{IsTrue, nat_lt}
use Rattle.rawk_ere_tree.specs.Ends.{IsLast}
use Rattle.rawk_ere_walks.specs.WalkLemmas.{begin_more, closes_where}
use Rattle.rawk_ere_walks.proofs.walk.begin_next.Goals as goal

pub returns-clause-reached : goal.returns-clause-reached
returns-clause-reached c =
    let at = c.args.at + 1 in
    let code = c.args.code.now in
    let text = c.args.text.now in
    let closes = closes_where _ _ _ (at ≡ 0) _ (IsLast false text at) _ _ (λ h. absurd (search rules), λ h. absurd (omega (arith, h))) (λ h. absurd (search rules), λ h. h.0) c.close.ensures.closes in
    let begins = nat_lt c.args.at c.args.upto in
    begin_more code false text c.args.set.now.0 c.add_first.new.set.0 c.args.from c.args.upto c.args.at (IsTrue begins) c.args.set.now.1 c.add_first.new.set.1 c.close.new.set.1 c.requires.room c.add_first.ensures.room
    c.requires.begun (λ h. search rules, λ h. search rules) c.requires.reached c.add_first.ensures.adds closes
