use Rattle.std.proofs.Common.{◌≡◌, ◌<◌, ◌-◌, ℕ, zero, suc, ap, arith}
use Rattle.std.proofs.lemmas.Grind.{common_steps}
use Rattle.rawk_parsing.specs.Parser.{Input}
use Rattle.rawk_expression.specs.Expression.{expression, place, lone_place}
use Rattle.rawk_expression.proofs.lists.place.Goals as goal

lone_place_is : (n : ℕ) (i : Input) → 0 < n → lone_place n i ≡ place (n - 1) (expression (n - 1)) i
unfolding lone_place
lone_place_is zero i h = absurd (omega arith)
lone_place_is (suc n) i h = let e : n ≡ suc n - 1 = omega arith in ap (λ m. place m (expression m) i) e

pub returns-then-depth-eq0 : goal.returns-then-depth-eq0
unfolding lone_place
returns-then-depth-eq0 c =
    let none : c.args.depth ≡ 0 = omega arith in
    let base = ap (λ n. lone_place n c.args.tokens.now) none in
    grind (arith, common_steps)

pub returns : goal.returns
returns c = rw (lone_place_is c.args.depth c.args.tokens.now (omega arith)) c.place.ensures
