use Rattle.std.proofs.Common.{◌≡◌, ◌<◌, ◌-◌, ℕ, zero, suc, ap, arith}
use Rattle.std.proofs.lemmas.Grind.{common_steps}
use Rattle.rawk_expression.specs.declared.grammar.Wanted.{Wanted}
use Rattle.rawk_parsing.specs.Parser.{Input}
use Rattle.rawk_expression.specs.Expression.{expression, by}
use Rattle.rawk_expression.proofs.grammar.+expression.Goals as goal

expression_is : (n : ℕ) (wanted : Wanted) (i : Input) → 0 < n → expression n wanted i ≡ by (n - 1) (expression (n - 1)) wanted i
unfolding expression
expression_is zero wanted i h = absurd (omega arith)
expression_is (suc n) wanted i h = let e : n ≡ suc n - 1 = omega arith in ap (λ m. by m (expression m) wanted i) e

pub returns-then-depth-eq0 : goal.returns-then-depth-eq0
unfolding expression
returns-then-depth-eq0 t c _ =
    let none : c.args.depth ≡ 0 = omega arith in
    let base = ap (λ n. expression n c.args.wanted c.args.tokens.now) none in
    grind (arith, common_steps)

pub returns : goal.returns
returns t c = rw (expression_is c.args.depth c.args.wanted c.args.tokens.now (omega arith)) c.by.ensures
