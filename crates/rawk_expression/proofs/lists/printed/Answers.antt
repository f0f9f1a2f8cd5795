use Rattle.std.proofs.Common.{◌≡◌, ◌<◌, ◌-◌, ℕ, zero, suc, ap, arith}
use Rattle.std.proofs.lemmas.Grind.{common_steps}
use Rattle.rawk_parsing.specs.Parser.{Input}
use Rattle.rawk_expression.specs.Expression.{expression, print_list, printed}
use Rattle.rawk_expression.proofs.lists.printed.Goals as goal

printed_is : (n : ℕ) (i : Input) → 0 < n → printed n i ≡ print_list (n - 1) (expression (n - 1)) i
unfolding printed
printed_is zero i h = absurd (omega arith)
printed_is (suc n) i h = let e : n ≡ suc n - 1 = omega arith in ap (λ m. print_list m (expression m) i) e

pub returns-then-depth-eq0 : goal.returns-then-depth-eq0
unfolding printed
returns-then-depth-eq0 c =
    let none : c.args.depth ≡ 0 = omega arith in
    let base = ap (λ n. printed n c.args.tokens.now) none in
    grind (arith, common_steps)

pub returns : goal.returns
returns c = rw (printed_is c.args.depth c.args.tokens.now (omega arith)) c.print_list.ensures
