use Rattle.std.proofs.Common.{◌≡◌, ℕ, zero, suc, ◌-◌, ◌<◌, ap, arith}
use Rattle.std.proofs.lemmas.Grind.{common_steps}
use Rattle.rawk_parsing.specs.Parser.{Input}
use Rattle.rawk_grammar.specs.declared.context.Context.{Context}
use Rattle.rawk_grammar.specs.Statement.{statement, one}
use Rattle.rawk_grammar.proofs.statements.+statement.Goals as goal

statement_is : (n : ℕ) (k : Context) (i : Input) → 0 < n → statement n k i ≡ one (n - 1) (statement (n - 1)) k n i
unfolding statement
statement_is zero k i h = absurd (omega arith)
statement_is (suc n) k i h = let e : n ≡ suc n - 1 = omega arith in ap (λ m. one m (statement m) k (suc n) i) e

pub returns-then-depth-eq0 : goal.returns-then-depth-eq0
unfolding statement
returns-then-depth-eq0 t c _ =
    let none : c.args.depth ≡ 0 = omega arith in
    let base = ap (λ n. statement n c.args.context c.args.tokens.now) none in
    grind (arith, common_steps)

pub returns : goal.returns
returns t c = rw (statement_is c.args.depth c.args.context c.args.tokens.now (omega arith)) c.one.ensures
