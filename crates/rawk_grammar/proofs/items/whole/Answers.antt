use Rattle.std.proofs.Common.{◌≡◌, ℕ, zero, suc, ◌-◌, ◌<◌, ap, arith}
use Rattle.std.proofs.lemmas.Grind.{common_steps}
use Rattle.rawk_parsing.specs.Parser.{Input}
use Rattle.rawk_grammar.specs.Items.{items, program}
use Rattle.rawk_grammar.proofs.items.whole.Goals as goal

program_is : (n : ℕ) (i : Input) → 0 < n → program n i ≡ items n (n - 1) i
unfolding program
program_is zero i h = absurd (omega arith)
program_is (suc n) i h = let e : n ≡ suc n - 1 = omega arith in ap (λ m. items (suc n) m i) e

pub returns-then-depth-eq0 : goal.returns-then-depth-eq0
unfolding program
returns-then-depth-eq0 c =
    let none : c.args.depth ≡ 0 = omega arith in
    let base = ap (λ n. program n c.args.tokens.now) none in
    grind (arith, common_steps)

pub returns : goal.returns
returns c = rw (program_is c.args.depth c.args.tokens.now (omega arith)) c.items.ensures
