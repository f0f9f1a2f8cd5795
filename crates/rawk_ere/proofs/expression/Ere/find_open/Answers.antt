use Rattle.std.proofs.Common.{◌≡◌, ℕ, Some, ap, ◌∙◌}
use Rattle.rawk_ere_tree.specs.Code.{code_of}
use Rattle.rawk_ere_tree.specs.Open.{IsOpenMatch, IsSettled}
use Rattle.rawk_ere_automaton.specs.Search.{IsFirstOpen}
use Rattle.rawk_ere.proofs.EreLemmas.{open_from_first, settled_from_first, if_ok_where}
use Rattle.rawk_ere.proofs.expression.Ere.find_open.Goals as goal

pub returns-clause-is : goal.returns-clause-is
returns-clause-is c =
    let is = c.self.invariant.0 ∙ ap code_of c.self.view_is in
    if_ok_where (IsFirstOpen c.self.inside.code c.args.text.now c.args.from) (IsOpenMatch c.args.text.now c.args.self.now c.args.from) c.first_open.result
    (λ r. open_from_first c.self.inside.code c.args.text.now c.args.self.now c.args.from r is) c.first_open.ensures.is

pub returns-clause-settled : goal.returns-clause-settled
returns-clause-settled c =
    let is = c.self.invariant.0 ∙ ap code_of c.self.view_is in
    if_ok_where (IsFirstOpen c.self.inside.code c.args.text.now c.args.from) (λ o. (m : ℕ × ℕ) → o ≡ Some m → IsSettled c.args.text.now c.args.self.now c.args.from m) c.first_open.result
    (λ r. settled_from_first c.self.inside.code c.args.text.now c.args.self.now c.args.from r is) c.first_open.ensures.is
