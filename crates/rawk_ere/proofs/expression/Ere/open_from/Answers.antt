use Rattle.std.proofs.Common.{ap, ◌∙◌}
use Rattle.rawk_ere_tree.specs.Code.{code_of}
use Rattle.rawk_ere_tree.specs.Open.{IsOpenFrom}
use Rattle.rawk_ere_automaton.specs.Search.{IsOpenStart}
use Rattle.rawk_ere.proofs.EreLemmas.{open_from_start, if_ok_where}
use Rattle.rawk_ere.proofs.expression.Ere.open_from.Goals as goal

pub returns : goal.returns
returns c =
    let is = c.self.invariant.0 ∙ ap code_of c.self.view_is in
    if_ok_where (IsOpenStart c.self.inside.code c.args.text.now c.args.from) (IsOpenFrom c.args.text.now c.args.self.now c.args.from) c.open_start.result
    (λ f. open_from_start c.self.inside.code c.args.text.now c.args.self.now c.args.from f is) c.open_start.ensures
