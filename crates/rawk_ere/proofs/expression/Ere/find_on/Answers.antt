use Rattle.std.proofs.Common.{length, ap, sym, subst, ◌∙◌}
use Rattle.rawk_ere_tree.specs.Code.{code_of}
use Rattle.rawk_ere_tree.specs.Ends.{IsMatch}
use Rattle.rawk_ere_automaton.specs.Search.{IsFound, AreBetween}
use Rattle.rawk_ere_last.specs.Shapes.{last_in}
use Rattle.rawk_ere.proofs.EreLemmas.{match_from_first, match_on_empty, if_ok_where}
use Rattle.rawk_ere.proofs.LastLemmas.{are_last}
use Rattle.rawk_ere.proofs.WideLemmas.{widened}
use Rattle.rawk_ere.proofs.expression.Ere.find_on.Goals as goal

pub first_by-requires-clause-widens : goal.first_by-requires-clause-widens
first_by-requires-clause-widens c =
    let is = c.self.invariant.0 ∙ ap code_of c.self.view_is in
    widened c.args.text.now c.self.inside.code c.args.self.now is (λ k. (c.type_inv.text k).fits)

pub returns-then-text-eq0-clause-is : goal.returns-then-text-eq0-clause-is
returns-then-text-eq0-clause-is c =
    let is = c.self.invariant.0 ∙ ap code_of c.self.view_is in
    subst (IsMatch c.args.text.now c.args.self.now c.args.from) (sym c.then_some.ensures)
    (match_on_empty c.self.inside.code c.args.text.now c.args.self.now c.args.from c.self.inside.on_empty is c.if-text-eq0.true c.requires.from c.self.invariant.3)

pub first_apart-requires-clause-last : goal.first_apart-requires-clause-last
first_apart-requires-clause-last c =
    let is = c.self.invariant.0 ∙ ap code_of c.self.view_is in
    are_last c.self.inside.code c.args.text.now c.args.self.now c.self.inside.last is (c.self.invariant.4 ∙ ap last_in c.self.view_is)

pub returns-then-not-self-clause-is : goal.returns-then-not-self-clause-is
returns-then-not-self-clause-is c =
    let is = c.self.invariant.0 ∙ ap code_of c.self.view_is in
    if_ok_where (IsFound c.self.inside.code c.args.text.now c.args.from) (IsMatch c.args.text.now c.args.self.now c.args.from) c.first_apart.result
    (λ r f. match_from_first c.self.inside.code c.args.text.now c.args.self.now c.args.from r is f.0) c.first_apart.ensures

pub returns-then-not-self-clause-within : goal.returns-then-not-self-clause-within
returns-then-not-self-clause-within c =
    if_ok_where (IsFound c.self.inside.code c.args.text.now c.args.from) (AreBetween c.args.from (length c.args.text.now)) c.first_apart.result (λ r f. f.1) c.first_apart.ensures

pub returns-clause-is : goal.returns-clause-is
returns-clause-is c =
    let is = c.self.invariant.0 ∙ ap code_of c.self.view_is in
    if_ok_where (IsFound c.self.inside.code c.args.text.now c.args.from) (IsMatch c.args.text.now c.args.self.now c.args.from) c.first_by.result
    (λ r f. match_from_first c.self.inside.code c.args.text.now c.args.self.now c.args.from r is f.0) c.first_by.ensures.found

pub returns-clause-within : goal.returns-clause-within
returns-clause-within c =
    if_ok_where (IsFound c.self.inside.code c.args.text.now c.args.from) (AreBetween c.args.from (length c.args.text.now)) c.first_by.result (λ r f. f.1) c.first_by.ensures.found
