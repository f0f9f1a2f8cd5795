use Rattle.std.proofs.Common.{length, ap, ◌∙◌}
use Rattle.std.specs.Prelude.{IsTrue, ◌↔◌}
use Rattle.rawk_ere_tree.specs.Code.{code_of}
use Rattle.rawk_ere_tree.specs.Ends.{HasMatch}
use Rattle.rawk_ere_walks.specs.Ways.{BeginsIn}
use Rattle.rawk_ere_last.specs.Shapes.{last_in}
use Rattle.rawk_ere.proofs.EreLemmas.{has_from_begins, has_on_empty, if_ok_where}
use Rattle.rawk_ere.proofs.LastLemmas.{are_last}
use Rattle.rawk_ere.proofs.WideLemmas.{widened}
use Rattle.rawk_ere.proofs.expression.Ere.is_found.Goals as goal

pub is_found_by-requires-clause-widens : goal.is_found_by-requires-clause-widens
is_found_by-requires-clause-widens c =
    let is = c.self.invariant.0 ∙ ap code_of c.self.view_is in
    widened c.args.text.now c.self.inside.code c.args.self.now is (λ k. (c.type_inv.text k).fits)

pub returns-then-text-eq0 : goal.returns-then-text-eq0
returns-then-text-eq0 c =
    let is = c.self.invariant.0 ∙ ap code_of c.self.view_is in
    has_on_empty c.self.inside.code c.args.text.now c.args.self.now c.self.inside.on_empty is c.if-text-eq0.true c.self.invariant.3

pub is_found_apart-requires-clause-last : goal.is_found_apart-requires-clause-last
is_found_apart-requires-clause-last c =
    let is = c.self.invariant.0 ∙ ap code_of c.self.view_is in
    are_last c.self.inside.code c.args.text.now c.args.self.now c.self.inside.last is (c.self.invariant.4 ∙ ap last_in c.self.view_is)

pub returns-then-not-self : goal.returns-then-not-self
returns-then-not-self c =
    let is = c.self.invariant.0 ∙ ap code_of c.self.view_is in
    if_ok_where (λ b. IsTrue b ↔ BeginsIn c.self.inside.code c.args.text.now 0 (length c.args.text.now)) (λ b. IsTrue b ↔ HasMatch c.args.text.now c.args.self.now) c.is_found_apart.result
    (λ b f. has_from_begins c.self.inside.code c.args.text.now c.args.self.now b is f) c.is_found_apart.ensures

pub returns : goal.returns
returns c =
    let is = c.self.invariant.0 ∙ ap code_of c.self.view_is in
    if_ok_where (λ b. IsTrue b ↔ BeginsIn c.self.inside.code c.args.text.now 0 (length c.args.text.now)) (λ b. IsTrue b ↔ HasMatch c.args.text.now c.args.self.now) c.is_found_by.result
    (λ b f. has_from_begins c.self.inside.code c.args.text.now c.args.self.now b is f) c.is_found_by.ensures
