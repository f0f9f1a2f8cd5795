use Rattle.std.proofs.Common.{◌+◌, ◌-◌, ◌*◌, ◌≤◌, length, ap, subst, ◌∙◌}
use Rattle.rawk_ere_tree.specs.Code.{code_of}
use Rattle.rawk_ere.proofs.EreLemmas.{longest_from_farthest}
use Rattle.rawk_ere.proofs.expression.Ere.longest_at_counted.Goals as goal

pub returns-clause-is : goal.returns-clause-is
returns-clause-is c =
    let is = c.self.invariant.0 ∙ ap code_of c.self.view_is in
    longest_from_farthest c.self.inside.code c.args.text.now c.args.self.now c.args.from c.in_ok-walked.walked.longest is c.in_ok-walked.ensures.farthest

pub returns-clause-entered : goal.returns-clause-entered
returns-clause-entered c =
    let is = c.self.invariant.0 ∙ ap code_of c.self.view_is in
    subst (λ l. c.in_ok-walked.walked.entered ≤ (length c.args.text.now - c.args.from + 1) * (length l + 1)) is c.in_ok-walked.ensures.entered
