use Rattle.std.proofs.Common.{ap, ◌∙◌}
use Rattle.rawk_ere_tree.specs.Code.{code_of}
use Rattle.rawk_ere.proofs.EreLemmas.{longest_from_farthest, longest_between}
use Rattle.rawk_ere.proofs.expression.Ere.longest_at.Goals as goal

pub returns-clause-is : goal.returns-clause-is
returns-clause-is c =
    let is = c.self.invariant.0 ∙ ap code_of c.self.view_is in
    longest_from_farthest c.self.inside.code c.args.text.now c.args.self.now c.args.from c.in_ok-walked.walked.longest is c.in_ok-walked.ensures.farthest

pub returns-then-text-gt0-clause-is : goal.returns-then-text-gt0-clause-is
returns-then-text-gt0-clause-is c =
    let is = c.self.invariant.0 ∙ ap code_of c.self.view_is in
    longest_from_farthest c.self.inside.code c.args.text.now c.args.self.now c.args.from c.run-ran.result.longest is c.run-ran.ensures.farthest

pub returns-then-text-gt0-clause-within : goal.returns-then-text-gt0-clause-within
returns-then-text-gt0-clause-within c =
    let is = c.self.invariant.0 ∙ ap code_of c.self.view_is in
    longest_between c.args.text.now c.args.self.now c.args.from c.run-ran.result.longest c.requires
    (longest_from_farthest c.self.inside.code c.args.text.now c.args.self.now c.args.from c.run-ran.result.longest is c.run-ran.ensures.farthest)
