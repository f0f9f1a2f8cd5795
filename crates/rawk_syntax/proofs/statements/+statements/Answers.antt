use Rattle.std.proofs.Common.{◌∙◌, ap, refl, rules}
use Rattle.rawk_grammar.specs.declared.tree.Stmt.TheViews.{the_lemmas}
use Rattle.rawk_syntax.specs.Laid as spec
use Rattle.rawk_resolution.specs.Meant.{sense_of}
use Rattle.rawk_syntax.proofs.StatementOrders.{simple_part, block_parts, jump_part, if_parts, while_parts, do_parts, for_parts, for_in_parts, branch_parts}
use Rattle.rawk_syntax.proofs.Layings.{empty_lays, simple_lays, block_lays, boxed_lays, more_lays, jump_lays, if_lays, while_lays, do_lays, for_lays, for_in_lays, absent_lays, other_made, more_branches, branch_body}
use Rattle.rawk_syntax.proofs.statements.+statements.Goals as goal

pub settle_statement-returns-in-Empty-clause-settled : goal.settle_statement-returns-in-Empty-clause-settled
settle_statement-returns-in-Empty-clause-settled t c = empty_lays (sense_of c.args.scope.now) c.args.sites.now.text.now c.args.s.now c.new.result c.args.sites.now.lines.items c.in-Empty.is c.new.ensures.items

pub settle_statement-returns-in-Simple-clause-settled : goal.settle_statement-returns-in-Simple-clause-settled
settle_statement-returns-in-Simple-clause-settled t c =
    simple_lays (sense_of c.args.scope.now) c.settle_simple.result c.args.sites.now.text.now c.args.s.now c.in-Simple.simple c.get.result.now c.args.sites.now.lines.items c.settle_simple.new.sites.lines.items c.in-Simple.is c.get.ensures c.settle_simple.ensures.settled

pub settle_statement-returns-in_ok-steps-in-Block-clause-settled : goal.settle_statement-returns-in_ok-steps-in-Block-clause-settled
settle_statement-returns-in_ok-steps-in-Block-clause-settled t c =
    block_lays (sense_of c.args.scope.now) c.args.sites.now.text.now c.args.s.now c.in-Block.all c.as_slice.result.now c.in_ok-steps-in-Block.steps c.args.sites.now.lines.items c.settle_statements.new.sites.lines.items c.in-Block.is c.as_slice.ensures c.in_ok-steps-in-Block.ensures.settled

pub settle_statement-returns-in-Jump-clause-settled : goal.settle_statement-returns-in-Jump-clause-settled
settle_statement-returns-in-Jump-clause-settled t c =
    jump_lays (sense_of c.args.scope.now) c.settle_jump.result c.args.sites.now.text.now c.args.s.now c.in-Jump.left c.in-Jump.jump c.get-in-Jump.result.now c.args.sites.now.lines.items c.settle_jump.new.sites.lines.items c.in-Jump.is c.get-in-Jump.ensures c.settle_jump.ensures.settled

pub settle_statement-returns-in_ok-otherwise-in-If-clause-settled : goal.settle_statement-returns-in_ok-otherwise-in-If-clause-settled
settle_statement-returns-in_ok-otherwise-in-If-clause-settled t c =
    if_lays (sense_of c.args.scope.now) c.args.sites.now.text.now c.settle_branches.new.sites.text.now c.args.s.now c.in-If.branches c.as_slice-in-If.result.now c.in-If.other c.in_ok-branches-in-If.branches c.in_ok-otherwise-in-If.otherwise c.args.sites.now.lines.items c.settle_branches.new.sites.lines.items c.settle_other.new.sites.lines.items
    c.in-If.is c.as_slice-in-If.ensures (ap (λ v. v.now) c.settle_branches.ensures.text) c.in_ok-branches-in-If.ensures.settled c.in_ok-otherwise-in-If.ensures.settled

pub settle_while-returns-clause-settled : goal.settle_while-returns-clause-settled
settle_while-returns-clause-settled t c =
    while_lays (sense_of c.args.scope.now) c.args.sites.now.text.now c.settle_condition.new.sites.text.now c.args.condition.now c.args.body.now c.in_ok-test.test c.in_ok-turn.turn c.len-site.result c.args.sites.now.lines.items c.settle_condition.new.sites.lines.items c.settle_body.new.sites.lines.items
    (c.len-site.ensures ∙ c.args.sites.now.lines.ok.0) c.in_ok-test.ensures.settled c.in_ok-test.ensures.sited (ap (λ v. v.now) c.settle_condition.ensures.text) c.in_ok-turn.ensures.settled

pub settle_do-returns-clause-settled : goal.settle_do-returns-clause-settled
settle_do-returns-clause-settled t c =
    do_lays (sense_of c.args.scope.now) c.args.sites.now.text.now c.settle_body.new.sites.text.now c.args.condition.now c.args.body.now c.in_ok-test.test c.in_ok-turn.turn c.len-site.result c.args.sites.now.lines.items c.settle_body.new.sites.lines.items c.settle_condition.new.sites.lines.items
    (c.len-site.ensures ∙ c.settle_body.new.sites.lines.ok.0) (ap (λ v. v.now) c.settle_body.ensures.text) c.in_ok-test.ensures.settled c.in_ok-test.ensures.sited c.in_ok-turn.ensures.settled

pub settle_for-returns-clause-settled : goal.settle_for-returns-clause-settled
settle_for-returns-clause-settled t c =
    let first = c.settle_other in
    let test = c.settle_test in
    let step = c.settle_other-2 in
    for_lays (sense_of c.args.scope.now) c.args.sites.now.text.now first.new.sites.text.now test.new.sites.text.now step.new.sites.text.now c.args.head.now c.args.body.now c.in_ok-test.test c.in_ok-first.first c.in_ok-step.step c.in_ok-turn.turn c.len-site.result
    c.args.sites.now.lines.items first.new.sites.lines.items test.new.sites.lines.items step.new.sites.lines.items c.settle_body.new.sites.lines.items
    (c.len-site.ensures ∙ first.new.sites.lines.ok.0) (ap (λ v. v.now) first.ensures.text) (ap (λ v. v.now) (test.ensures.text ∙ first.ensures.text)) (ap (λ v. v.now) (step.ensures.text ∙ test.ensures.text ∙ first.ensures.text))
    c.in_ok-first.ensures.settled c.in_ok-test.ensures.settled c.in_ok-test.ensures.sited c.in_ok-step.ensures.settled c.in_ok-turn.ensures.settled

pub settle_for_in-returns-clause-settled : goal.settle_for_in-returns-clause-settled
settle_for_in-returns-clause-settled t c =
    for_in_lays (sense_of c.args.scope.now) c.args.sites.now.text.now c.add.new.self.text.now c.args.left c.args.taker.now c.args.array.now c.args.body.now c.the_scalar.result c.the_array.result c.in_ok-turn.turn c.len-site.result c.args.sites.now.lines.items c.add.new.self.lines.items c.settle_body.new.sites.lines.items
    (c.len-site.ensures ∙ c.args.sites.now.lines.ok.0) c.in_ok-add.ensures.lines (ap (λ v. v.now) c.add.ensures.text) c.the_scalar.ensures c.the_array.ensures c.in_ok-turn.ensures.settled

pub settle_other-returns-in-Some-clause-settled : goal.settle_other-returns-in-Some-clause-settled
settle_other-returns-in-Some-clause-settled t c =
    other_made (sense_of c.args.scope.now) c.settle_body.result c.args.sites.now.text.now c.args.other.now c.in-Some.s c.get.result.now c.args.sites.now.lines.items c.settle_body.new.sites.lines.items c.in-Some.is c.get.ensures c.settle_body.ensures.settled

pub settle_other-returns-in-None-clause-settled : goal.settle_other-returns-in-None-clause-settled
settle_other-returns-in-None-clause-settled t c = absent_lays (sense_of c.args.scope.now) c.nothing.result c.args.sites.now.text.now c.args.other.now c.args.sites.now.lines.items c.in-None.is c.nothing.ensures

pub settle_body-returns-clause-settled : goal.settle_body-returns-clause-settled
settle_body-returns-clause-settled t c =
    boxed_lays (sense_of c.args.scope.now) c.args.sites.now.text.now c.args.s.now c.in_ok-settled.settled c.args.sites.now.lines.items c.settle_statement.new.sites.lines.items c.boxed.result c.boxed.ensures c.in_ok-settled.ensures.settled

pub settle_branch-returns-clause-body : goal.settle_branch-returns-clause-body
settle_branch-returns-clause-body t c =
    branch_body (sense_of c.args.scope.now) c.args.sites.now.text.now c.settle_condition.new.sites.text.now c.args.branch.now.body c.get-2.result.now c.args.branch.now.condition c.get.result.now c.in_ok-body.body c.settle_condition.new.sites.lines.items c.args.sites.now.lines.items c.settle_statement.new.sites.lines.items
    (ap (λ v. v.now) c.settle_condition.ensures.text) c.get-2.ensures c.get.ensures c.in_ok-test.ensures.sited c.in_ok-body.ensures.settled

pub settle_branches-loop-b-init : goal.settle_branches-loop-b-init
settle_branches-loop-b-init t c = record { text = refl; settled = rw c.new-settled.ensures.items spec.no_branch }

pub settle_statements-loop-s-init : goal.settle_statements-loop-s-init
settle_statements-loop-s-init t c = record { text = refl; settled = rw c.new-settled.ensures.items spec.no_statement }

pub settle_branches-loop-b-preserved : goal.settle_branches-loop-b-preserved
settle_branches-loop-b-preserved t c = record {
  text = c.settle_branch.ensures.text ∙ c.loop-b.invariant.text;
  settled = more_branches (sense_of c.args.scope.now) c.args.sites.now.text.now c.loop-b.sites.text.now c.args.all.now c.loop-b.b-index c.b-item.result c.get.result.now c.loop-b.settled.items c.push.new.values.items c.in_ok-branch.branch
      c.args.sites.now.lines.items c.loop-b.sites.lines.items c.settle_branch.new.sites.lines.items
      c.loop-b-test.true c.b-item.is c.get.ensures (ap (λ v. v.now) c.loop-b.invariant.text) c.in_ok-push.ensures c.loop-b.invariant.settled c.in_ok-branch.ensures.site c.in_ok-branch.ensures.test c.in_ok-branch.ensures.body;
}

pub settle_statements-loop-s-preserved : goal.settle_statements-loop-s-preserved
settle_statements-loop-s-preserved t c = record {
  text = c.settle_statement.ensures.text ∙ c.loop-s.invariant.text;
  settled = more_lays (sense_of c.args.scope.now) c.args.sites.now.text.now c.loop-s.sites.text.now c.args.all.now c.loop-s.s-index c.s-item.result c.get.result.now c.loop-s.settled.items c.push.new.values.items c.in_ok-step.step
      c.args.sites.now.lines.items c.loop-s.sites.lines.items c.settle_statement.new.sites.lines.items
      c.loop-s-test.true c.s-item.is c.get.ensures (ap (λ v. v.now) c.loop-s.invariant.text) c.in_ok-push.ensures c.loop-s.invariant.settled c.in_ok-step.ensures.settled;
}

pub settle_statement-settle_simple-requires : goal.settle_statement-settle_simple-requires
settle_statement-settle_simple-requires t c =
    let m = (sense_of c.args.scope.now) in
    simple_part m c.args.s.now c.in-Simple.simple c.get.result.now c.in-Simple.is c.get.ensures c.requires

pub settle_statement-settle_statements-requires : goal.settle_statement-settle_statements-requires
settle_statement-settle_statements-requires t c =
    let m = (sense_of c.args.scope.now) in
    (search (rules, the_lemmas), block_parts m c.args.s.now c.in-Block.all c.as_slice.result.now c.in-Block.is c.as_slice.ensures c.requires)

pub settle_statement-settle_jump-requires : goal.settle_statement-settle_jump-requires
settle_statement-settle_jump-requires t c =
    let m = (sense_of c.args.scope.now) in
    jump_part m c.args.s.now c.in-Jump.left c.in-Jump.jump c.get-in-Jump.result.now c.in-Jump.is c.get-in-Jump.ensures c.requires

pub settle_statement-settle_branches-requires : goal.settle_statement-settle_branches-requires
settle_statement-settle_branches-requires t c =
    let m = (sense_of c.args.scope.now) in
    let parts = if_parts m c.args.s.now c.in-If.branches c.as_slice-in-If.result.now c.in-If.other c.in-If.is c.as_slice-in-If.ensures c.requires in
    (search (rules, the_lemmas), parts.0)

pub settle_statement-settle_other-requires : goal.settle_statement-settle_other-requires
settle_statement-settle_other-requires t c =
    let m = (sense_of c.args.scope.now) in
    let parts = if_parts m c.args.s.now c.in-If.branches c.as_slice-in-If.result.now c.in-If.other c.in-If.is c.as_slice-in-If.ensures c.requires in
    (search (rules, the_lemmas), parts.1)

pub settle_statement-settle_while-requires : goal.settle_statement-settle_while-requires
settle_statement-settle_while-requires t c =
    let m = (sense_of c.args.scope.now) in
    let parts = while_parts m c.args.s.now c.in-While.condition c.get-in-While.result.now c.in-While.body c.get-in-While-2.result.now c.in-While.is c.get-in-While.ensures c.get-in-While-2.ensures c.requires in
    (search (rules, the_lemmas), (parts.0, parts.1))

pub settle_statement-settle_do-requires : goal.settle_statement-settle_do-requires
settle_statement-settle_do-requires t c =
    let m = (sense_of c.args.scope.now) in
    let parts = do_parts m c.args.s.now c.in-Do.condition c.get-in-Do-2.result.now c.in-Do.body c.get-in-Do.result.now c.in-Do.is c.get-in-Do-2.ensures c.get-in-Do.ensures c.requires in
    (search (rules, the_lemmas), (parts.0, parts.1))

pub settle_statement-settle_for-requires : goal.settle_statement-settle_for-requires
settle_statement-settle_for-requires t c =
    let m = (sense_of c.args.scope.now) in
    let parts = for_parts m c.args.s.now c.in-For.head c.get-in-For.result.now c.in-For.body c.get-in-For-2.result.now c.in-For.is c.get-in-For.ensures c.get-in-For-2.ensures c.requires in
    (search (rules, the_lemmas), (parts.0, parts.1))

pub settle_statement-settle_for_in-requires : goal.settle_statement-settle_for_in-requires
settle_statement-settle_for_in-requires t c =
    let m = (sense_of c.args.scope.now) in
    let parts = for_in_parts m c.args.s.now c.in-ForIn.left c.in-ForIn.taker c.in-ForIn.array c.in-ForIn.body c.get-in-ForIn.result.now c.in-ForIn.is c.get-in-ForIn.ensures c.requires in
    (search (rules, the_lemmas), (parts.0, parts.1))

pub settle_branch-settle_condition-requires : goal.settle_branch-settle_condition-requires
settle_branch-settle_condition-requires t c =
    let m = (sense_of c.args.scope.now) in
    (branch_parts m c.args.branch.now c.get.result.now c.args.branch.now.body c.get.ensures refl c.requires).0

pub settle_branch-settle_statement-requires : goal.settle_branch-settle_statement-requires
settle_branch-settle_statement-requires t c =
    let m = (sense_of c.args.scope.now) in
    (search (rules, the_lemmas), (branch_parts m c.args.branch.now c.get.result.now c.get-2.result.now c.get.ensures c.get-2.ensures c.requires).1)
