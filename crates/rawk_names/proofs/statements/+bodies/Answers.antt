use Rattle.std.proofs.Common.{◌≡◌, List, map, subst}
use Rattle.rawk_grammar.specs.declared.tree.Stmt.{Stmt}
use Rattle.rawk_grammar.specs.declared.tree.Branch.{Branch}
use Rattle.rawk_names.specs.Mentions.{every}
use Rattle.rawk_names.specs.Noted.{noted_all, shown}
use Rattle.rawk_names.specs.Statements.{branch_mentions, stmt_mentions}
use Rattle.rawk_names.specs.Walks.{one_more, every-push}
use Rattle.rawk_names.proofs.statements.+bodies.Goals as goal

pub note_branches-loop-branch-preserved : goal.note_branches-loop-branch-preserved
note_branches-loop-branch-preserved t c =
    let x = c.branch-item.result in
    one_more (λ (bs : List Branch). every (map branch_mentions bs)) (branch_mentions x) c.args.branches.now c.loop-branch.branch-index x (shown c.args.register.now) (shown c.loop-branch.register) (shown c.note_branch.new.register)
    c.loop-branch-test.true c.branch-item.is (every-push branch_mentions _ x) c.loop-branch.invariant
    (subst (λ (b : Branch). shown c.note_branch.new.register ≡ noted_all (branch_mentions b) (shown c.loop-branch.register)) c.get.ensures c.in_ok-note_branch.ensures)

pub note_statements-loop-s-preserved : goal.note_statements-loop-s-preserved
note_statements-loop-s-preserved t c =
    let x = c.s-item.result in
    one_more (λ (ss : List Stmt). every (map stmt_mentions ss)) (stmt_mentions x) c.args.statements.now c.loop-s.s-index x (shown c.args.register.now) (shown c.loop-s.register) (shown c.note_statement.new.register)
    c.loop-s-test.true c.s-item.is (every-push stmt_mentions _ x) c.loop-s.invariant
    (subst (λ (s : Stmt). shown c.note_statement.new.register ≡ noted_all (stmt_mentions s) (shown c.loop-s.register)) c.get.ensures c.in_ok-note_statement.ensures)
