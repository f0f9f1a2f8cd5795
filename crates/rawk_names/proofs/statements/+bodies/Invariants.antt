use Rattle.std.proofs.Common.{◌≡◌, take, map}
use Rattle.rawk_names.specs.Mentions.{every}
use Rattle.rawk_names.specs.Noted.{noted_all, shown}
use Rattle.rawk_names.specs.Statements.{branch_mentions, stmt_mentions}
use Rattle.rawk_names.proofs.statements.+bodies.Given as goal

abbrev pub invariant-note_branches-loop-branch : goal.invariant-note_branches-loop-branch
invariant-note_branches-loop-branch l = shown l.register ≡ noted_all (every (map branch_mentions (take l.branch-index l.branches))) (shown l.fn.register)

abbrev pub invariant-note_statements-loop-s : goal.invariant-note_statements-loop-s
invariant-note_statements-loop-s l = shown l.register ≡ noted_all (every (map stmt_mentions (take l.s-index l.statements))) (shown l.fn.register)
