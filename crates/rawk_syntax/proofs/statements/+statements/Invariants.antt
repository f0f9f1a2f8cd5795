use Rattle.std.proofs.Common.{◌≡◌, ◌+◌, ◌*◌, max, take}
use Rattle.rawk_grammar.proofs.tree.Head.TheLaws as head
use Rattle.rawk_grammar.proofs.tree.Stmt.TheLaws as stmt
use Rattle.rawk_resolution.specs.Meant.{sense_of}
use Rattle.rawk_syntax.specs.Laid.{Lays, SomeStmts, SomeBranches}
use Rattle.rawk_syntax.proofs.statements.+statements.Given as goal

abbrev pub invariant-settle_statements-loop-s : goal.invariant-settle_statements-loop-s
invariant-settle_statements-loop-s l = record {
  text : l.sites.text ≡ l.fn.sites.text;
  settled : Lays l.fn.sites.text.now (sense_of l.scope) (SomeStmts (take l.s-index l.all) l.settled.items) l.fn.sites.lines.items l.sites.lines.items;
}

abbrev pub invariant-settle_branches-loop-b : goal.invariant-settle_branches-loop-b
invariant-settle_branches-loop-b l = record {
  text : l.sites.text ≡ l.fn.sites.text;
  settled : Lays l.fn.sites.text.now (sense_of l.scope) (SomeBranches (take l.b-index l.all) l.settled.items) l.fn.sites.lines.items l.sites.lines.items;
}

-- the depth, and whose calls come first where it stays

abbrev pub decreases-settle_statement : goal.decreases-settle_statement
decreases-settle_statement l = 5 * goal.size-settle_statement l + 0

abbrev pub decreases-settle_body : goal.decreases-settle_body
decreases-settle_body l = 5 * goal.size-settle_body l + 1

abbrev pub decreases-settle_statements : goal.decreases-settle_statements
decreases-settle_statements l = 5 * goal.size-settle_statements l + 1

abbrev pub decreases-settle_branch : goal.decreases-settle_branch
decreases-settle_branch l = 5 * goal.size-settle_branch l + 0

abbrev pub decreases-settle_branches : goal.decreases-settle_branches
decreases-settle_branches l = 5 * goal.size-settle_branches l + 1

abbrev pub decreases-settle_other : goal.decreases-settle_other
decreases-settle_other l = 5 * goal.size-settle_other l + 2

abbrev pub decreases-settle_while : goal.decreases-settle_while
decreases-settle_while l = 5 * goal.size-settle_while l + 2

abbrev pub decreases-settle_for_in : goal.decreases-settle_for_in
decreases-settle_for_in l = 5 * goal.size-settle_for_in l + 2

abbrev pub decreases-settle_do : goal.decreases-settle_do
decreases-settle_do l = 5 * goal.size-settle_do l + 2

abbrev pub decreases-settle_for : goal.decreases-settle_for
decreases-settle_for l = 5 * max (head.the_size l.head.now) (stmt.the_size l.body.now) + 4
