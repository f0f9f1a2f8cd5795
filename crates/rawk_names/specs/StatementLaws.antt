-- What each kind of statement mentions.
use Rattle.std.proofs.Common.{◌≡◌, ℕ, List, [], ◌∷◌, ◌++◌, map, Option, Some, None, sym, ap, ◌∙◌}
use Rattle.rawk_parsing.specs.declared.tree.Name.{Name}
use Rattle.rawk_grammar.specs.declared.tree.Simple.{Simple}
use Rattle.rawk_grammar.specs.declared.tree.Jump.{Jump}
use Rattle.rawk_grammar.specs.declared.tree.Condition.{Condition}
use Rattle.rawk_grammar.specs.declared.tree.Stmt.{Stmt, fold-roll-Stmt}
use Rattle.rawk_grammar.specs.declared.tree.Stmt.TheOpen.{Stmt-F}
use Rattle.rawk_grammar.specs.declared.tree.Stmt.TheFolds.{fold-roll-Branch, fold-roll-Head}
use Rattle.rawk_grammar.specs.declared.tree.Stmt.TheVariants as stmt
use Rattle.rawk_grammar.specs.declared.tree.Branch.{Branch}
use Rattle.rawk_grammar.specs.declared.tree.Head.{Head}
use Rattle.rawk_names.specs.Mentions.{Mention, AsScalar, AsArray, every, mentions}
use Rattle.rawk_names.specs.Statements.{act_mentions, jump_mentions, action_mentions, maybe_expr, maybe_statement, stmt_step, branch_step, head_step, stmt_mentions, branch_mentions, head_mentions}
use Rattle.rawk_names.specs.Walks.{noted_all-append}

pub stmt-Empty : stmt_mentions stmt.Empty ≡ []
unfolding stmt_mentions branch_mentions head_mentions
stmt-Empty = ap stmt_mentions (sym (stmt.rolls-Empty)) ∙ fold-roll-Stmt (List Mention) (List Mention) (List Mention) stmt_step branch_step head_step Stmt-F.Empty

pub stmt-Simple : (s : Simple) → stmt_mentions (stmt.Simple s) ≡ act_mentions s.act
unfolding stmt_mentions branch_mentions head_mentions
stmt-Simple s = ap stmt_mentions (sym (stmt.rolls-Simple s)) ∙ fold-roll-Stmt (List Mention) (List Mention) (List Mention) stmt_step branch_step head_step (Stmt-F.Simple s)

pub stmt-Jump : (left : ℕ) (j : Jump) → stmt_mentions (stmt.Jump left j) ≡ jump_mentions j
unfolding stmt_mentions branch_mentions head_mentions
stmt-Jump left j = ap stmt_mentions (sym (stmt.rolls-Jump left j)) ∙ fold-roll-Stmt (List Mention) (List Mention) (List Mention) stmt_step branch_step head_step (Stmt-F.Jump left j)

pub stmt-Block : (ss : List Stmt) → stmt_mentions (stmt.Block ss) ≡ action_mentions ss
unfolding stmt_mentions branch_mentions head_mentions
stmt-Block ss = ap stmt_mentions (sym (stmt.rolls-Block ss)) ∙ fold-roll-Stmt (List Mention) (List Mention) (List Mention) stmt_step branch_step head_step (Stmt-F.Block ss)

pub stmt-While : (t : Condition) (body : Stmt) → stmt_mentions (stmt.While t body) ≡ mentions t.test ++ stmt_mentions body
unfolding stmt_mentions branch_mentions head_mentions
stmt-While t body = ap stmt_mentions (sym (stmt.rolls-While t body)) ∙ fold-roll-Stmt (List Mention) (List Mention) (List Mention) stmt_step branch_step head_step (Stmt-F.While t body)

pub stmt-Do : (body : Stmt) (t : Condition) → stmt_mentions (stmt.Do body t) ≡ stmt_mentions body ++ mentions t.test
unfolding stmt_mentions branch_mentions head_mentions
stmt-Do body t = ap stmt_mentions (sym (stmt.rolls-Do body t)) ∙ fold-roll-Stmt (List Mention) (List Mention) (List Mention) stmt_step branch_step head_step (Stmt-F.Do body t)

pub stmt-For : (h : Head) (body : Stmt) → stmt_mentions (stmt.For h body) ≡ head_mentions h ++ stmt_mentions body
unfolding stmt_mentions branch_mentions head_mentions
stmt-For h body = ap stmt_mentions (sym (stmt.rolls-For h body)) ∙ fold-roll-Stmt (List Mention) (List Mention) (List Mention) stmt_step branch_step head_step (Stmt-F.For h body)

pub stmt-ForIn : (left : ℕ) (x array : Name) (body : Stmt) → stmt_mentions (stmt.ForIn left x array body) ≡ AsScalar x ∷ AsArray array ∷ stmt_mentions body
unfolding stmt_mentions branch_mentions head_mentions
stmt-ForIn left x array body = ap stmt_mentions (sym (stmt.rolls-ForIn left x array body)) ∙ fold-roll-Stmt (List Mention) (List Mention) (List Mention) stmt_step branch_step head_step (Stmt-F.ForIn left x array body)

pub stmt-If : (bs : List Branch) (r : Option Stmt) → stmt_mentions (stmt.If bs r) ≡ every (map branch_mentions bs) ++ maybe_statement r
unfolding stmt_mentions branch_mentions head_mentions
stmt-If bs None = ap stmt_mentions (sym (stmt.rolls-If bs None)) ∙ fold-roll-Stmt (List Mention) (List Mention) (List Mention) stmt_step branch_step head_step (Stmt-F.If bs None)
stmt-If bs (Some r) = ap stmt_mentions (sym (stmt.rolls-If bs (Some r))) ∙ fold-roll-Stmt (List Mention) (List Mention) (List Mention) stmt_step branch_step head_step (Stmt-F.If bs (Some r))

pub branch-is : (b : Branch) → branch_mentions b ≡ mentions b.condition.test ++ stmt_mentions b.body
unfolding stmt_mentions branch_mentions head_mentions
branch-is b = fold-roll-Branch (List Mention) (List Mention) (List Mention) stmt_step branch_step head_step (record { condition = b.condition; body = b.body })

pub head-is : (h : Head) → head_mentions h ≡ maybe_statement h.first ++ (maybe_expr h.test ++ maybe_statement h.last)
unfolding stmt_mentions branch_mentions head_mentions
head-is h = at h.first h.last
  where
    at : (a b : Option Stmt) → head_mentions (record { first = a; left = h.left; test = h.test; last = b }) ≡ maybe_statement a ++ (maybe_expr h.test ++ maybe_statement b)
    at None None = fold-roll-Head (List Mention) (List Mention) (List Mention) stmt_step branch_step head_step (record { first = None; left = h.left; test = h.test; last = None })
    at None (Some b) = fold-roll-Head (List Mention) (List Mention) (List Mention) stmt_step branch_step head_step (record { first = None; left = h.left; test = h.test; last = Some b })
    at (Some a) None = fold-roll-Head (List Mention) (List Mention) (List Mention) stmt_step branch_step head_step (record { first = Some a; left = h.left; test = h.test; last = None })
    at (Some a) (Some b) = fold-roll-Head (List Mention) (List Mention) (List Mention) stmt_step branch_step head_step (record { first = Some a; left = h.left; test = h.test; last = Some b })

pub ruleset bodies = (noted_all-append, stmt-Empty, stmt-Simple, stmt-Jump, stmt-Block, stmt-If, stmt-While, stmt-Do, stmt-For, stmt-ForIn, branch-is, head-is)
