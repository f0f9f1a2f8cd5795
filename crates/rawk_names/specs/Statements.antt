-- The names of statements, patterns and actions, in the order of the text (POSIX awk, "Actions", "Patterns").
use Rattle.std.specs.Prelude.{List, [], ◌∷◌, ◌++◌, map, Option, Some, None}
use Rattle.rawk_parsing.specs.declared.tree.Name.{Name}
use Rattle.rawk_parsing.specs.declared.tree.Expr.{Expr}
use Rattle.rawk_grammar.specs.declared.tree.Act.{Act}
use Rattle.rawk_grammar.specs.declared.tree.Act.TheVariants as act
use Rattle.rawk_grammar.specs.declared.tree.Jump.{Jump}
use Rattle.rawk_grammar.specs.declared.tree.Jump.TheVariants as jump
use Rattle.rawk_grammar.specs.declared.tree.Pattern.{Pattern}
use Rattle.rawk_grammar.specs.declared.tree.Pattern.TheVariants as pattern
use Rattle.rawk_grammar.specs.declared.tree.Action.{Action}
use Rattle.rawk_grammar.specs.declared.tree.Action.TheVariants as action
use Rattle.rawk_grammar.specs.declared.tree.Stmt.{Stmt, fold-Stmt}
use Rattle.rawk_grammar.specs.declared.tree.Stmt.TheOpen.{Stmt-F, Branch-F, Head-F}
use Rattle.rawk_grammar.specs.declared.tree.Stmt.TheFolds.{fold-Branch, fold-Head}
use Rattle.rawk_grammar.specs.declared.tree.Branch.{Branch}
use Rattle.rawk_grammar.specs.declared.tree.Head.{Head}
use Rattle.rawk_names.specs.Mentions.{Mention, AsScalar, AsArray, Seen, all, every, seen, mentions, place_seen}

abbrev pub maybe : Option (List Mention) → List Mention
maybe None = []
maybe (Some ms) = ms

abbrev pub maybe_expr : Option Expr → List Mention
maybe_expr None = []
maybe_expr (Some e) = mentions e

abbrev pub deleted_at : List Mention → Option Name → List Mention
deleted_at ms None = ms
deleted_at ms (Some x) = AsArray x ∷ []

-- what `delete` names: an array, or an element
abbrev pub deleted : Seen → List Mention
deleted p = deleted_at p.mentions p.name

abbrev pub act_mentions : Act → List Mention
act_mentions (act.Evaluate e) = mentions e
act_mentions (act.Print es) = all (map seen es)
act_mentions (act.Printf es) = all (map seen es)
act_mentions (act.Delete p) = deleted (place_seen p)

abbrev pub jump_mentions : Jump → List Mention
jump_mentions jump.Next = []
jump_mentions jump.Break = []
jump_mentions jump.Continue = []
jump_mentions (jump.Exit e) = maybe_expr e
jump_mentions (jump.Return e) = maybe_expr e

-- what a statement mentions, by what its parts do
abbrev pub stmt_step : Stmt-F (List Mention) (List Mention) (List Mention) → List Mention
stmt_step Stmt-F.Empty = []
stmt_step (Stmt-F.Simple s) = act_mentions s.act
stmt_step (Stmt-F.Jump left j) = jump_mentions j
stmt_step (Stmt-F.Block ss) = every ss
stmt_step (Stmt-F.If branches otherwise) = every branches ++ maybe otherwise
stmt_step (Stmt-F.While c body) = mentions c.test ++ body
stmt_step (Stmt-F.Do body c) = body ++ mentions c.test
stmt_step (Stmt-F.For head body) = head ++ body
stmt_step (Stmt-F.ForIn left x array body) = AsScalar x ∷ AsArray array ∷ body

abbrev pub branch_step : Branch-F (List Mention) (List Mention) (List Mention) → List Mention
branch_step b = mentions b.condition.test ++ b.body

abbrev pub head_step : Head-F (List Mention) (List Mention) (List Mention) → List Mention
head_step h = maybe h.first ++ (maybe_expr h.test ++ maybe h.last)

unfoldable pub stmt_mentions : Stmt → List Mention
stmt_mentions s = fold-Stmt (List Mention) (List Mention) (List Mention) stmt_step branch_step head_step s

unfoldable pub branch_mentions : Branch → List Mention
branch_mentions b = fold-Branch (List Mention) (List Mention) (List Mention) stmt_step branch_step head_step b

unfoldable pub head_mentions : Head → List Mention
head_mentions h = fold-Head (List Mention) (List Mention) (List Mention) stmt_step branch_step head_step h

abbrev pub maybe_statement : Option Stmt → List Mention
maybe_statement None = []
maybe_statement (Some s) = stmt_mentions s

abbrev pub action_mentions : List Stmt → List Mention
action_mentions ss = every (map stmt_mentions ss)

abbrev pub pattern_mentions : Pattern → List Mention
pattern_mentions (pattern.When left e) = mentions e
pattern_mentions (pattern.Range left a b) = mentions a ++ mentions b

abbrev pub given_mentions : Action → List Mention
given_mentions (action.Missing left) = []
given_mentions (action.Given ss) = action_mentions ss
