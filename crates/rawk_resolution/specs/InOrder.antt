-- Which parts of the parser's tree are in order: their names stand for what they are used as, and their calls have the arguments that the functions take.
use Rattle.std.specs.Prelude.{ℕ, suc, Bool, true, false, ◌&&◌, ◌||◌, List, [], ◌∷◌, length, Option, Some, None}
use Rattle.rawk_keywords.specs.declared.builtin.Builtin.{Builtin}
use Rattle.rawk_keywords.specs.declared.builtin.Builtin.TheVariants as fun
use Rattle.rawk_parsing.specs.declared.tree.Expr.{Expr, fold-Expr}
use Rattle.rawk_parsing.specs.declared.tree.Expr.TheOpen as expr
use Rattle.rawk_parsing.specs.declared.tree.Expr.TheOpen.{Expr-F, Place-F, Link-F}
use Rattle.rawk_parsing.specs.declared.tree.Link.{Link, fold-Link}
use Rattle.rawk_parsing.specs.declared.tree.Name.{Name}
use Rattle.rawk_parsing.specs.declared.tree.Place.{Place, out-Place, fold-Place}
use Rattle.rawk_grammar.specs.declared.tree.Act.{Act}
use Rattle.rawk_grammar.specs.declared.tree.Act.TheVariants as act
use Rattle.rawk_grammar.specs.declared.tree.Jump.{Jump}
use Rattle.rawk_grammar.specs.declared.tree.Jump.TheVariants as jump
use Rattle.rawk_grammar.specs.declared.tree.Stmt.{Stmt, fold-Stmt}
use Rattle.rawk_grammar.specs.declared.tree.Stmt.TheOpen as stmt
use Rattle.rawk_grammar.specs.declared.tree.Stmt.TheOpen.{Stmt-F, Branch-F, Head-F}
use Rattle.rawk_grammar.specs.declared.tree.Branch.{Branch, fold-Branch}
use Rattle.rawk_grammar.specs.declared.tree.Head.{Head, fold-Head}
use Rattle.rawk_grammar.specs.declared.tree.Pattern.{Pattern}
use Rattle.rawk_grammar.specs.declared.tree.Pattern.TheVariants as guard
use Rattle.rawk_grammar.specs.declared.tree.Action.{Action}
use Rattle.rawk_grammar.specs.declared.tree.Action.TheVariants as does
use Rattle.rawk_grammar.specs.declared.tree.Item.{Item}
use Rattle.rawk_grammar.specs.declared.tree.Item.TheVariants as part
use Rattle.rawk_tree.specs.declared.tree.Kind.{Kind}
use Rattle.rawk_tree.specs.declared.tree.Kind.TheVariants as kind
use Rattle.rawk_resolution.specs.Calls.{has_builtin}
use Rattle.rawk_resolution.specs.Meant.{Sense, is_there}

-- a test holds of each
abbrev pub each : {A : Type 0} → (A → Bool) → List A → Bool
each holds [] = true
each holds (x ∷ xs) = holds x && each holds xs

-- ---- expressions, from what their parts are

-- whether an expression or a place is in order, whether it is a place, and whether it is the name of an array alone
pub record Use : Type 0 where
  pub fit : Bool
  pub place : Bool
  pub array : Bool

abbrev pub plain : Bool → Use
plain b = record { fit = b; place = false; array = false }

abbrev pub placed : Bool → Use
placed b = record { fit = b; place = true; array = false }

abbrev pub all_in_order : List Use → Bool
all_in_order es = each (λ e. e.fit) es

-- a place that is in order
abbrev pub can_change : Use → Bool
can_change e = e.fit && e.place

-- a text, and what is sought in it
abbrev pub finds : List Use → Bool
finds (e ∷ f ∷ []) = e.fit && f.fit
finds _ = false

-- an expression and a replacement, and a place or none
abbrev pub replaces : List Use → Bool
replaces (e ∷ f ∷ []) = e.fit && f.fit
replaces (e ∷ f ∷ p ∷ []) = (e.fit && f.fit) && can_change p
replaces _ = false

-- a text and the name of an array alone, and what separates or nothing
abbrev pub splits : List Use → Bool
splits (e ∷ a ∷ []) = e.fit && a.array
splits (e ∷ a ∷ f ∷ []) = (e.fit && a.array) && f.fit
splits _ = false

-- the name of an array alone
abbrev pub counts : List Use → Bool
counts (e ∷ []) = e.array
counts _ = false

-- whether a built-in function takes these arguments; `length` takes the name of an array too (POSIX awk, "String Functions")
abbrev pub builtin_step : Builtin → List Use → Bool
builtin_step fun.Match es = finds es
builtin_step fun.Sub es = replaces es
builtin_step fun.Gsub es = replaces es
builtin_step fun.Split es = splits es
builtin_step fun.Length es = counts es || (has_builtin fun.Length (length es) && all_in_order es)
builtin_step f es = has_builtin f (length es) && all_in_order es

-- whether a name is that of an array
abbrev pub names_array : Sense → Name → Bool
names_array means n = is_there (means.array n.word)

-- whether it is that of a scalar
abbrev pub names_scalar : Sense → Name → Bool
names_scalar means n = is_there (means.scalar n.word)

-- an argument of a parameter, or of none: of an array it is the name of one alone
abbrev pub fits : Option Kind → Use → Bool
fits None e = false
fits (Some kind.Scalar) e = e.fit
fits (Some kind.Array) e = e.array

-- the arguments of parameters, of which the last ones may have none
abbrev pub all_fit : List Kind → List Use → Bool
all_fit ks [] = true
all_fit [] (e ∷ es) = false
all_fit (k ∷ ks) (e ∷ es) = fits (Some k) e && all_fit ks es

-- a call of a function of the program
abbrev pub calls : Sense → Option ℕ → List Use → Bool
calls means None es = false
calls means (Some f) es = all_fit (means.kinds f) es

-- by what names stand for
abbrev pub expr_step : Sense → Expr-F Use Use Bool → Use
expr_step means (expr.Number n) = plain true
expr_step means (expr.Text w) = plain true
expr_step means (expr.Ere left w) = plain true
expr_step means expr.Getline = plain true
expr_step means (expr.GetlineTo p) = plain p.fit
expr_step means (expr.Of p) = p
expr_step means (expr.Group e) = plain e.fit
expr_step means (expr.Signed s e) = plain e.fit
expr_step means (expr.Power e f) = plain (e.fit && f.fit)
expr_step means (expr.Chain e ls) = plain (e.fit && each (λ b. b) ls)
expr_step means (expr.Logic l es) = plain (all_in_order es)
expr_step means (expr.Choice e f g) = plain (e.fit && (f.fit && g.fit))
expr_step means (expr.Before c p) = plain p.fit
expr_step means (expr.After c p) = plain p.fit
expr_step means (expr.Assign how p e) = plain (p.fit && e.fit)
expr_step means (expr.In e ns) = plain (e.fit && each (names_array means) ns)
expr_step means (expr.ListIn es n) = plain (names_array means n && all_in_order es)
expr_step means (expr.Call n es) = plain (calls means (means.function n.word) es)
expr_step means (expr.Builtin f es) = plain (builtin_step f es)

abbrev pub place_step : Sense → Place-F Use Use Bool → Use
place_step means (expr.Name n) = record { fit = names_scalar means n; place = true; array = names_array means n }
place_step means (expr.Field e) = placed e.fit
place_step means (expr.Element n es) = placed (names_array means n && all_in_order es)

abbrev pub link_step : Link-F Use Use Bool → Bool
link_step l = l.operand.fit

-- what an expression is, by what names stand for
unfoldable pub use_of : Sense → Expr → Use
use_of means e = fold-Expr Use Use Bool (expr_step means) (place_step means) link_step e

abbrev pub in_order : Sense → Expr → Bool
in_order means e = (use_of means e).fit

-- whether it is a place that may be changed
abbrev pub changes : Sense → Expr → Bool
changes means e = can_change (use_of means e)

unfoldable pub place_use : Sense → Place → Use
place_use means p = fold-Place Use Use Bool (expr_step means) (place_step means) link_step p

abbrev pub place_in_order : Sense → Place → Bool
place_in_order means p = (place_use means p).fit

unfoldable pub link_in_order : Sense → Link → Bool
link_in_order means l = fold-Link Use Use Bool (expr_step means) (place_step means) link_step l

-- ---- statements, from what their parts are

-- a `printf` has a format
abbrev pub formatted : Sense → List Expr → Bool
formatted means [] = false
formatted means (e ∷ es) = each (in_order means) (e ∷ es)

-- what can be deleted: an element, or the whole array of a name (POSIX awk, "Actions")
abbrev pub deletable : Sense → Place-F Expr Place Link → Bool
deletable means (expr.Name n) = names_array means n
deletable means (expr.Element n es) = names_array means n && each (in_order means) es
deletable means (expr.Field e) = false

abbrev pub deletes : Sense → Place → Bool
deletes means p = deletable means (out-Place p)

abbrev pub act_in_order : Sense → Act → Bool
act_in_order means (act.Evaluate e) = in_order means e
act_in_order means (act.Print es) = each (in_order means) es
act_in_order means (act.Printf es) = formatted means es
act_in_order means (act.Delete p) = deletes means p

-- an expression that may be missing
abbrev pub maybe_in_order : Sense → Option Expr → Bool
maybe_in_order means None = true
maybe_in_order means (Some e) = in_order means e

abbrev pub jump_in_order : Sense → Jump → Bool
jump_in_order means (jump.Exit status) = maybe_in_order means status
jump_in_order means (jump.Return value) = maybe_in_order means value
jump_in_order means _ = true

-- what takes the keys of an array is a scalar (POSIX awk, "Actions")
abbrev pub keys_in_order : Sense → Name → Name → Bool
keys_in_order means x y = names_scalar means x && names_array means y

-- a part that may be missing
abbrev pub if_there : Option Bool → Bool
if_there None = true
if_there (Some b) = b

abbrev pub stmt_step : Sense → Stmt-F Bool Bool Bool → Bool
stmt_step means stmt.Empty = true
stmt_step means (stmt.Simple s) = act_in_order means s.act
stmt_step means (stmt.Block steps) = each (λ b. b) steps
stmt_step means (stmt.Jump left j) = jump_in_order means j
stmt_step means (stmt.If branches other) = each (λ b. b) branches && if_there other
stmt_step means (stmt.While c body) = in_order means c.test && body
stmt_step means (stmt.Do body c) = body && in_order means c.test
stmt_step means (stmt.For head body) = head && body
stmt_step means (stmt.ForIn left x y body) = keys_in_order means x y && body

abbrev pub branch_step : Sense → Branch-F Bool Bool Bool → Bool
branch_step means b = in_order means b.condition.test && b.body

abbrev pub head_step : Sense → Head-F Bool Bool Bool → Bool
head_step means h = if_there h.first && (maybe_in_order means h.test && if_there h.last)

unfoldable pub stmt_in_order : Sense → Stmt → Bool
stmt_in_order means s = fold-Stmt Bool Bool Bool (stmt_step means) (branch_step means) (head_step means) s

unfoldable pub branch_in_order : Sense → Branch → Bool
branch_in_order means b = fold-Branch Bool Bool Bool (stmt_step means) (branch_step means) (head_step means) b

unfoldable pub head_in_order : Sense → Head → Bool
head_in_order means h = fold-Head Bool Bool Bool (stmt_step means) (branch_step means) (head_step means) h

abbrev pub other_in_order : Sense → Option Stmt → Bool
other_in_order means None = true
other_in_order means (Some s) = stmt_in_order means s

-- what stands in the parentheses of a `for`
abbrev pub head_parts : Sense → Head → Bool
head_parts means h = other_in_order means h.first && (maybe_in_order means h.test && other_in_order means h.last)

-- ---- items

abbrev pub action_in_order : Sense → Action → Bool
action_in_order means (does.Missing left) = true
action_in_order means (does.Given ss) = each (stmt_in_order means) ss

abbrev pub pattern_in_order : Sense → Pattern → Bool
pattern_in_order means (guard.When left e) = in_order means e
pattern_in_order means (guard.Range left e f) = in_order means e && in_order means f

-- an item behind `functions` functions; inside a function the scope is one more than its number
abbrev pub item_in_order : (ℕ → Sense) → ℕ → Item → Bool
item_in_order means functions (part.Begin ss) = each (stmt_in_order (means 0)) ss
item_in_order means functions (part.End ss) = each (stmt_in_order (means 0)) ss
item_in_order means functions (part.Always left ss) = each (stmt_in_order (means 0)) ss
item_in_order means functions (part.Rule p a) = pattern_in_order (means 0) p && action_in_order (means 0) a
item_in_order means functions (part.Function left n ns ss) = each (stmt_in_order (means (suc functions))) ss

abbrev pub functions_behind : Item → ℕ → ℕ
functions_behind (part.Function left n ns ss) functions = suc functions
functions_behind _ functions = functions

-- several items, behind `functions` functions
abbrev pub items_in_order : (ℕ → Sense) → ℕ → List Item → Bool
items_in_order means functions [] = true
items_in_order means functions (item ∷ items) = item_in_order means functions item && items_in_order means (functions_behind item functions) items
