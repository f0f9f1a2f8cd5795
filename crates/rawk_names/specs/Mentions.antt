-- The names of an expression, in the order of the text, each with how it is used (POSIX awk, "Expressions in awk", "Variables and Special Variables").
use Rattle.std.specs.Prelude.{◌==◌, ℕ, ◌+◌, if◌then◌else◌, List, [], ◌∷◌, ◌++◌, length, map, Option, Some, None}
use Rattle.rawk_keywords.specs.declared.builtin.Builtin.{Builtin}
use Rattle.rawk_keywords.specs.declared.builtin.Builtin.TheVariants as fun
use Rattle.rawk_parsing.specs.declared.tree.Name.{Name}
use Rattle.rawk_parsing.specs.declared.tree.Expr.{Expr, fold-Expr}
use Rattle.rawk_parsing.specs.declared.tree.Expr.TheOpen.{Expr-F, Place-F, Link-F}
use Rattle.rawk_parsing.specs.declared.tree.Expr.TheFolds.{fold-Place, fold-Link}
use Rattle.rawk_parsing.specs.declared.tree.Link.{Link}
use Rattle.rawk_parsing.specs.declared.tree.Place.{Place}

pub data Mention : Type 0 where
  -- read or assigned as a scalar
  AsScalar : Name → Mention
  -- with a subscript, after `in` or `delete`, or as the second argument of `split`
  AsArray : Name → Mention
  -- the argument of `length`
  Measured : Name → Mention
  -- alone, as the argument with this number, from 0, of a call of the second name
  Passed : Name → Name → ℕ → Mention
  -- an argument of such a call that is no name alone
  Computed : Name → ℕ → Mention
  -- a call with this many arguments
  Called : Name → ℕ → Mention
  -- a regular expression, with its place
  Pattern : ℕ → List ℕ → Mention

-- what a part mentions; its name, if it is one alone
pub record Seen : Type 0 where
  pub mentions : List Mention
  pub name : Option Name

abbrev pub only : List Mention → Seen
only ms = record { mentions = ms; name = None }

abbrev pub all : List Seen → List Mention
all [] = []
all (e ∷ es) = e.mentions ++ all es

abbrev pub every : List (List Mention) → List Mention
every [] = []
every (ms ∷ mss) = ms ++ every mss

-- a name alone as an argument of a built-in function
abbrev pub builtin_name : Builtin → ℕ → Name → Mention
builtin_name fun.Length i x = Measured x
builtin_name fun.Split i x = if i == 1 then AsArray x else AsScalar x
builtin_name _ i x = AsScalar x

abbrev pub builtin_at : Builtin → ℕ → List Mention → Option Name → List Mention
builtin_at f i ms None = ms
builtin_at f i ms (Some x) = builtin_name f i x ∷ []

abbrev pub call_at : Name → ℕ → List Mention → Option Name → List Mention
call_at f i ms None = Computed f i ∷ ms
call_at f i ms (Some x) = Passed x f i ∷ []

-- arguments, the first of which has this number
abbrev pub builtin_arguments : Builtin → ℕ → List Seen → List Mention
builtin_arguments f i [] = []
builtin_arguments f i (e ∷ es) = builtin_at f i e.mentions e.name ++ builtin_arguments f (i + 1) es

abbrev pub call_arguments : Name → ℕ → List Seen → List Mention
call_arguments f i [] = []
call_arguments f i (e ∷ es) = call_at f i e.mentions e.name ++ call_arguments f (i + 1) es

-- what an expression mentions, by what its parts do
abbrev pub expr_step : Expr-F Seen Seen (List Mention) → Seen
expr_step (Expr-F.Number n) = only []
expr_step (Expr-F.Text w) = only []
expr_step (Expr-F.Ere left w) = only (Pattern left w ∷ [])
expr_step (Expr-F.Of p) = p
expr_step (Expr-F.Group e) = only e.mentions
expr_step (Expr-F.Before c p) = only p.mentions
expr_step (Expr-F.After c p) = only p.mentions
expr_step (Expr-F.Power a b) = only (a.mentions ++ b.mentions)
expr_step (Expr-F.Signed s e) = only e.mentions
expr_step (Expr-F.Chain e links) = only (e.mentions ++ every links)
expr_step (Expr-F.In e arrays) = only (e.mentions ++ map AsArray arrays)
expr_step (Expr-F.ListIn es array) = only (all es ++ AsArray array ∷ [])
expr_step (Expr-F.Logic o es) = only (all es)
expr_step (Expr-F.Choice a b c) = only (a.mentions ++ (b.mentions ++ c.mentions))
expr_step (Expr-F.Assign o p e) = only (p.mentions ++ e.mentions)
expr_step (Expr-F.Builtin f es) = only (builtin_arguments f 0 es)
expr_step (Expr-F.Call f es) = only (Called f (length es) ∷ call_arguments f 0 es)
expr_step Expr-F.Getline = only []
expr_step (Expr-F.GetlineTo p) = only p.mentions

abbrev pub place_step : Place-F Seen Seen (List Mention) → Seen
place_step (Place-F.Name x) = record { mentions = AsScalar x ∷ []; name = Some x }
place_step (Place-F.Element array es) = only (AsArray array ∷ all es)
place_step (Place-F.Field e) = only e.mentions

abbrev pub link_step : Link-F Seen Seen (List Mention) → List Mention
link_step l = l.operand.mentions

unfoldable pub seen : Expr → Seen
seen e = fold-Expr Seen Seen (List Mention) expr_step place_step link_step e

unfoldable pub place_seen : Place → Seen
place_seen p = fold-Place Seen Seen (List Mention) expr_step place_step link_step p

unfoldable pub link_mentions : Link → List Mention
link_mentions l = fold-Link Seen Seen (List Mention) expr_step place_step link_step l

abbrev pub mentions : Expr → List Mention
mentions e = (seen e).mentions

abbrev pub place_mentions : Place → List Mention
place_mentions p = (place_seen p).mentions
