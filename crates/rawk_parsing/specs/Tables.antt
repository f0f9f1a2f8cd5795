-- The tokens that are operators and signs, and what functions take (POSIX awk, "Expressions in awk" and "Grammar"); grammar and parser share them.
use Rattle.std.specs.Prelude.{ℕ, Bool, true, false, not, ◌&&◌, ◌||◌, if◌then◌else◌, ◌==◌, List, ◌∷◌, length, Option, Some, None}
use Rattle.rawk_keywords.specs.declared.builtin.Builtin.{Builtin}
use Rattle.rawk_keywords.specs.declared.builtin.Builtin.TheVariants as fun
use Rattle.rawk_keywords.specs.declared.token.Kind.{Kind}
use Rattle.rawk_keywords.specs.declared.token.Kind.TheVariants as k
use Rattle.rawk_keywords.specs.Builtins.{takes}
use Rattle.rawk_value.specs.declared.operator.Arithmetic.TheVariants as arithmetic
use Rattle.rawk_value.specs.declared.operator.Comparison.TheVariants as comparison
use Rattle.rawk_parsing.specs.declared.tree.Operator.{Operator}
use Rattle.rawk_parsing.specs.declared.tree.Operator.TheVariants as op
use Rattle.rawk_words.specs.declared.operator.Logic.{Logic}
use Rattle.rawk_words.specs.declared.operator.Logic.TheVariants as logical
use Rattle.rawk_words.specs.declared.operator.Sign.{Sign}
use Rattle.rawk_words.specs.declared.operator.Sign.TheVariants as signs
use Rattle.rawk_parsing.specs.declared.tree.Change.{Change}
use Rattle.rawk_parsing.specs.declared.tree.Change.TheVariants as changes
use Rattle.rawk_parsing.specs.declared.tree.Assignment.{Assignment}
use Rattle.rawk_parsing.specs.declared.tree.Assignment.TheVariants as setting
use Rattle.rawk_parsing.specs.declared.tree.Expr.{Expr, out-Expr}
use Rattle.rawk_parsing.specs.declared.tree.Expr.TheOpen.{Expr-F}
use Rattle.rawk_parsing.specs.declared.tree.Link.{Link}
use Rattle.rawk_parsing.specs.declared.tree.Place.{Place}
use Rattle.rawk_parsing.specs.declared.tree.Place.TheVariants as spot

-- ---- operators between two operands

abbrev pub operator : Kind → Option Operator
operator k.Star = Some (op.Arithmetic arithmetic.Mul)
operator k.Slash = Some (op.Arithmetic arithmetic.Div)
operator k.Percent = Some (op.Arithmetic arithmetic.Rem)
operator k.Plus = Some (op.Arithmetic arithmetic.Add)
operator k.Minus = Some (op.Arithmetic arithmetic.Sub)
operator k.Less = Some (op.Comparison comparison.Less)
operator k.LessEqual = Some (op.Comparison comparison.LessEqual)
operator k.Equal = Some (op.Comparison comparison.Equal)
operator k.NotEqual = Some (op.Comparison comparison.NotEqual)
operator k.Greater = Some (op.Comparison comparison.Greater)
operator k.GreaterEqual = Some (op.Comparison comparison.GreaterEqual)
operator k.Tilde = Some op.Match
operator k.NotMatch = Some op.NotMatch
operator _ = None

-- the level of an operator, from the tightest: 1 for * / %, 2 for + -, 3 for a concatenation, 4 for comparisons, 5 for ~ !~
abbrev pub binds : Operator → ℕ
binds (op.Arithmetic arithmetic.Add) = 2
binds (op.Arithmetic arithmetic.Sub) = 2
binds (op.Arithmetic _) = 1
binds op.Concat = 3
binds (op.Comparison _) = 4
binds op.Match = 5
binds op.NotMatch = 5

-- what begins the right operand of a concatenation: neither a sign nor, since operators go first, a slash
abbrev pub begins_joined : Kind → Bool
begins_joined k.Name = true
begins_joined k.FunctionName = true
begins_joined k.Number = true
begins_joined k.Text = true
begins_joined k.LeftParen = true
begins_joined k.Dollar = true
begins_joined k.Bang = true
begins_joined k.Increment = true
begins_joined k.Decrement = true
begins_joined k.Getline = true
begins_joined k.Builtin = true
begins_joined _ = false

abbrev pub is_greater : Operator → Bool
is_greater (op.Comparison comparison.Greater) = true
is_greater _ = false

abbrev pub is_concat : Operator → Bool
is_concat op.Concat = true
is_concat _ = false

-- whether the operator may stand at the level; in the list of a print, > may not
abbrev pub of_level : Bool → ℕ → Option Operator → Option Operator
of_level prints level None = None
of_level prints level (Some o) = if (binds o == level) && not (prints && is_greater o) then Some o else None

-- the operator of a level that the token is or, for a concatenation, stands behind
unfoldable pub joins : Bool → ℕ → Kind → Option Operator
joins prints level kind = if level == 3 then (if begins_joined kind then Some op.Concat else None) else of_level prints level (operator kind)

-- a chain of comparisons, or of ~ and !~, has one operator at most
abbrev pub is_alone : ℕ → Bool
is_alone level = level == 4 || level == 5

-- the token that joins the operands of a level of tests, && for 1 and || above it
abbrev pub mark : ℕ → Kind
mark level = if level == 1 then k.And else k.Or

abbrev pub logic : ℕ → Logic
logic level = if level == 1 then logical.And else logical.Or

-- ---- operators with one operand

abbrev pub sign : Kind → Option Sign
sign k.Plus = Some signs.Plus
sign k.Minus = Some signs.Minus
sign k.Bang = Some signs.Not
sign _ = None

abbrev pub change : Kind → Option Change
change k.Increment = Some changes.Increment
change k.Decrement = Some changes.Decrement
change _ = None

-- what begins a place
abbrev pub begins_place : Kind → Bool
begins_place k.Name = true
begins_place k.Dollar = true
begins_place _ = false

abbrev pub assignment : Kind → Option Assignment
assignment k.Assign = Some setting.Plain
assignment k.PlusAssign = Some (setting.Update arithmetic.Add)
assignment k.MinusAssign = Some (setting.Update arithmetic.Sub)
assignment k.StarAssign = Some (setting.Update arithmetic.Mul)
assignment k.SlashAssign = Some (setting.Update arithmetic.Div)
assignment k.PercentAssign = Some (setting.Update arithmetic.Rem)
assignment k.CaretAssign = Some (setting.Update arithmetic.Pow)
assignment _ = None

-- ---- functions

abbrev pub is_name_place : Place → Bool
is_name_place (spot.Name _) = true
is_name_place _ = false

abbrev pub is_open_place : Expr-F Expr Place Link → Bool
is_open_place (Expr-F.Of _) = true
is_open_place _ = false

abbrev pub is_open_name : Expr-F Expr Place Link → Bool
is_open_name (Expr-F.Of p) = is_name_place p
is_open_name _ = false

-- whether the expression is a place, with no parentheses around it
unfoldable pub is_place : Expr → Bool
is_place e = is_open_place (out-Expr e)

-- whether the expression is a name, with no parentheses around it
unfoldable pub is_name : Expr → Bool
is_name e = is_open_name (out-Expr e)

abbrev pub third_is_place : List Expr → Bool
third_is_place (a ∷ b ∷ c ∷ es) = is_place c
third_is_place _ = true

abbrev pub second_is_name : List Expr → Bool
second_is_name (a ∷ b ∷ es) = is_name b
second_is_name _ = true

-- sub and gsub assign their third argument, split its second
abbrev pub is_shaped : Builtin → List Expr → Bool
is_shaped fun.Sub es = third_is_place es
is_shaped fun.Gsub es = third_is_place es
is_shaped fun.Split es = second_is_name es
is_shaped _ es = true

-- whether the function takes these arguments
unfoldable pub fits : Builtin → List Expr → Bool
fits f es = takes f (length es) && is_shaped f es
