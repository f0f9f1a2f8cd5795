-- Nodes of the settled tree, from their parts.
use Rattle.std.specs.Prelude.{◌≡◌, ℕ, ℤ, pos, List, [], ◌∷◌}
use Rattle.std.specs.Global.{Box, Vec}
use Rattle.rawk_value.specs.declared.operator.Arithmetic.{Arithmetic}
use Rattle.rawk_value.specs.declared.operator.Arithmetic.TheVariants.{Add, Sub}
use Rattle.rawk_words.specs.declared.operator.Logic.{Logic}
use Rattle.rawk_words.specs.declared.operator.Logic.TheVariants as logic
use Rattle.rawk_parsing.specs.declared.tree.Operator.{Operator}
use Rattle.rawk_parsing.specs.declared.tree.Operator.TheVariants as op
use Rattle.rawk_parsing.specs.declared.tree.Change.{Change}
use Rattle.rawk_parsing.specs.declared.tree.Change.TheVariants as change
use Rattle.rawk_tree.specs.declared.tree.Expr.{Expr}
use Rattle.rawk_tree.specs.declared.tree.Expr.TheVariants as tree
use Rattle.rawk_tree.specs.declared.tree.Joiner.{Joiner}
use Rattle.rawk_tree.specs.declared.tree.Joiner.TheVariants as joiner
use Rattle.rawk_tree.specs.declared.tree.Link.{Link}
use Rattle.rawk_tree.specs.declared.tree.Link.TheVariants as tree_link
use Rattle.rawk_tree.specs.declared.tree.Place.{Place}
use Rattle.rawk_tree.specs.declared.tree.Place.TheVariants as tree_place
use Rattle.rawk_tree.specs.declared.tree.Scalar.{Scalar}
use Rattle.rawk_tree.specs.declared.tree.Scalar.TheVariants as scalar

-- the operator of a link
abbrev pub joiner_of : Operator → Joiner
joiner_of (op.Arithmetic o) = joiner.Arithmetic o
joiner_of (op.Comparison c) = joiner.Comparison c
joiner_of op.Concat = joiner.Concat
joiner_of op.Match = joiner.Matches
joiner_of op.NotMatch = joiner.NotMatches

-- a scalar, as a place
abbrev pub scalar_place : Scalar → Place
scalar_place (scalar.Global n) = tree_place.Global n
scalar_place (scalar.Local n) = tree_place.Local n
scalar_place scalar.FieldCount = tree_place.FieldCount

-- `$0`, as a place and as its value
pub record IsRecordPlace (q : Place) : Type 0 where
  pub number : Box Expr
  pub zero : number.value ≡ tree.Number (pos 0)
  pub is : q ≡ tree_place.Field number

pub record IsRecord (e : Expr) : Type 0 where
  pub place : Place
  pub whole : IsRecordPlace place
  pub is : e ≡ tree.Read place

-- whether `$0` has a match of a regular expression (POSIX awk, Regular Expressions)
pub record IsMatchOf (w : List ℕ) (e : Expr) : Type 0 where
  pub first : Box Expr
  pub more : Vec Link
  pub whole : IsRecord first.value
  pub link : more.items ≡ tree_link.Combine joiner.Matches (tree.Text w) ∷ []
  pub is : e ≡ tree.Chain first more

-- what `++` and `--` do with 1
abbrev pub operator_of : Change → Arithmetic
operator_of change.Increment = Add
operator_of change.Decrement = Sub

-- what stands before the first test: 1 for `&&`, 0 for `||`
abbrev pub neutral : Logic → ℤ
neutral logic.And = pos 1
neutral logic.Or = pos 0
