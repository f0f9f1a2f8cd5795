-- Calls of built-in functions in the tree, by their arguments.
use Rattle.std.specs.Prelude.{◌≡◌, ℕ, zero, suc, pos, Bool, true, false, List, [], ◌∷◌, Option, Some, None}
use Rattle.std.specs.Global.{Box, Vec}
use Rattle.rawk_keywords.specs.declared.builtin.Builtin.{Builtin}
use Rattle.rawk_keywords.specs.declared.builtin.Builtin.TheVariants as fun
use Rattle.rawk_tree.specs.declared.tree.Expr.{Expr}
use Rattle.rawk_tree.specs.declared.tree.Expr.TheVariants as tree
use Rattle.rawk_tree.specs.declared.tree.Joiner.{Joiner}
use Rattle.rawk_tree.specs.declared.tree.Joiner.TheVariants as joiner
use Rattle.rawk_tree.specs.declared.tree.Link.{Link}
use Rattle.rawk_tree.specs.declared.tree.Link.TheVariants as tree_link
use Rattle.rawk_tree.specs.declared.tree.Place.TheVariants as tree_place
use Rattle.rawk_tree.specs.declared.tree.Unary.{Unary}
use Rattle.rawk_tree.specs.declared.tree.Unary.TheVariants as unary

-- the functions that can do without an argument, those of one and those of two
abbrev pub bare_of : Builtin → Option Unary
bare_of fun.Length = Some unary.Length
bare_of _ = None

abbrev pub unary_of : Builtin → Option Unary
unary_of fun.Length = Some unary.Length
unary_of fun.Tolower = Some unary.ToLower
unary_of fun.Toupper = Some unary.ToUpper
unary_of fun.Int = Some unary.Int
unary_of _ = None

abbrev pub binary_of : Builtin → Option Joiner
binary_of fun.Index = Some joiner.Index
binary_of fun.Substr = Some joiner.Substr
binary_of _ = None

-- whether the tree has a function of this many arguments
abbrev pub has_builtin : Builtin → ℕ → Bool
has_builtin fun.Length zero = true
has_builtin fun.Length (suc zero) = true
has_builtin fun.Tolower (suc zero) = true
has_builtin fun.Toupper (suc zero) = true
has_builtin fun.Int (suc zero) = true
has_builtin fun.Index (suc (suc zero)) = true
has_builtin fun.Substr (suc (suc zero)) = true
has_builtin fun.Substr (suc (suc (suc zero))) = true
has_builtin fun.Sprintf (suc n) = true
has_builtin _ _ = false

-- a function of these arguments, and its tree
pub data Applies : Builtin → List Expr → Expr → Type 0 where
  -- a missing argument is the record, `$0`
  of_none : {f : Builtin} (u : Unary) (s t : Box Expr)
      → bare_of f ≡ Some u → s.value ≡ tree.Read (tree_place.Field t) → t.value ≡ tree.Number (pos 0) → Applies f [] (tree.Unary u s)
  of_one : {f : Builtin} (u : Unary) (s : Box Expr) → unary_of f ≡ Some u → Applies f (s.value ∷ []) (tree.Unary u s)
  -- two arguments are a chain of one link
  of_two : {f : Builtin} (j : Joiner) (s : Box Expr) (t : Expr) (ys : Vec Link)
      → binary_of f ≡ Some j → ys.items ≡ tree_link.Combine j t ∷ [] → Applies f (s.value ∷ t ∷ []) (tree.Chain s ys)
  substr : (s t u : Box Expr) → Applies fun.Substr (s.value ∷ t.value ∷ u.value ∷ []) (tree.Substr s t u)
  -- the first argument is the format
  sprintf : (s : Box Expr) (ss : Vec Expr) → Applies fun.Sprintf (s.value ∷ ss.items) (tree.Sprintf s ss)
