-- The code of small expressions with elements, computed from the definitions.
use Rattle.std.specs.Prelude.{◌≡◌, pos, [], ◌∷◌, Some, Box, Vec}
use Rattle.std.proofs.Common.{refl, arith}
use Rattle.std.specs.declared.alloc.Global.{Global}
use denote.RawPtr.{Ptr}
use Rattle.rawk_value.specs.declared.operator.Arithmetic.TheVariants.{Add}
use Rattle.rawk_words.specs.declared.array.Array.TheVariants as array
use Rattle.rawk_tree.specs.declared.tree.Expr.{Expr, end_of-Expr, more_of-Expr}
use Rattle.rawk_tree.specs.declared.tree.Expr.TheVariants as expr
use Rattle.rawk_tree.specs.declared.tree.Place.{Place}
use Rattle.rawk_tree.specs.declared.tree.Place.TheVariants as place
use Rattle.rawk_tree.specs.declared.tree.Scalar.TheVariants as scalar
use Rattle.rawk_tree.specs.declared.tree.Stmt.TheVariants as stmt
use Rattle.rawk_code.specs.declared.code.Variable.TheVariants as cell
use Rattle.rawk_code.specs.declared.code.Op.TheVariants as does
use Rattle.rawk_code.specs.declared.code.Instr.TheVariants as instr
use Rattle.rawk_code.specs.declared.code.Operand.TheVariants.{Given as Known, Popped}
use Rattle.rawk_code.specs.declared.code.Destination.TheVariants as destination
use Rattle.rawk_code.specs.declared.code.Simple.TheVariants as simple
use Rattle.rawk_emission.specs.Expressions.{expr_code}
use Rattle.rawk_compiler.specs.Code.{effect_code, stmt_code, nowhere}
use Rattle.rawk_compiler.proofs.Rows.{vec, x}

module _ (b : Box (Unit {0}) Global) (ptr : Ptr) (alloc : Global) where
  abbrev one : {A : Type 0} → A → Vec A Global
  one a = vec ptr alloc (a ∷ []) (omega arith)

  abbrev two : {A : Type 0} → A → A → Vec A Global
  two a c = vec ptr alloc (a ∷ c ∷ []) (omega arith)

  -- the element of the array `a`, which is the second name
  abbrev at : Expr → Place
  at k = place.Element' (array.Global 1) (one tt) (more_of-Expr k end_of-Expr)

  abbrev at_both : Expr → Expr → Place
  at_both k j = place.Element' (array.Global 1) (two tt tt) (more_of-Expr k (more_of-Expr j end_of-Expr))

  -- the code of a[x]++, of a[x], of a[1, x] and of (1, x) in a: one subscript is its own key
  counting-code : effect_code (expr.After Add (at (expr.Read (place.Global x)))) ≡ instr.Do (does.Push (simple.Global x)) ∷ instr.Do (does.StoreUpdate Add (destination.ElementBelow (array.Global 1)) (Known (simple.Number (pos 1)))) ∷ []
  counting-code = refl

  reading-code : expr_code (expr.Read (at (expr.Read (place.Global x)))) ≡ instr.Do (does.ElementAt (array.Global 1) (Known (simple.Global x))) ∷ []
  reading-code = refl

  several-code : expr_code (expr.Read (at_both (expr.Number (pos 1)) (expr.Read (place.Global x)))) ≡ instr.Do (does.Push (simple.Number (pos 1))) ∷ instr.Do (does.Push (simple.Global x)) ∷ instr.Do (does.Key 2) ∷ instr.Do (does.ElementAt (array.Global 1) Popped) ∷ []
  several-code = refl

  has-code : expr_code (expr.Has' (array.Global 1) (two tt tt) (more_of-Expr (expr.Number (pos 1)) (more_of-Expr (expr.Read (place.Global x)) end_of-Expr))) ≡ instr.Do (does.Push (simple.Number (pos 1))) ∷ instr.Do (does.Push (simple.Global x)) ∷ instr.Do (does.Key 2) ∷ instr.Do (does.Has (array.Global 1) Popped) ∷ []
  has-code = refl

  -- the code of a turn that returns from inside two loops over keys: both lists are dropped
  returning-code : stmt_code (stmt.ForIn' 0 (scalar.Global x) (array.Global 1) b (stmt.ForIn' 1 (scalar.Local 0) (array.Global 1) b (stmt.Return 2))) nowhere 0
      ≡ instr.TakeKeys (array.Global 1) ∷ instr.GoOn 12 ∷ instr.GoOn 12 ∷ instr.Point (Some 0) ∷ instr.AssignKey (destination.Variable (cell.Global x))
      ∷ instr.TakeKeys (array.Global 1) ∷ instr.GoOn 5 ∷ instr.GoOn 5 ∷ instr.Point (Some 1) ∷ instr.AssignKey (destination.Variable (cell.Local 0))
      ∷ instr.Point (Some 2) ∷ instr.Return 2 (Known simple.Uninitialized)
      ∷ instr.BackIfKey 8 ∷ instr.DropKeys
      ∷ instr.BackIfKey 3 ∷ instr.DropKeys ∷ []
  returning-code = refl
