-- Small programs that read records' texts into places, computed from the definitions.
use Rattle.std.specs.Prelude.{◌≡◌, pos, [], ◌∷◌, codes, Box, Vec}
use Rattle.std.proofs.Common.{refl, arith}
use Rattle.std.specs.declared.alloc.Global.{Global}
use denote.RawPtr.{Ptr}
use Rattle.rawk_value.specs.Values.{Bytes}
use Rattle.rawk_value.specs.declared.fault.Fault.TheVariants as fault
use Rattle.rawk_words.specs.declared.array.Array.TheVariants as array
use Rattle.rawk_tree.specs.declared.tree.Expr.{Expr, end_of-Expr, more_of-Expr}
use Rattle.rawk_tree.specs.declared.tree.Expr.TheVariants as expr
use Rattle.rawk_tree.specs.declared.tree.Place.{Place}
use Rattle.rawk_tree.specs.declared.tree.Place.TheVariants as place
use Rattle.rawk_tree.specs.declared.tree.Guard.TheVariants as guard
use Rattle.rawk_tree.specs.declared.tree.Stmt.{end_of-Stmt, more_of-Stmt}
use Rattle.rawk_tree.specs.declared.tree.Stmt.TheVariants as stmt
use Rattle.rawk_tree.specs.declared.tree.Kind.TheVariants as kind
use Rattle.rawk_special.specs.declared.special.TheConstants.{NR}
use Rattle.rawk_code.specs.declared.code.Op.TheVariants as does
use Rattle.rawk_code.specs.declared.code.Instr.TheVariants as instr
use Rattle.rawk_code.specs.declared.code.Operand.TheVariants.{Popped}
use Rattle.rawk_code.specs.declared.code.Destination.TheVariants as destination
use Rattle.rawk_code.specs.declared.code.Variable.TheVariants as cell
use Rattle.rawk_code.specs.declared.code.Simple.TheVariants as simple
use Rattle.rawk_code.specs.Actions.{Faulted}
use Rattle.rawk_code.specs.Trace.{Trace, trace, out}
use Rattle.rawk_emission.specs.Expressions.{expr_code}
use Rattle.rawk_compiler.proofs.Rows.{vec, x, given}

module _ (b : Box (Unit {0}) Global) (ptr : Ptr) (alloc : Global) where
  abbrev none : {A : Type 0} → Vec A Global
  none = vec ptr alloc [] (omega arith)

  abbrev one : {A : Type 0} → A → Vec A Global
  one a = vec ptr alloc (a ∷ []) (omega arith)

  abbrev two : {A : Type 0} → A → A → Vec A Global
  two a c = vec ptr alloc (a ∷ c ∷ []) (omega arith)

  abbrev three : {A : Type 0} → A → A → A → Vec A Global
  three a c d = vec ptr alloc (a ∷ c ∷ d ∷ []) (omega arith)

  abbrev variable : Expr
  variable = expr.Read (place.Global x)

  abbrev records : Expr
  records = expr.Read (place.Global NR)

  -- the element of the array `a`, which is the second name
  abbrev at : Expr → Place
  at k = place.Element' (array.Global 1) (one tt) (more_of-Expr k end_of-Expr)

  -- what `{ getline q; print NR, e }` does, where the names are a variable and an array
  abbrev reading : Place → Expr → Bytes → Trace
  reading q e input =
      trace (record {
        names = two (codes "x") (codes "a");
        kinds = two kind.Scalar kind.Array;
        functions = none;
        ranges = 0;
        begin = none;
        rules = one (record { site = 0; guard = guard.When (expr.Number (pos 1)); action = stmt.Block' (two tt tt) (more_of-Stmt (stmt.Do 1 (expr.GetlineTo q)) (more_of-Stmt (stmt.Print 2 (two records e)) end_of-Stmt)) });
        end = none;
        lines = three 1 1 1;
      }) [] (given input 100)

  -- { getline NF; print NR, NF } and { getline $NR; print NR, $0 }: the parts of the place come first
  count-read : out (reading place.FieldCount (expr.Read place.FieldCount) (codes "a b\n1\n")) ≡ codes "2 1\n"
  count-read = refl

  field-read : out (reading (place.Field' b records) (expr.Read (place.Field' b (expr.Number (pos 0)))) (codes "a b\nc d\n")) ≡ codes "2 c d b\n"
  field-read = refl

  -- { getline x; print NR, x }: the last record is alone, and nothing is assigned behind it
  variable-read : out (reading (place.Global x) variable (codes "a\nb\nc\n")) ≡ codes "2 b\n3 b\n"
  variable-read = refl

  -- { getline NF; print NR, NF } on a count that is none: the reading is done
  count-refused : (reading place.FieldCount records (codes "a\n-1\n")).ending ≡ Faulted fault.FieldNumber
  count-refused = refl

  -- the code of `getline a[NR]`, whose key is made before the reading counts NR, of `getline $x` and of `getline x`
  element-code : expr_code (expr.GetlineTo (at records)) ≡ instr.Do (does.Push (simple.Global NR)) ∷ instr.ReadText 3 ∷ instr.Do (does.Store (destination.ElementBelow (array.Global 1)) Popped)
      ∷ instr.Do (does.Push (simple.Number (pos 1))) ∷ instr.GoOn 2 ∷ instr.Do does.Pop ∷ instr.Do (does.Push (simple.Number (pos 0))) ∷ []
  element-code = refl

  part-code : expr_code (expr.GetlineTo (place.Field' b variable)) ≡ instr.Do (does.Push (simple.Global x)) ∷ instr.Do does.FieldNumber ∷ instr.ReadText 3 ∷ instr.Do (does.Store destination.FieldBelow Popped)
      ∷ instr.Do (does.Push (simple.Number (pos 1))) ∷ instr.GoOn 2 ∷ instr.Do does.Pop ∷ instr.Do (does.Push (simple.Number (pos 0))) ∷ []
  part-code = refl

  whole-code : expr_code (expr.GetlineTo (place.Global x)) ≡ instr.ReadText 3 ∷ instr.Do (does.Store (destination.Variable (cell.Global x)) Popped)
      ∷ instr.Do (does.Push (simple.Number (pos 1))) ∷ instr.GoOn 1 ∷ instr.Do (does.Push (simple.Number (pos 0))) ∷ []
  whole-code = refl
