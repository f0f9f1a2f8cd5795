-- Small programs with functions and ranges, computed from the definitions.
use Rattle.std.specs.Prelude.{◌≡◌, ℕ, suc, pos, List, [], ◌∷◌, length, map, codes, Option, Some, None, Box, Vec, true, false}
use Rattle.std.proofs.Common.{refl, arith}
use Rattle.std.specs.declared.alloc.Global.{Global}
use denote.RawPtr.{Ptr}
use Rattle.rawk_value.specs.declared.operator.Arithmetic.{Arithmetic}
use Rattle.rawk_value.specs.declared.operator.Arithmetic.TheVariants.{Add, Sub, Mul}
use Rattle.rawk_value.specs.declared.operator.Comparison.TheVariants as comparison
use Rattle.rawk_value.specs.declared.fault.Fault.TheVariants as fault
use Rattle.rawk_tree.specs.declared.tree.Expr.{Expr, end_of-Expr, more_of-Expr, end_of-Link, more_of-Link}
use Rattle.rawk_tree.specs.declared.tree.Expr.TheVariants as expr
use Rattle.rawk_tree.specs.declared.tree.Joiner.{Joiner}
use Rattle.rawk_tree.specs.declared.tree.Joiner.TheVariants as joiner
use Rattle.rawk_tree.specs.declared.tree.Link.TheVariants as link
use Rattle.rawk_tree.specs.declared.tree.Place.TheVariants as place
use Rattle.rawk_tree.specs.declared.tree.Guard.TheVariants as guard
use Rattle.rawk_tree.specs.declared.tree.Stmt.{Stmt, end_of-Stmt, more_of-Stmt, end_of-Branch, more_of-Branch}
use Rattle.rawk_tree.specs.declared.tree.Stmt.TheVariants as stmt
use Rattle.rawk_tree.specs.declared.tree.Function.{Function}
use Rattle.rawk_tree.specs.declared.tree.Rule.{Rule}
use Rattle.rawk_tree.specs.declared.tree.Kind.{Kind}
use Rattle.rawk_tree.specs.declared.tree.Kind.TheVariants as kind
use Rattle.rawk_tree.specs.declared.tree.Program.{Program}
use Rattle.rawk_special.specs.declared.special.TheConstants.{COUNT, NR}
use Rattle.rawk_value.specs.Values.{Bytes}
use Rattle.rawk_code.specs.declared.code.Op.TheVariants as does
use Rattle.rawk_code.specs.declared.code.Instr.TheVariants as instr
use Rattle.rawk_code.specs.declared.code.Operand.TheVariants.{Given as Known, Popped, Computed}
use Rattle.rawk_code.specs.Term as formula
use Rattle.rawk_code.specs.declared.code.Computation.TheVariants as computation
use Rattle.rawk_code.specs.declared.code.Variable.TheVariants as cell
use Rattle.rawk_code.specs.declared.code.Destination.TheVariants as destination
use Rattle.rawk_code.specs.declared.code.Simple.TheVariants as simple
use Rattle.rawk_code.specs.Actions.{Point, Ended, Faulted, Limited}
use Rattle.rawk_code.specs.Trace.{Trace, trace, out, status, line_of}
use Rattle.rawk_compiler.specs.Code.{program_code, entries_of}
use Rattle.rawk_compiler.proofs.Rows.{vec, x, sites, given}

-- the number of a program's second name
abbrev y : ℕ
y = suc COUNT

-- how many activations there are at each point, the sites in the states there, and the last points reached at their depth
abbrev depths : Trace → List ℕ
depths t = map (λ (p : Point). length p.state.frames) t.run.points

abbrev state_sites : Trace → List (Option ℕ)
state_sites t = map (λ (p : Point). p.state.site) t.run.points

abbrev heres : Trace → List ℕ
heres t = map (λ (p : Point). p.state.here) t.run.points

abbrev depth : Trace → ℕ
depth t = length t.run.state.frames

module _ (b : Box (Unit {0}) Global) (ptr : Ptr) (alloc : Global) where
  abbrev none : {A : Type 0} → Vec A Global
  none = vec ptr alloc [] (omega arith)

  abbrev one : {A : Type 0} → A → Vec A Global
  one a = vec ptr alloc (a ∷ []) (omega arith)

  abbrev two : {A : Type 0} → A → A → Vec A Global
  two a c = vec ptr alloc (a ∷ c ∷ []) (omega arith)

  abbrev constant : ℕ → Expr
  constant n = expr.Number (pos n)

  abbrev variable : ℕ → Expr
  variable g = expr.Read (place.Global g)

  abbrev local : ℕ → Expr
  local i = expr.Read (place.Local i)

  abbrev join : Joiner → Expr → Expr → Expr
  join j a c = expr.Chain' b a (one tt) (more_of-Link (link.Combine j c) end_of-Link)

  abbrev math : Arithmetic → Expr → Expr → Expr
  math op = join (joiner.Arithmetic op)

  abbrev equal : Expr → Expr → Expr
  equal = join (joiner.Comparison comparison.Equal)

  abbrev set : ℕ → Expr → Expr
  set g e = expr.Assign' (place.Global g) b e

  abbrev call_none : ℕ → Expr
  call_none f = expr.Call' f none end_of-Expr none

  abbrev call : ℕ → Expr → Expr
  call f e = expr.Call' f (one tt) (more_of-Expr e end_of-Expr) none

  abbrev only : Stmt → Stmt
  only s = stmt.Block' (one tt) (more_of-Stmt s end_of-Stmt)

  abbrev both : Stmt → Stmt → Stmt
  both s t = stmt.Block' (two tt tt) (more_of-Stmt s (more_of-Stmt t end_of-Stmt))

  abbrev idle : Stmt
  idle = stmt.Block' none end_of-Stmt

  abbrev function : Vec Bytes Global → Vec Kind Global → Stmt → Function
  function parameters kinds body = record { name = codes "f"; parameters = parameters; kinds = kinds; site = 0; body = body }

  abbrev whole : Function → Vec Stmt Global → Vec Rule Global → Vec Stmt Global → Program
  whole f begin rules end =
      record { names = two (codes "x") (codes "y"); kinds = two kind.Scalar kind.Scalar; functions = one f; ranges = 1; begin = begin; rules = rules; end = end; lines = vec ptr alloc (1 ∷ 2 ∷ 3 ∷ 4 ∷ 5 ∷ 6 ∷ []) (omega arith) }

  abbrev always : ℕ → Stmt → Rule
  always site s = record { site = site; guard = guard.When (constant 1); action = s }

  -- function f(n) { x = x + 1; return n * n } BEGIN { y = f(3); print y, x }
  abbrev squaring : Program
  squaring = whole (function (one (codes "n")) (one kind.Scalar) (both (stmt.Do 1 (set x (math Add (variable x) (constant 1)))) (stmt.ReturnWith 2 (math Mul (local 0) (local 0))))) (two (stmt.Do 3 (set y (call 0 (constant 3)))) (stmt.Print 4 (two (variable y) (variable x)))) none none

  abbrev squared : Trace
  squared = trace squaring [] (given [] 100)

  squaring-out : out squared ≡ codes "9 1\n"
  squaring-out = refl

  squaring-ends : squared.ending ≡ Ended
  squaring-ends = refl

  squaring-sites : sites squared ≡ Some 3 ∷ Some 0 ∷ Some 1 ∷ Some 2 ∷ Some 4 ∷ []
  squaring-sites = refl

  squaring-depths : depths squared ≡ 0 ∷ 1 ∷ 1 ∷ 1 ∷ 0 ∷ []
  squaring-depths = refl

  squaring-states : state_sites squared ≡ sites squared
  squaring-states = refl

  -- at the limit before the entry's point the activation is there, and execution stands at the calling point
  abbrev before_entry : Trace
  before_entry = trace squaring [] (given [] 1)

  entry-limited : before_entry.ending ≡ Limited (Some 0)
  entry-limited = refl

  entry-depth : depth before_entry ≡ 1
  entry-depth = refl

  entry-site : before_entry.run.state.site ≡ Some 3
  entry-site = refl

  -- behind the return execution stands at the caller's point again
  abbrev behind_return : Trace
  behind_return = trace squaring [] (given [] 4)

  return-limited : behind_return.ending ≡ Limited (Some 4)
  return-limited = refl

  return-depth : depth behind_return ≡ 0
  return-depth = refl

  return-site : behind_return.run.state.site ≡ Some 3
  return-site = refl

  return-here : behind_return.run.state.here ≡ 0
  return-here = refl

  -- the code: the function stands behind END
  squaring-code : program_code squaring ≡ instr.Point (Some 3) ∷ instr.Do (does.Push (simple.Number (pos 3))) ∷ instr.Call 0 1 [] ∷ instr.Do (does.Store (destination.Variable (cell.Global y)) Popped)
      ∷ instr.Point (Some 4) ∷ instr.Do (does.Print 0 (simple.Global y ∷ simple.Global x ∷ []))
      ∷ instr.BeginEnd ∷ instr.Halt
      ∷ instr.Point (Some 0)
      ∷ instr.Point (Some 1) ∷ instr.Do (does.Store (destination.Variable (cell.Global x)) (Computed (formula.Both (computation.Arithmetic Add) (formula.Given (simple.Global x)) (formula.Given (simple.Number (pos 1))))))
      ∷ instr.Point (Some 2) ∷ instr.Return 0 (Computed (formula.Both (computation.Arithmetic Mul) (formula.Given (simple.Local 0)) (formula.Given (simple.Local 0))))
      ∷ instr.Return 0 (Known simple.Uninitialized) ∷ []
  squaring-code = refl

  squaring-entries : entries_of squaring ≡ record { place = 8; kinds = kind.Scalar ∷ [] } ∷ []
  squaring-entries = refl

  -- function f(n) { if (n == 1) return 1; return n * f(n - 1) } BEGIN { print f(3) }
  abbrev factorial : Program
  factorial = whole (function (one (codes "n")) (one kind.Scalar) (both (stmt.If' (one tt) (more_of-Branch 1 (equal (local 0) (constant 1)) (stmt.ReturnWith 2 (constant 1)) end_of-Branch) b idle) (stmt.ReturnWith 3 (math Mul (local 0) (call 0 (math Sub (local 0) (constant 1))))))) (one (stmt.Print 4 (one (call 0 (constant 3))))) none none

  factorial-out : out (trace factorial [] (given [] 100)) ≡ codes "6\n"
  factorial-out = refl

  factorial-depths : depths (trace factorial [] (given [] 100)) ≡ 0 ∷ 1 ∷ 1 ∷ 1 ∷ 2 ∷ 2 ∷ 2 ∷ 3 ∷ 3 ∷ 3 ∷ []
  factorial-depths = refl

  factorial-heres : heres (trace factorial [] (given [] 100)) ≡ 0 ∷ 1 ∷ 2 ∷ 3 ∷ 4 ∷ 5 ∷ 6 ∷ 7 ∷ 8 ∷ 9 ∷ []
  factorial-heres = refl

  -- function f(a, c) { print a, c, c == 0; c = 7; c += 2; return c++ } BEGIN { x = f(5); print x }: a missing argument is uninitialised, and what a function gives is taken before its locals are gone
  abbrev missing : Program
  missing = whole (function (two (codes "a") (codes "c")) (two kind.Scalar kind.Scalar) (both (both (stmt.Print 1 (vec ptr alloc (local 0 ∷ local 1 ∷ equal (local 1) (constant 0) ∷ []) (omega arith))) (stmt.Do 2 (expr.Assign' (place.Local 1) b (constant 7)))) (both (stmt.Do 3 (expr.Update' Add (place.Local 1) b (constant 2))) (stmt.ReturnWith 4 (expr.After Add (place.Local 1)))))) (two (stmt.Do 5 (set x (call 0 (constant 5)))) (stmt.Print 6 (one (variable x)))) none none

  missing-out : out (trace missing [] (given [] 100)) ≡ codes "5  1\n9\n"
  missing-out = refl

  -- function f(a) { a++ } BEGIN { x = 1; y = f(x); print x, y }: the caller's variable stays, and a body without `return` gives the uninitialised value
  falling-out : out (trace (whole (function (one (codes "a")) (one kind.Scalar) (stmt.Do 1 (expr.After Add (place.Local 0)))) (vec ptr alloc (stmt.Do 2 (set x (constant 1)) ∷ stmt.Do 3 (set y (call 0 (variable x))) ∷ stmt.Print 4 (two (variable x) (variable y)) ∷ []) (omega arith)) none none) [] (given [] 100)) ≡ codes "1 \n"
  falling-out = refl

  -- function f() { exit 300 } BEGIN { x = 1 + f(); print "no" } END { print "e" }: END runs with no activations
  abbrev leaving : Trace
  leaving = trace (whole (function none none (stmt.ExitWith 1 (constant 300))) (two (stmt.Do 2 (set x (math Add (constant 1) (call_none 0)))) (stmt.Print 3 (one (expr.Text (codes "no"))))) none (one (stmt.Print 4 (one (expr.Text (codes "e")))))) [] (given (codes "a\n") 100)

  leaving-out : out leaving ≡ codes "e\n"
  leaving-out = refl

  leaving-status : status leaving ≡ 44
  leaving-status = refl

  leaving-depths : depths leaving ≡ 0 ∷ 1 ∷ 1 ∷ 0 ∷ []
  leaving-depths = refl

  leaving-read : leaving.run.state.consumed ≡ 0
  leaving-read = refl

  -- function f() { next } { f(); print "no" } END { print NR }
  abbrev passing : Trace
  passing = trace (whole (function none none (stmt.Next 1)) none (one (always 2 (both (stmt.Do 3 (call_none 0)) (stmt.Print 4 (one (expr.Text (codes "no"))))))) (one (stmt.Print 5 (one (variable NR))))) [] (given (codes "a\nb\n") 100)

  passing-out : out passing ≡ codes "2\n"
  passing-out = refl

  passing-sites : sites passing ≡ None ∷ Some 2 ∷ Some 3 ∷ Some 0 ∷ Some 1 ∷ None ∷ Some 2 ∷ Some 3 ∷ Some 0 ∷ Some 1 ∷ None ∷ Some 5 ∷ []
  passing-sites = refl

  passing-depths : depths passing ≡ 0 ∷ 0 ∷ 0 ∷ 1 ∷ 1 ∷ 0 ∷ 0 ∷ 0 ∷ 1 ∷ 1 ∷ 0 ∷ 0 ∷ []
  passing-depths = refl

  -- function f() { next } BEGIN { f() }: a fault, with the activation still there, at the line of `next`
  abbrev outside : Program
  outside = whole (function none none (stmt.Next 1)) (one (stmt.Do 2 (call_none 0))) none none

  outside-ending : (trace outside [] (given [] 100)).ending ≡ Faulted fault.NextOutside
  outside-ending = refl

  outside-depth : depth (trace outside [] (given [] 100)) ≡ 1
  outside-depth = refl

  outside-line : line_of outside (trace outside [] (given [] 100)) ≡ 2
  outside-line = refl

  -- function f() { print "w"; x = 9223372036854775807 + 1 } BEGIN { f() }: what was written stays, and the line is the callee's
  abbrev failing : Program
  failing = whole (function none none (both (stmt.Print 1 (one (expr.Text (codes "w")))) (stmt.Do 2 (set x (math Add (constant 9223372036854775807) (constant 1)))))) (one (stmt.Do 3 (call_none 0))) none none

  failing-ending : (trace failing [] (given [] 100)).ending ≡ Faulted fault.Overflow
  failing-ending = refl

  failing-out : out (trace failing [] (given [] 100)) ≡ codes "w\n"
  failing-out = refl

  failing-line : line_of failing (trace failing [] (given [] 100)) ≡ 3
  failing-line = refl

  failing-depth : depth (trace failing [] (given [] 100)) ≡ 1
  failing-depth = refl

  -- function f() { return 1 } BEGIN { x = 9223372036854775807 + f() }: the line is the caller's
  abbrev returned : Program
  returned = whole (function none none (stmt.ReturnWith 1 (constant 1))) (one (stmt.Do 3 (set x (math Add (constant 9223372036854775807) (call_none 0))))) none none

  returned-ending : (trace returned [] (given [] 100)).ending ≡ Faulted fault.Overflow
  returned-ending = refl

  returned-line : line_of returned (trace returned [] (given [] 100)) ≡ 4
  returned-line = refl

  -- what no text has: a `return` outside of functions and a `break` of a body's own mean what `exit` does, and a call of no function ends the run
  bare-out : out (trace (whole (function none none idle) (two (stmt.Return 1) (stmt.Print 2 (one (constant 1)))) none (one (stmt.Print 3 (one (constant 2))))) [] (given [] 100)) ≡ codes "2\n"
  bare-out = refl

  broken-out : out (trace (whole (function none none (stmt.Break 1)) (two (stmt.Do 2 (call_none 0)) (stmt.Print 3 (one (constant 1)))) none (one (stmt.Print 4 (one (constant 2))))) [] (given [] 100)) ≡ codes "2\n"
  broken-out = refl

  unknown-out : out (trace (whole (function none none idle) (two (stmt.Do 1 (call_none 1)) (stmt.Print 2 (one (constant 1)))) none (one (stmt.Print 3 (one (constant 2))))) [] (given [] 100)) ≡ []
  unknown-out = refl

  -- PART 2: ranges

  -- e, g { print }
  abbrev between : Expr → Expr → Program
  between e g = whole (function none none idle) none (one (record { site = 1; guard = guard.Between 0 e g; action = only (stmt.Print 2 (one (expr.Read (place.Field' b (constant 0))))) })) none

  abbrev is_record : ℕ → Expr
  is_record n = equal (variable NR) (constant n)

  -- NR == 2, NR == 3
  between-out : out (trace (between (is_record 2) (is_record 3)) [] (given (codes "a\nb\nc\nd\n") 100)) ≡ codes "b\nc\n"
  between-out = refl

  between-sites : sites (trace (between (is_record 2) (is_record 3)) [] (given (codes "a\nb\nc\nd\n") 100)) ≡ None ∷ Some 1 ∷ None ∷ Some 1 ∷ Some 2 ∷ None ∷ Some 1 ∷ Some 2 ∷ None ∷ Some 1 ∷ None ∷ []
  between-sites = refl

  -- NR == 2, NR == 2: it begins and ends on one record
  at-once-out : out (trace (between (is_record 2) (is_record 2)) [] (given (codes "a\nb\nc\nd\n") 100)) ≡ codes "b\n"
  at-once-out = refl

  -- $1, $1 == 2: it begins again, and may never end
  again-out : out (trace (between (expr.Read (place.Field' b (constant 1))) (equal (expr.Read (place.Field' b (constant 1))) (constant 2))) [] (given (codes "0\n1\n0\n2\n0\n2\n1\n0\n") 100)) ≡ codes "1\n0\n2\n2\n1\n0\n"
  again-out = refl

  -- the code of NR == 1, NR == 2 { print }
  between-code : program_code (between (is_record 1) (is_record 2)) ≡ instr.BeginMain
      ∷ instr.Point None ∷ instr.ReadRecord 9
      ∷ instr.Point (Some 1) ∷ instr.SkipIfOn 0 2
      ∷ instr.SkipIfFalse 5 (Computed (formula.Both (computation.Comparison comparison.Equal) (formula.Given (simple.Global NR)) (formula.Given (simple.Number (pos 1))))) ∷ instr.Do (does.SetRange 0 true)
      ∷ instr.SkipIfFalse 1 (Computed (formula.Both (computation.Comparison comparison.Equal) (formula.Given (simple.Global NR)) (formula.Given (simple.Number (pos 2))))) ∷ instr.Do (does.SetRange 0 false)
      ∷ instr.Point (Some 2) ∷ instr.Do (does.Print 0 (simple.Field 0 ∷ []))
      ∷ instr.GoTo 1
      ∷ instr.BeginEnd ∷ instr.Halt
      ∷ instr.Point (Some 0) ∷ instr.Return 0 (Known simple.Uninitialized) ∷ []
  between-code = refl
