-- Compiled code goes back only to points.
use Rattle.std.proofs.Common.{◌≡◌, ℕ, pos, zero, suc, ◌+◌, ◌-◌, ◌*◌, ◌<◌, ◌≤◌, ◌⊎◌, inl, inr, Bool, true, false, not, List, [], ◌∷◌, ◌++◌, length, map, Option, Some, None, if◌then◌else◌, refl, sym, ap, ◌∙◌, subst, arith, length-append}
use Rattle.std.specs.Prelude.{slice_get, nat_lt, ◌||◌}
use Rattle.std.proofs.lemmas.Option.{slice_get_past}
use Rattle.std.proofs.lemmas.Bool.{cases_lt, lt-ltb}
use Rattle.rawk_tree.specs.declared.tree.Expr.{Expr, Row_of-Expr, end_of-Expr, more_of-Expr, items-the_row-Expr, Row_of-Link, end_of-Link, more_of-Link, items-the_row-Link}
use Rattle.rawk_tree.specs.declared.tree.Expr.TheVariants as expr
use Rattle.rawk_tree.specs.declared.tree.Link.{Link}
use Rattle.rawk_tree.specs.declared.tree.Link.TheVariants as link
use Rattle.rawk_tree.specs.declared.tree.Place.{Place}
use Rattle.rawk_tree.specs.declared.tree.Place.TheVariants as place
use Rattle.rawk_tree.specs.declared.tree.Stmt.{Stmt, Row_of-Stmt, end_of-Stmt, more_of-Stmt, Row_of-Branch, end_of-Branch, more_of-Branch}
use Rattle.rawk_tree.specs.declared.tree.Stmt.TheVariants as stmt
use Rattle.rawk_tree.specs.declared.tree.Guard.{Guard}
use Rattle.rawk_tree.specs.declared.tree.Guard.TheVariants.{When, Between}
use Rattle.rawk_tree.specs.declared.tree.Rule.{Rule}
use Rattle.rawk_tree.specs.declared.tree.Function.{Function}
use Rattle.rawk_tree.specs.declared.tree.Program.{Program}
use Rattle.rawk_words.specs.declared.array.Array.{Array}
use Rattle.rawk_words.specs.declared.operator.Logic.{Logic}
use Rattle.rawk_words.specs.declared.operator.Sign.TheVariants as sign
use Rattle.rawk_tree.specs.declared.tree.Unary.{Unary}
use Rattle.rawk_tree.specs.declared.tree.Unary.TheVariants as unary
use Rattle.rawk_compiler.specs.declared.loops.Around.{Around}
use Rattle.rawk_code.specs.declared.code.Simple.{Simple}
use Rattle.rawk_code.specs.declared.code.Simple.TheVariants as simple
use Rattle.rawk_code.specs.declared.code.Operand.{Operand}
use Rattle.rawk_code.specs.declared.code.Operand.TheVariants as operand
use Rattle.rawk_code.specs.declared.code.Variable.{Variable}
use Rattle.rawk_code.specs.declared.code.Destination.{Destination}
use Rattle.rawk_code.specs.declared.code.Destination.TheVariants as destination
use Rattle.rawk_code.specs.declared.code.Entry.{Entry}
use Rattle.rawk_code.specs.declared.code.Instr.{Instr}
use Rattle.rawk_code.specs.declared.code.Op.{Op}
use Rattle.rawk_code.specs.declared.code.Op.TheVariants as does
use Rattle.rawk_code.specs.declared.code.Instr.TheVariants as instr
use Rattle.rawk_code.specs.Trace.{reads}
use Rattle.rawk_selection.specs.Operands.{pair_op, constant_field, simple_field, simple_of, term_of, computing_op, part_op, found_op, cut_op, destination_of, operand_of, sought_operand, constant_operand}
use Rattle.rawk_selection.specs.Conditions.{Fork, agrees, leap_on, deciding, logic_of, is_neutral, against}
use Rattle.rawk_selection.specs.Added.{appending, added, added_ops, appending_made, or_else, added_to}
use Rattle.rawk_selection.specs.Readings.{part_dropped, missing_code, getline_to_code}
use Rattle.rawk_selection.specs.Jumps.{over}
use Rattle.rawk_emission.specs.Expressions.{unless_constant, separator_operand, right_operand, unless_ready, unless_one, pushed, joined, key_code, key_operand, chained, forks_code, joined_fork, deciders, forks_by, fork_by, forks, link_fork, link_forks, fork_of, choice_code, decide_code, expr_code, expr_codes, place_code, parts_code, link_code, link_codes}
use Rattle.rawk_compiler.specs.Code.{effect_code, front_of, simples_behind, Piece, nowhere, always, in_turn, when_code, Arm, then_to, branch_to, if_code, step_around, body_around, loop_code, keys_around, keys_code, scalar_destination, jump_code, test_code, returns_code, return_code, condition_code, condition_leap, stmt_code, stmt_codes, arms_of, closing_code, opened_code, guard_code, rule_code, records_code, main_code, begin_code, record_at_of, end_at_of, functions_at_of, function_code, functions_code, entries_of, program_code, HasAt, behind_point}
use Rattle.rawk_code.specs.Valid.{rank_of, rank, IsEntry, Descends, IsValid}
use Rattle.rawk_compiler.proofs.Follows.{has_front, has_back, has_all}
use Rattle.rawk_compiler.proofs.Statements.{branches_length}
use Rattle.rawk_compiler.proofs.Trees.{each_return}
use Rattle.rawk_compiler.proofs.Calls.{PlacedAt, all_placed}

module _ (code : List Instr) where
  -- where a jump from pc to p may go: to a point, or to a jump forward that goes on behind pc
  abbrev Lands : ℕ → ℕ → Option Instr → Type 0
  Lands pc p (Some (instr.Point site)) = Unit {0}
  Lands pc p (Some (instr.GoOn k)) = pc < p + 1 + k
  Lands pc p _ = ⊥

  abbrev BackAt : ℕ → Instr → Type 0
  BackAt pc (instr.GoTo p) = Lands pc p (slice_get code p)
  BackAt pc (instr.BackIfKey p) = Lands pc p (slice_get code p)
  BackAt pc _ = Unit {0}

  abbrev Backs : ℕ → List Instr → Type 0
  Backs pc [] = Unit {0}
  Backs pc (i ∷ is) = BackAt pc i × Backs (pc + 1) is

  -- where these instructions stand, each jump back among them is allowed
  record Fine (c : List Instr) : Type 0 where
    by : (pc : ℕ) → HasAt code pc c → Backs pc c

  backs_append : (pc : ℕ) (a b : List Instr) → Backs pc a → Backs (pc + length a) b → Backs pc (a ++ b)
  backs_append pc [] b f g = let e : pc + 0 ≡ pc = omega arith in subst (λ n. Backs n b) e g
  backs_append pc (i ∷ a) b f g =
      let e : pc + length (i ∷ a) ≡ pc + 1 + length a = omega arith in
      (f.0, backs_append (pc + 1) a b f.1 (subst (λ n. Backs n b) e g))

  fine_append : (a b : List Instr) → Fine a → Fine b → Fine (a ++ b)
  fine_append a b f g = record { by = λ pc has. backs_append pc a b (f.by pc (has_front code pc a b has)) (g.by (pc + length a) (has_back code pc a b has)) }

  fine_cons : (i : Instr) (c : List Instr) → ((pc : ℕ) → BackAt pc i) → Fine c → Fine (i ∷ c)
  fine_cons i c h f = record { by = λ pc has. (h pc, f.by (pc + 1) has.1) }

  fine_none : Fine []
  fine_none = record { by = λ pc has. tt }

  -- an instruction at the end
  fine_last : (c : List Instr) (i : Instr) → ((pc : ℕ) → BackAt pc i) → Fine c → Fine (c ++ i ∷ [])
  fine_last c i h f = fine_append c (i ∷ []) f (fine_cons i [] h fine_none)

  abbrev AllFine : List (List Instr) → Type 0
  AllFine [] = Unit {0}
  AllFine (c ∷ cs) = Fine c × AllFine cs

  joined_fine : (cs : List (List Instr)) → AllFine cs → Fine (joined cs)
  joined_fine [] all = fine_none
  joined_fine (c ∷ cs) all = fine_append c (joined cs) all.0 (joined_fine cs all.1)

  unless_fine : (o : Operand) (c : List Instr) → Fine c → Fine (unless_ready o c)
  unless_fine operand.Popped c f = f
  unless_fine (operand.Given from) c f = fine_none
  unless_fine (operand.Computed t) c f = fine_none

  one_fine : (o : Option Op) (c : List Instr) → Fine c → Fine (unless_one o c)
  one_fine None c f = f
  one_fine (Some o) c f = fine_last [] (instr.Do o) (λ pc. tt) fine_none

  chained_fine : (o : Option Op) (c : List Instr) (cs : List (List Instr)) → Fine c → AllFine cs → Fine (chained o c cs)
  chained_fine None c cs f all = fine_append c (joined cs) f (joined_fine cs all)
  chained_fine (Some o) c [] f all = fine_cons (instr.Do o) [] (λ pc. tt) fine_none
  chained_fine (Some o) c (d ∷ cs) f all = fine_cons (instr.Do o) (joined cs) (λ pc. tt) (joined_fine cs all.1)

  pushed_fine : (o : Option Simple) (c : List Instr) → Fine c → Fine (pushed o c)
  pushed_fine None c f = f
  pushed_fine (Some from) c f = fine_last [] (instr.Do (does.Push from)) (λ pc. tt) fine_none

  constant_fine : (o : Option ℕ) (c : List Instr) → Fine c → Fine (unless_constant o c)
  constant_fine None c f = f
  constant_fine (Some n) c f = fine_none

  -- a jump forward goes back nowhere
  abbrev IsForward : Instr → Type 0
  IsForward leap = (pc k : ℕ) → BackAt pc (over k leap)

  record FineFork (t : Fork) : Type 0 where
    front : Fine t.front
    leap : IsForward t.leap

  leap_fine : (wanted : Bool) (from : Operand) → IsForward (leap_on wanted from)
  leap_fine true from = λ pc k. tt
  leap_fine false from = λ pc k. tt

  abbrev AllForks : List Fork → Type 0
  AllForks [] = Unit {0}
  AllForks (t ∷ ts) = FineFork t × AllForks ts

  forks_fine : (ts : List Fork) (k : ℕ) → AllForks ts → Fine (forks_code ts k)
  forks_fine [] k all = fine_none
  forks_fine (t ∷ ts) k all =
      let rest = forks_code ts k in
      fine_append t.front (over (length rest + k) t.leap ∷ rest) all.0.front (fine_cons (over (length rest + k) t.leap) rest (λ pc. all.0.leap pc (length rest + k)) (forks_fine ts k all.1))

  joined_fine_fork : (led : Bool) (ts : List Fork) → AllForks ts → FineFork (joined_fork led ts)
  joined_fine_fork true ts all = record { front = fine_last (forks_code ts 1) (instr.GoOn 1) (λ pc. tt) (forks_fine ts 1 all); leap = λ pc k. tt }
  joined_fine_fork false ts all = record { front = forks_fine ts 1 all; leap = λ pc k. tt }

  -- forks for each truth, where there are some
  abbrev FineForks : (Bool → Fork) → Type 0
  FineForks t = (wanted : Bool) → FineFork (t wanted)

  abbrev IfFine : Option (Bool → Fork) → Type 0
  IfFine None = Unit {0}
  IfFine (Some t) = FineForks t

  abbrev AllFineForks : List (Bool → Fork) → Type 0
  AllFineForks [] = Unit {0}
  AllFineForks (t ∷ ts) = FineForks t × AllFineForks ts

  at_truth : (wanted : Bool) (ts : List (Bool → Fork)) → AllFineForks ts → AllForks (map (λ t. t wanted) ts)
  at_truth wanted [] all = tt
  at_truth wanted (t ∷ ts) all = (all.0 wanted, at_truth wanted ts all.1)

  deciders_fine : (neutral : Bool) (t : Fork) (ts : List Fork) → FineFork t → AllForks ts → AllForks (deciders neutral t ts)
  deciders_fine true t ts f all = all
  deciders_fine false t ts f all = (f, all)

  forks_by_fine : (o : Option Logic) (neutral : Bool → Bool) (t : Bool → Fork) (ts : List (Bool → Fork)) → FineForks t → AllFineForks ts → IfFine (forks_by o neutral t ts)
  forks_by_fine None neutral t ts f all = tt
  forks_by_fine (Some l) neutral t ts f all =
      λ wanted. joined_fine_fork (agrees wanted (deciding l)) _ (deciders_fine (neutral (deciding l)) (t (deciding l)) _ (f (deciding l)) (at_truth (deciding l) ts all))

  against_fine : (u : Unary) (t : Bool → Fork) → FineForks t → IfFine (against u t)
  against_fine (unary.Sign sign.Not) t f = λ wanted. f (not wanted)
  against_fine (unary.Sign sign.Plus) t f = tt
  against_fine (unary.Sign sign.Minus) t f = tt
  against_fine unary.Length t f = tt
  against_fine unary.ToLower t f = tt
  against_fine unary.ToUpper t f = tt
  against_fine unary.Int t f = tt

  fork_by_fine : (o : Option (Bool → Fork)) (from : Operand) (c : List Instr) → IfFine o → Fine c → FineForks (fork_by o from c)
  fork_by_fine None from c ready f = λ wanted. record { front = unless_fine from c f; leap = leap_fine wanted from }
  fork_by_fine (Some t) from c ready f = ready

  choice_fine : (t : Fork) (first second : List Instr) → FineFork t → Fine first → Fine second → Fine (choice_code t first second)
  choice_fine t first second ft fy fn =
      let other = fine_cons (instr.GoOn (length second)) second (λ pc. tt) fn in
      let both = fine_append first (instr.GoOn (length second) ∷ second) fy other in
      let leap = over (length first + 1) t.leap in
      fine_append t.front (leap ∷ (first ++ (instr.GoOn (length second) ∷ second))) ft.front (fine_cons leap (first ++ (instr.GoOn (length second) ∷ second)) (λ pc. ft.leap pc (length first + 1)) both)

  returns_fine : (t : Fork) (first second : List Instr) → FineFork t → Fine first → Fine second → Fine (returns_code t first second)
  returns_fine t first second ft fy fn =
      let leap = over (length first) t.leap in
      fine_append t.front (leap ∷ (first ++ second)) ft.front (fine_cons leap (first ++ second) (λ pc. ft.leap pc (length first)) (fine_append first second fy fn))

  decide_fine : (l : Logic) (test : List Instr) (from : Operand) → Fine test → Fine (decide_code l test from)
  decide_fine l test from ft = fine_cons (instr.Decide l (length test + 1)) (test ++ instr.Do (does.Truth from) ∷ []) (λ pc. tt) (fine_last test (instr.Do (does.Truth from)) (λ pc. tt) ft)

  dropped_fine : (x : Destination) → Fine (part_dropped x)
  dropped_fine (destination.Variable x) = fine_none
  dropped_fine destination.FieldCount = fine_none
  dropped_fine (destination.Field n) = fine_none
  dropped_fine destination.FieldBelow = fine_last [] (instr.Do does.Pop) (λ pc. tt) fine_none
  dropped_fine (destination.ElementBelow a) = fine_last [] (instr.Do does.Pop) (λ pc. tt) fine_none

  getline_to_fine : (x : Destination) → Fine (getline_to_code x)
  getline_to_fine x =
      fine_cons (instr.ReadText 3) _ (λ pc. tt) (fine_cons (instr.Do (does.Store x operand.Popped)) _ (λ pc. tt) (fine_cons (instr.Do (does.Push (simple.Number (pos 1)))) (missing_code x) (λ pc. tt)
      (fine_cons (instr.GoOn (length (part_dropped x) + 1)) _ (λ pc. tt) (fine_last (part_dropped x) (instr.Do (does.Push (simple.Number (pos 0)))) (λ pc. tt) (dropped_fine x)))))

  key_fine : (cs : List (List Instr)) → AllFine cs → Fine (key_code cs)
  key_fine [] all = fine_last [] (instr.Do (does.Key 0)) (λ pc. tt) fine_none
  key_fine (c ∷ []) all = all.0
  key_fine (c ∷ d ∷ cs) all = fine_last (joined (c ∷ d ∷ cs)) (instr.Do (does.Key _)) (λ pc. tt) (joined_fine (c ∷ d ∷ cs) all)

  mutual
    expr_fine : (e : Expr) → Fine (expr_code e)
    expr_fine (expr.Number n) = fine_last [] (instr.Do (does.Push _)) (λ pc. tt) fine_none
    expr_fine (expr.Text text) = fine_last [] (instr.Do (does.Push _)) (λ pc. tt) fine_none
    expr_fine (expr.Read p) = place_fine p
    expr_fine (expr.Unary' u p e) = one_fine (computing_op (term_of (expr.Unary' u p e))) (unless_ready (operand_of e) (expr_code e) ++ instr.Do (does.Unary u (operand_of e)) ∷ []) (fine_last (unless_ready (operand_of e) (expr_code e)) (instr.Do (does.Unary u (operand_of e))) (λ pc. tt) (unless_fine (operand_of e) (expr_code e) (expr_fine e)))
    expr_fine (expr.Chain' p first shape more) = one_fine (computing_op (term_of (expr.Chain' p first shape more))) (chained (pair_op (simple_of first) (items-the_row-Link _ more)) (expr_code first) (link_codes more)) (chained_fine (pair_op (simple_of first) (items-the_row-Link _ more)) (expr_code first) (link_codes more) (expr_fine first) (links_fine more))
    expr_fine (expr.Choice' p a q b r c) = choice_fine (fork_by (forks a) (operand_of a) (expr_code a) false) (expr_code b) (expr_code c) (fork_by_fine (forks a) (operand_of a) (expr_code a) (test_fine a) (expr_fine a) false) (expr_fine b) (expr_fine c)
    expr_fine (expr.After op q) = fine_last (parts_code q) (instr.Do (does.After op (destination_of q))) (λ pc. tt) (parts_fine q)
    expr_fine (expr.Assign' q p e) =
        let from = operand_of e in
        fine_append (parts_code q) _ (parts_fine q) (fine_last (unless_ready from (expr_code e)) (instr.Do (does.Assign (destination_of q) from)) (λ pc. tt) (unless_fine from (expr_code e) (expr_fine e)))
    expr_fine (expr.Update' op q p e) =
        let from = operand_of e in
        fine_append (parts_code q) _ (parts_fine q) (fine_last (unless_ready from (expr_code e)) (instr.Do (does.Update op (destination_of q) from)) (λ pc. tt) (unless_fine from (expr_code e) (expr_fine e)))
    expr_fine (expr.Call' f shape args arrays) = fine_last (joined (expr_codes args)) (instr.Call f (length (expr_codes args)) arrays.items) (λ pc. tt) (joined_fine (expr_codes args) (exprs_fine args))
    expr_fine (expr.Substr' p e q from r count) =
        one_fine (part_op (simple_of e) (term_of from) (term_of count)) (expr_code e ++ (expr_code from ++ (expr_code count ++ instr.Do does.Substr ∷ [])))
        (fine_append (expr_code e) (expr_code from ++ (expr_code count ++ instr.Do does.Substr ∷ [])) (expr_fine e) (fine_append (expr_code from) (expr_code count ++ instr.Do does.Substr ∷ []) (expr_fine from) (fine_last (expr_code count) (instr.Do does.Substr) (λ pc. tt) (expr_fine count))))
    expr_fine (expr.Match' p e q s) =
        let from = sought_operand s in
        one_fine (found_op (simple_of e) from) (expr_code e ++ (unless_ready from (expr_code s) ++ instr.Do (does.Match from) ∷ []))
        (fine_append (expr_code e) _ (expr_fine e) (fine_last (unless_ready from (expr_code s)) (instr.Do (does.Match from)) (λ pc. tt) (unless_fine from (expr_code s) (expr_fine s))))
    expr_fine (expr.Replace' extent p s q r place) =
        let from = constant_operand s in
        fine_append (unless_ready from (expr_code s)) _ (unless_fine from (expr_code s) (expr_fine s)) (fine_append (expr_code r) _ (expr_fine r) (fine_last (parts_code place) (instr.Do (does.Replace extent from (destination_of place))) (λ pc. tt) (parts_fine place)))
    expr_fine (expr.Split' how p e a q by) =
        let from = separator_operand how by in
        one_fine (cut_op how a (simple_of e) from) (expr_code e ++ (unless_ready from (expr_code by) ++ instr.Do (does.Split how a from) ∷ []))
        (fine_append (expr_code e) _ (expr_fine e) (fine_last (unless_ready from (expr_code by)) (instr.Do (does.Split how a from)) (λ pc. tt) (unless_fine from (expr_code by) (expr_fine by))))
    expr_fine (expr.Sprintf' p f shape args) =
        fine_append (expr_code f) (joined (expr_codes args) ++ instr.Do (does.Sprintf (length (expr_codes args))) ∷ []) (expr_fine f) (fine_last (joined (expr_codes args)) (instr.Do (does.Sprintf (length (expr_codes args)))) (λ pc. tt) (joined_fine (expr_codes args) (exprs_fine args)))
    expr_fine expr.Getline = fine_cons (instr.ReadRecord 2) _ (λ pc. tt) (fine_cons (instr.Do (does.Push (simple.Number (pos 1)))) _ (λ pc. tt) (fine_cons (instr.GoOn 1) _ (λ pc. tt) (fine_cons (instr.Do (does.Push (simple.Number (pos 0)))) [] (λ pc. tt) fine_none)))
    expr_fine (expr.GetlineTo q) = fine_append (parts_code q) (getline_to_code (destination_of q)) (parts_fine q) (getline_to_fine (destination_of q))
    expr_fine (expr.Count a) = fine_last [] (instr.Do (does.Count a)) (λ pc. tt) fine_none
    expr_fine (expr.Has' a shape subscripts) =
        let from = key_operand (items-the_row-Expr _ subscripts) in
        fine_last (unless_ready from (key_code (expr_codes subscripts))) (instr.Do (does.Has a from)) (λ pc. tt) (unless_fine from (key_code (expr_codes subscripts)) (key_fine (expr_codes subscripts) (exprs_fine subscripts)))

    exprs_fine : {m : _} → (row : Row_of-Expr m) → AllFine (expr_codes row)
    exprs_fine end_of-Expr = tt
    exprs_fine (more_of-Expr e rest) = (expr_fine e, exprs_fine rest)

    place_fine : (p : Place) → Fine (place_code p)
    place_fine (place.Global x) = fine_last [] (instr.Do (does.Push _)) (λ pc. tt) fine_none
    place_fine (place.Local i) = fine_last [] (instr.Do (does.Push _)) (λ pc. tt) fine_none
    place_fine place.FieldCount = fine_last [] (instr.Do (does.Push _)) (λ pc. tt) fine_none
    place_fine (place.Field' p e) = pushed_fine (simple_field (constant_field e)) (unless_ready (operand_of e) (expr_code e) ++ instr.Do (does.FieldAt (operand_of e)) ∷ []) (fine_last (unless_ready (operand_of e) (expr_code e)) (instr.Do (does.FieldAt (operand_of e))) (λ pc. tt) (unless_fine (operand_of e) (expr_code e) (expr_fine e)))
    place_fine (place.Element' a shape subscripts) =
        let from = key_operand (items-the_row-Expr _ subscripts) in
        fine_last (unless_ready from (key_code (expr_codes subscripts))) (instr.Do (does.ElementAt a from)) (λ pc. tt) (unless_fine from (key_code (expr_codes subscripts)) (key_fine (expr_codes subscripts) (exprs_fine subscripts)))

    parts_fine : (q : Place) → Fine (parts_code q)
    parts_fine (place.Global x) = fine_none
    parts_fine (place.Local i) = fine_none
    parts_fine place.FieldCount = fine_none
    parts_fine (place.Field' p e) = constant_fine (constant_field e) (expr_code e ++ instr.Do does.FieldNumber ∷ []) (fine_last (expr_code e) (instr.Do does.FieldNumber) (λ pc. tt) (expr_fine e))
    parts_fine (place.Element' a shape subscripts) = key_fine (expr_codes subscripts) (exprs_fine subscripts)

    link_fine : (l : Link) → Fine (link_code l)
    link_fine (link.Combine op e) = fine_last (unless_ready (right_operand op e) (expr_code e)) (instr.Do (does.Combine op (right_operand op e))) (λ pc. tt) (unless_fine (right_operand op e) (expr_code e) (expr_fine e))
    link_fine (link.Decide l e) = decide_fine l (unless_ready (operand_of e) (expr_code e)) (operand_of e) (unless_fine (operand_of e) (expr_code e) (expr_fine e))

    links_fine : {m : _} → (row : Row_of-Link m) → AllFine (link_codes row)
    links_fine end_of-Link = tt
    links_fine (more_of-Link l rest) = (link_fine l, links_fine rest)

    test_fine : (e : Expr) → IfFine (forks e)
    test_fine (expr.Unary' u p e) = against_fine u (fork_by (forks e) (operand_of e) (expr_code e)) (fork_by_fine (forks e) (operand_of e) (expr_code e) (test_fine e) (expr_fine e))
    test_fine (expr.Chain' p first shape more) =
        forks_by_fine (logic_of (items-the_row-Link _ more)) (λ decided. is_neutral decided first) (fork_by (forks first) (operand_of first) (expr_code first)) (link_forks more) (fork_by_fine (forks first) (operand_of first) (expr_code first) (test_fine first) (expr_fine first)) (link_tests_fine more)
    test_fine (expr.Number n) = tt
    test_fine (expr.Text text) = tt
    test_fine (expr.Read p) = tt
    test_fine (expr.Choice' p a q b r c) = tt
    test_fine (expr.After op q) = tt
    test_fine (expr.Assign' q p e) = tt
    test_fine (expr.Update' op q p e) = tt
    test_fine (expr.Call' f shape args arrays) = tt
    test_fine (expr.Substr' p e q from r count) = tt
    test_fine (expr.Match' p e q s) = tt
    test_fine (expr.Replace' extent p s q r place) = tt
    test_fine (expr.Split' how p e a q by) = tt
    test_fine (expr.Sprintf' p f shape args) = tt
    test_fine expr.Getline = tt
    test_fine (expr.GetlineTo q) = tt
    test_fine (expr.Has' a shape subscripts) = tt
    test_fine (expr.Count a) = tt

    link_test_fine : (l : Link) → FineForks (link_fork l)
    link_test_fine (link.Combine j e) = λ wanted. record { front = fine_none; leap = λ pc k. tt }
    link_test_fine (link.Decide l e) = fork_by_fine (forks e) (operand_of e) (expr_code e) (test_fine e) (expr_fine e)

    link_tests_fine : {m : _} → (row : Row_of-Link m) → AllFineForks (link_forks row)
    link_tests_fine end_of-Link = tt
    link_tests_fine (more_of-Link l rest) = (link_test_fine l, link_tests_fine rest)

  -- a condition
  fork_fine : (e : Expr) → FineForks (fork_of e)
  fork_fine e = fork_by_fine (forks e) (operand_of e) (expr_code e) (test_fine e) (expr_fine e)

  appends_fine : (x : Variable) (froms : List Simple) → Fine (map (appending x) froms)
  appends_fine x [] = fine_none
  appends_fine x (from ∷ froms) = fine_cons (instr.Do (does.Append x from)) (map (appending x) froms) (λ pc. tt) (appends_fine x froms)

  ops_fine : (os : List Op) → Fine (map (λ o. instr.Do o) os)
  ops_fine [] = fine_none
  ops_fine (o ∷ os) = fine_cons (instr.Do o) (map (λ o. instr.Do o) os) (λ pc. tt) (ops_fine os)

  made_fine : (x : Variable) (os : List Op) → Fine (appending_made x os)
  made_fine x [] = fine_none
  made_fine x (o ∷ os) = ops_fine (o ∷ (os ++ does.AppendPopped x ∷ []))

  either_fine : (c other : List Instr) → Fine c → Fine other → Fine (or_else c other)
  either_fine [] other f g = g
  either_fine (i ∷ c) other f g = f

  added_fine : (x : Destination) (e : Expr) → Fine (added_to x e)
  added_fine (destination.Variable x) e = either_fine (map (appending x) (added x e)) (appending_made x (added_ops x e)) (appends_fine x (added x e)) (made_fine x (added_ops x e))
  added_fine destination.FieldCount e = fine_none
  added_fine (destination.Field n) e = fine_none
  added_fine destination.FieldBelow e = fine_none
  added_fine (destination.ElementBelow a) e = fine_none

  effect_fine : (e : Expr) → Fine (effect_code e)
  effect_fine (expr.Number n) = fine_last _ (instr.Do does.Pop) (λ pc. tt) (expr_fine (expr.Number n))
  effect_fine (expr.Text text) = fine_last _ (instr.Do does.Pop) (λ pc. tt) (expr_fine (expr.Text text))
  effect_fine (expr.Read p) = fine_last _ (instr.Do does.Pop) (λ pc. tt) (expr_fine (expr.Read p))
  effect_fine (expr.Unary' u p e) = fine_last _ (instr.Do does.Pop) (λ pc. tt) (expr_fine (expr.Unary' u p e))
  effect_fine (expr.Chain' p first shape more) = fine_last _ (instr.Do does.Pop) (λ pc. tt) (expr_fine (expr.Chain' p first shape more))
  effect_fine (expr.Choice' p a q b r c) = fine_last _ (instr.Do does.Pop) (λ pc. tt) (expr_fine (expr.Choice' p a q b r c))
  effect_fine (expr.After op q) = fine_last (parts_code q) (instr.Do (does.StoreUpdate op (destination_of q) _)) (λ pc. tt) (parts_fine q)
  effect_fine (expr.Assign' q p e) =
      let from = operand_of e in
      fine_append (parts_code q) _ (parts_fine q) (either_fine (added_to (destination_of q) e) _ (added_fine (destination_of q) e) (fine_last (unless_ready from (expr_code e)) (instr.Do (does.Store (destination_of q) from)) (λ pc. tt) (unless_fine from (expr_code e) (expr_fine e))))
  effect_fine (expr.Update' op q p e) =
      let from = operand_of e in
      fine_append (parts_code q) _ (parts_fine q) (fine_last (unless_ready from (expr_code e)) (instr.Do (does.StoreUpdate op (destination_of q) from)) (λ pc. tt) (unless_fine from (expr_code e) (expr_fine e)))
  effect_fine (expr.Call' f shape args arrays) = fine_last _ (instr.Do does.Pop) (λ pc. tt) (expr_fine (expr.Call' f shape args arrays))
  effect_fine (expr.Substr' p e q from r count) = fine_last _ (instr.Do does.Pop) (λ pc. tt) (expr_fine (expr.Substr' p e q from r count))
  effect_fine (expr.Match' p e q s) = fine_last _ (instr.Do does.Pop) (λ pc. tt) (expr_fine (expr.Match' p e q s))
  effect_fine (expr.Replace' extent p s q r place) = fine_last _ (instr.Do does.Pop) (λ pc. tt) (expr_fine (expr.Replace' extent p s q r place))
  effect_fine (expr.Split' how p e a q by) = fine_last _ (instr.Do does.Pop) (λ pc. tt) (expr_fine (expr.Split' how p e a q by))
  effect_fine (expr.Sprintf' p f shape args) = fine_last _ (instr.Do does.Pop) (λ pc. tt) (expr_fine (expr.Sprintf' p f shape args))
  effect_fine expr.Getline = fine_last _ (instr.Do does.Pop) (λ pc. tt) (expr_fine expr.Getline)
  effect_fine (expr.GetlineTo q) = fine_last _ (instr.Do does.Pop) (λ pc. tt) (expr_fine (expr.GetlineTo q))
  effect_fine (expr.Has' a shape subscripts) = fine_last _ (instr.Do does.Pop) (λ pc. tt) (expr_fine (expr.Has' a shape subscripts))
  effect_fine (expr.Count a) = fine_last _ (instr.Do does.Pop) (λ pc. tt) (expr_fine (expr.Count a))

  list_fine : (es : List Expr) → AllFine (map expr_code es)
  list_fine [] = tt
  list_fine (e ∷ es) = (expr_fine e, list_fine es)

  -- each jump to here from below `to` is allowed
  abbrev SafeJump : Option ℕ → ℕ → Type 0
  SafeJump None to = Unit {0}
  SafeJump (Some p) to = (q : ℕ) → q < to → Lands q p (slice_get code p)

  record Safe (w : Around) (to : ℕ) : Type 0 where
    exit : SafeJump w.exit to
    again : SafeJump w.again to

  -- a piece, where what stands around it is safe up to its end
  record FinePiece (c : Piece) : Type 0 where
    by : (w : Around) (pc to : ℕ) → HasAt code pc (c w pc) → pc + length (c w pc) ≤ to → Safe w to → Backs pc (c w pc)

  abbrev AllPieces : List Piece → Type 0
  AllPieces [] = Unit {0}
  AllPieces (c ∷ cs) = FinePiece c × AllPieces cs

  always_fine : (c : List Instr) → Fine c → FinePiece (always c)
  always_fine c f = record { by = λ w pc to has le safe. f.by pc has }

  in_turn_fine : (cs : List Piece) → AllPieces cs → FinePiece (in_turn cs)
  in_turn_fine [] all = record { by = λ w pc to has le safe. tt }
  in_turn_fine (c ∷ cs) all =
      record {
        by = λ w pc to has le safe.
            let a = c w pc in
            let b = in_turn cs w (pc + length a) in
            let len = length-append a b in
            backs_append pc a b (all.0.by w pc to (has_front code pc a b has) (omega (arith, len)) safe)
            ((in_turn_fine cs all.1).by w (pc + length a) to (has_back code pc a b has) (omega (arith, len)) safe);
      }

  when_fine : (t : List Instr) (leap : Instr) (pa : Piece) → Fine t → IsForward leap → FinePiece pa → FinePiece (when_code t leap pa)
  when_fine t leap pa ft fl fa =
      record {
        by = λ w pc to has le safe.
            let p1 = pc + length t + 1 in
            let a = pa w p1 in
            let skip = over (length a) leap in
            let back = has_back code pc t (skip ∷ a) has in
            let len = length-append t (skip ∷ a) in
            backs_append pc t (skip ∷ a) (ft.by pc (has_front code pc t (skip ∷ a) has)) (fl (pc + length t) (length a), fa.by w p1 to back.1 (omega (arith, len)) safe);
      }

  -- a place that is safe up to one place is safe up to one before it
  safe_before : (t : Option ℕ) (a b : ℕ) → a ≤ b → SafeJump t b → SafeJump t a
  safe_before None a b le safe = tt
  safe_before (Some p) a b le safe = λ q lt. safe q (omega (arith, le, lt))

  then_fine : (to : ℕ) (pa : Piece) → FinePiece pa → FinePiece (then_to to pa)
  then_fine to pa fa =
      record {
        by = λ w pc end has le safe.
            let a = pa w pc in
            let i = instr.GoOn (to - (pc + length a + 1)) in
            backs_append pc a (i ∷ []) (fa.by w pc end (has_front code pc a (i ∷ []) has) (omega (arith, le, length-append a (i ∷ []))) safe) (tt, tt);
      }

  abbrev AllArms : List Arm → Type 0
  AllArms [] = Unit {0}
  AllArms (b ∷ bs) = Fine b.test × IsForward b.leap × FinePiece b.work × AllArms bs

  branches_fine : (to : ℕ) (bs : List Arm) → AllArms bs → AllPieces (map (branch_to to) bs)
  branches_fine to [] all = tt
  branches_fine to (b ∷ bs) all = (when_fine b.test b.leap (then_to to b.work) all.0 all.1 (then_fine to b.work all.2), branches_fine to bs all.3)

  if_fine : (bs : List Arm) (pb : Piece) → AllArms bs → FinePiece pb → FinePiece (if_code bs pb)
  if_fine bs pb all fb =
      record {
        by = λ w pc to has le safe.
            let from = pc + length (in_turn (map (branch_to 0) bs) w pc) in
            let b = pb w from in
            let end = from + length b in
            let c = in_turn (map (branch_to end) bs) w pc in
            let same : from ≡ pc + length c = ap (λ n. pc + n) (branches_length 0 end bs w pc) in
            let len = length-append c b in
            let has_b = subst (λ p. HasAt code p b) (sym same) (has_back code pc c b has) in
            backs_append pc c b ((in_turn_fine (map (branch_to end) bs) (branches_fine end bs all)).by w pc to (has_front code pc c b has) (omega (arith, le, len)) safe) (subst (λ p. Backs p b) same (fb.by w from to has_b (omega (arith, le, len, same)) safe));
      }

  loop_fine : (first : Bool) (site : ℕ) (t : Fork) (ps pb : Piece) → FineFork t → FinePiece ps → FinePiece pb → FinePiece (loop_code first (instr.Point (Some site) ∷ t.front) t.leap ps pb)
  loop_fine first site f ps pb ff fs fb =
      record {
        by = λ w pc to has le safe.
            let c = f.front in
            let t = instr.Point (Some site) ∷ c in
            let start = pc + 3 + length t + 1 in
            let wb = body_around pc w in
            let b = pb wb start in
            let ws = step_around pc w in
            let sp = start + length b in
            let s = ps ws sp in
            let back : List Instr = instr.GoTo (pc + 3) ∷ [] in
            let tail = over (length b + length s + 1) f.leap ∷ (b ++ (s ++ back)) in
            let e3 : pc + 1 + 1 + 1 ≡ pc + 3 = omega arith in
            let e2 : pc + 1 + 1 ≡ pc + 2 = omega arith in
            let has_test = subst (λ p. HasAt code p (t ++ tail)) e3 has.1.1.1 in
            let has_tail = has_back code (pc + 3) t tail has_test in
            let has_step = has_back code start b (s ++ back) has_tail.1 in
            let len : length (t ++ tail) ≡ length t + (1 + (length b + (length s + 1))) = omega (arith, length-append t tail, length-append b (s ++ back), length-append s back) in
            let point = has_test.0 in
            let exits : SafeJump (Some (pc + 1)) (sp + length s) = λ q lt. subst (Lands q (pc + 1)) (sym has.1.0) (omega (arith, len, lt)) in
            let agains : SafeJump (Some (pc + 2)) sp = λ q lt. subst (Lands q (pc + 2)) (sym (subst (λ p. slice_get code p ≡ Some (instr.GoOn (length t + 1 + length b))) e2 has.1.1.0)) (omega (arith, lt)) in
            let outer : SafeJump w.again (sp + length s) = safe_before w.again (sp + length s) to (omega (arith, le, len)) safe.again in
            let backs_step = backs_append sp s back (fs.by ws sp (sp + length s) (has_front code sp s back has_step) (omega arith) (record { exit = exits; again = outer })) (subst (Lands (sp + length s) (pc + 3)) (sym point) tt, tt) in
            let backs_body = backs_append start b (s ++ back) (fb.by wb start sp (has_front code start b (s ++ back) has_tail.1) (omega arith) (record { exit = safe_before (Some (pc + 1)) sp (sp + length s) (omega arith) exits; again = agains })) backs_step in
            let backs_test = backs_append (pc + 3) t tail (tt, ff.front.by (pc + 3 + 1) (has_front code (pc + 3 + 1) c tail has_test.1)) (ff.leap (pc + 3 + length t) (length b + length s + 1), backs_body) in
            (tt, (tt, (tt, subst (λ p. Backs p (t ++ tail)) (sym e3) backs_test)));
      }

  keys_fine : (site : ℕ) (a : Array) (x : Destination) (pb : Piece) → FinePiece pb → FinePiece (keys_code site a x pb)
  keys_fine site a x pb fb =
      record {
        by = λ w pc to has le safe.
            let start = pc + 5 in
            let wb = keys_around pc w in
            let b = pb wb start in
            let over = length b + 3 in
            let tail : List Instr = instr.BackIfKey (pc + 3) ∷ (instr.DropKeys ∷ []) in
            let e2 : pc + 1 + 1 ≡ pc + 2 = omega arith in
            let e3 : pc + 1 + 1 + 1 ≡ pc + 3 = omega arith in
            let e5 : pc + 1 + 1 + 1 + 1 + 1 ≡ start = omega arith in
            let has_body = subst (λ p. HasAt code p (b ++ tail)) e5 has.1.1.1.1.1 in
            let point = subst (λ p. slice_get code p ≡ Some (instr.Point (Some site))) e3 has.1.1.1.0 in
            let exits : SafeJump (Some (pc + 2)) (start + length b) = λ q lt. subst (Lands q (pc + 2)) (sym (subst (λ p. slice_get code p ≡ Some (instr.GoOn over)) e2 has.1.1.0)) (omega (arith, lt)) in
            let agains : SafeJump (Some (pc + 1)) (start + length b) = λ q lt. subst (Lands q (pc + 1)) (sym has.1.0) (omega (arith, lt)) in
            let backs = backs_append start b tail (fb.by wb start (start + length b) (has_front code start b tail has_body) (omega arith) (record { exit = exits; again = agains })) (subst (Lands (start + length b) (pc + 3)) (sym point) tt, (tt, tt)) in
            (tt, (tt, (tt, (tt, (tt, subst (λ p. Backs p (b ++ tail)) (sym e5) backs)))));
      }

  jump_fine : (site : ℕ) (target : Around → Option ℕ) → ((w : Around) (to : ℕ) → Safe w to → SafeJump (target w) to) → FinePiece (λ w at. instr.Point (Some site) ∷ jump_code (target w))
  jump_fine site target safe_at =
      record { by = λ w pc to has le safe. (tt, go (pc + 1) (target w) to (safe_at w to safe) (omega (arith, le))) }
    where
      go : (pc : ℕ) (t : Option ℕ) (to : ℕ) → SafeJump t to → pc + length (jump_code t) ≤ to → Backs pc (jump_code t)
      go pc None to safe le = (tt, tt)
      go pc (Some p) to safe le = (safe pc (omega (arith, le)), tt)

  -- a test's code behind its point
  tested_fine : (e : Expr) → Fine (unless_ready (operand_of e) (expr_code e))
  tested_fine e = unless_fine (operand_of e) (expr_code e) (expr_fine e)

  return_fine : (e : Expr) (held : ℕ) → Fine (return_code e held)
  return_fine = each_return (λ e c. (held : ℕ) → Fine (c held)) (λ e held. fine_last (unless_ready (operand_of e) (expr_code e)) (instr.Return held (operand_of e)) (λ pc. tt) (tested_fine e))
      (λ p q r a b c fb fc held. returns_fine (fork_of a false) (return_code b held) (return_code c held) (fork_fine a false) (fb held) (fc held))

  mutual
    stmt_fine : (s : Stmt) → FinePiece (stmt_code s)
    stmt_fine (stmt.Do site e) = always_fine _ (fine_cons (instr.Point (Some site)) _ (λ pc. tt) (effect_fine e))
    stmt_fine (stmt.Print site es) =
        always_fine _ (fine_cons (instr.Point (Some site)) _ (λ pc. tt) (fine_last (joined (map expr_code (front_of es.items))) (instr.Do (does.Print (length (front_of es.items)) (simples_behind es.items))) (λ pc. tt) (joined_fine _ (list_fine (front_of es.items)))))
    stmt_fine (stmt.Printf site f es) =
        let d = joined (map expr_code es.items) in
        let i = instr.Do (does.Printf (length es.items)) in
        always_fine _ (fine_cons (instr.Point (Some site)) _ (λ pc. tt) (fine_append (expr_code f) (d ++ i ∷ []) (expr_fine f) (fine_last d i (λ pc. tt) (joined_fine _ (list_fine es.items)))))
    stmt_fine (stmt.Block' shape all) = in_turn_fine (stmt_codes all) (stmts_fine all)
    stmt_fine (stmt.If' shape branches p other) = if_fine (arms_of branches) (stmt_code other) (arms_fine branches) (stmt_fine other)
    stmt_fine (stmt.While' site e p body) = loop_fine false site (fork_of e false) (λ w at. []) (stmt_code body) (fork_fine e false) (in_turn_fine [] tt) (stmt_fine body)
    stmt_fine (stmt.DoWhile' p body site e) = loop_fine true site (fork_of e false) (λ w at. []) (stmt_code body) (fork_fine e false) (in_turn_fine [] tt) (stmt_fine body)
    stmt_fine (stmt.For' p first site e q step r body) =
        in_turn_fine (stmt_code first ∷ loop_code false (condition_code site e) (condition_leap e) (stmt_code step) (stmt_code body) ∷ [])
        (stmt_fine first, (loop_fine false site (fork_of e false) (stmt_code step) (stmt_code body) (fork_fine e false) (stmt_fine step) (stmt_fine body), tt))
    stmt_fine (stmt.Break site) = jump_fine site (λ w. w.exit) (λ w to s. s.exit)
    stmt_fine (stmt.Continue site) = jump_fine site (λ w. w.again) (λ w to s. s.again)
    stmt_fine (stmt.Next site) = always_fine _ (fine_cons (instr.Point (Some site)) _ (λ pc. tt) (fine_cons instr.NextRecord [] (λ pc. tt) fine_none))
    stmt_fine (stmt.Exit site) = always_fine _ (fine_cons (instr.Point (Some site)) _ (λ pc. tt) (fine_cons instr.Quit [] (λ pc. tt) fine_none))
    stmt_fine (stmt.ExitWith site e) =
        always_fine _ (fine_append (test_code site e) _ (fine_cons (instr.Point (Some site)) _ (λ pc. tt) (tested_fine e)) (fine_cons (instr.Do (does.SetStatus (operand_of e))) _ (λ pc. tt) (fine_cons instr.Quit [] (λ pc. tt) fine_none)))
    stmt_fine (stmt.Return site) = record { by = λ w pc to has le safe. (tt, (tt, tt)) }
    stmt_fine (stmt.ReturnWith site e) = record { by = λ w pc to has le safe. (tt, (return_fine e w.held).by (pc + 1) has.1) }
    stmt_fine (stmt.Delete site a subscripts) =
        let from = key_operand subscripts.items in
        let c = key_code (map expr_code subscripts.items) in
        always_fine _ (fine_cons (instr.Point (Some site)) _ (λ pc. tt) (fine_last (unless_ready from c) (instr.Do (does.Delete a from)) (λ pc. tt) (unless_fine from c (key_fine (map expr_code subscripts.items) (list_fine subscripts.items)))))
    stmt_fine (stmt.Clear site a) = always_fine _ (fine_cons (instr.Point (Some site)) _ (λ pc. tt) (fine_cons (instr.Do (does.Clear a)) [] (λ pc. tt) fine_none))
    stmt_fine (stmt.ForIn' site x a p body) = keys_fine site a (scalar_destination x) (stmt_code body) (stmt_fine body)

    stmts_fine : {m : _} → (row : Row_of-Stmt m) → AllPieces (stmt_codes row)
    stmts_fine end_of-Stmt = tt
    stmts_fine (more_of-Stmt s rest) = (stmt_fine s, stmts_fine rest)

    arms_fine : {m : _} → (row : Row_of-Branch m) → AllArms (arms_of row)
    arms_fine end_of-Branch = tt
    arms_fine (more_of-Branch site e body rest) = (fine_cons (instr.Point (Some site)) _ (λ pc. tt) (fork_fine e false).front, (fork_fine e false).leap, stmt_fine body, arms_fine rest)

  all_fine : (ss : List Stmt) → AllPieces (map stmt_code ss)
  all_fine [] = tt
  all_fine (s ∷ ss) = (stmt_fine s, all_fine ss)

  guard_fine : (g : Guard) (site : ℕ) (piece : Piece) → FinePiece piece → FinePiece (guard_code g site piece)
  guard_fine (When e) site piece f = by_constant (is_neutral false e)
    where
      by_constant : (b : Bool) → FinePiece (if b then behind_point site piece else when_code (condition_code site e) (condition_leap e) piece)
      by_constant true = record { by = λ w pc to has le safe. (tt, f.by w (pc + 1) to has.1 (omega (arith, le)) safe) }
      by_constant false = when_fine (condition_code site e) (condition_leap e) piece (fine_cons (instr.Point (Some site)) _ (λ pc. tt) (fork_fine e false).front) (fork_fine e false).leap f
  guard_fine (Between range first last) site piece f =
      let closes = closing_code range last in
      let closes_fine = fine_append (fork_of last false).front _ (fork_fine last false).front (fine_cons (over 1 (condition_leap last)) _ (λ pc. (fork_fine last false).leap pc 1) (fine_cons (instr.Do (does.SetRange range false)) [] (λ pc. tt) fine_none)) in
      let opened : FinePiece (opened_code range last piece) = record {
        by = λ w pc to has le safe.
            let a = piece w (pc + 1 + length closes) in
            (tt, backs_append (pc + 1) closes a (closes_fine.by (pc + 1) (has_front code (pc + 1) closes a has.1)) (f.by w (pc + 1 + length closes) to (has_back code (pc + 1) closes a has.1) (omega (arith, le, length-append closes a)) safe));
      } in
      let whole = when_fine (fork_of first false).front (condition_leap first) (opened_code range last piece) (fork_fine first false).front (fork_fine first false).leap opened in
      record { by = λ w pc to has le safe. (tt, (tt, whole.by w (pc + 1 + 1) to has.1.1 (omega (arith, le)) safe)) }

  rules_fine : (rs : List Rule) → AllPieces (map rule_code rs)
  rules_fine [] = tt
  rules_fine (r ∷ rs) = (guard_fine r.guard r.site (stmt_code r.action) (stmt_fine r.action), rules_fine rs)

  functions_fine : (fs : List Function) → AllPieces (map function_code fs)
  functions_fine [] = tt
  functions_fine (f ∷ fs) = (function_fine f, functions_fine fs)
    where
      function_fine : (f : Function) → FinePiece (function_code f)
      function_fine f =
          record {
            by = λ w pc to has le safe.
                let b = stmt_code f.body w (pc + 1) in
                let last : List Instr = instr.Return 0 (operand.Given simple.Uninitialized) ∷ [] in
                (tt, backs_append (pc + 1) b last ((stmt_fine f.body).by w (pc + 1) to (has_front code (pc + 1) b last has.1) (omega (arith, le, length-append b last)) safe) (tt, tt));
          }

  -- a piece in no loop
  alone : (c : Piece) → FinePiece c → (pc : ℕ) → HasAt code pc (c nowhere pc) → Backs pc (c nowhere pc)
  alone c f pc has = f.by nowhere pc (pc + length (c nowhere pc)) has (omega arith) (record { exit = tt; again = tt })

  records_fine : (rs : List Rule) (pc : ℕ) → HasAt code pc (records_code rs pc) → Backs pc (records_code rs pc)
  records_fine rs pc has =
      let from = pc + 2 in
      let b = in_turn (map rule_code rs) nowhere from in
      let e2 : pc + 1 + 1 ≡ from = omega arith in
      let has_b = subst (λ p. HasAt code p (b ++ instr.GoTo pc ∷ [])) e2 has.1.1 in
      (tt, (tt, subst (λ p. Backs p (b ++ instr.GoTo pc ∷ [])) (sym e2) (backs_append from b _ (alone (in_turn (map rule_code rs)) (in_turn_fine (map rule_code rs) (rules_fine rs)) from (has_front code from b _ has_b)) (subst (Lands (from + length b) pc) (sym has.0) tt, tt))))

  main_fine : (reads : Bool) (rs : List Rule) (pc : ℕ) → HasAt code pc (main_code reads rs pc) → Backs pc (main_code reads rs pc)
  main_fine false rs pc has = tt
  main_fine true rs pc has = (tt, records_fine rs (pc + 1) has.1)

  program_fine : (p : Program) → HasAt code 0 (program_code p) → Backs 0 (program_code p)
  program_fine p has =
      let cb = begin_code p in
      let n = length cb in
      let cm = main_code (reads p) p.rules.items n in
      let e = end_at_of p in
      let ce = in_turn (map stmt_code p.end.items) nowhere e in
      let at = functions_at_of p in
      let cf = functions_code p.functions.items at in
      let last : List Instr = instr.BeginEnd ∷ (ce ++ (instr.Halt ∷ cf)) in
      let zero_on : 0 + n ≡ n = omega arith in
      let has_main = subst (λ q. HasAt code q (cm ++ last)) zero_on (has_back code 0 cb _ has) in
      let has_end = (has_back code n cm last has_main).1 in
      let has_halt = has_back code e ce (instr.Halt ∷ cf) has_end in
      let functions = alone (in_turn (map function_code p.functions.items)) (in_turn_fine (map function_code p.functions.items) (functions_fine p.functions.items)) at has_halt.1 in
      let ends = backs_append e ce (instr.Halt ∷ cf) (alone (in_turn (map stmt_code p.end.items)) (in_turn_fine (map stmt_code p.end.items) (all_fine p.end.items)) e (has_front code e ce _ has_end)) (tt, functions) in
      let mains = backs_append n cm last (main_fine (reads p) p.rules.items n (has_front code n cm last has_main)) (tt, ends) in
      backs_append 0 cb (cm ++ last) (alone (in_turn (map stmt_code p.begin.items)) (in_turn_fine (map stmt_code p.begin.items) (all_fine p.begin.items)) 0 (has_front code 0 cb _ has)) (subst (λ q. Backs q (cm ++ last)) (sym zero_on) mains)

  -- one instruction of several
  back_at : (is : List Instr) (p j : ℕ) (i : Instr) → Backs p is → slice_get is j ≡ Some i → BackAt (p + j) i
  back_at [] p j i f e = absurd (cc)
  back_at (x ∷ is) p zero i f e = let same : x ≡ i = cc in let here : p ≡ p + 0 = omega arith in subst (λ n. BackAt n i) here (subst (BackAt p) same f.0)
  back_at (x ∷ is) p (suc j) i f e = let next : p + 1 + j ≡ p + suc j = omega arith in subst (λ n. BackAt n i) next (back_at is (p + 1) j i f.1 e)

  within : (pc : ℕ) (i : Instr) → slice_get code pc ≡ Some i → pc < length code
  within pc i h = go (cases_lt pc (length code))
    where
      go : (pc < length code) ⊎ (length code ≤ pc) → pc < length code
      go (inl lt) = lt
      go (inr le) = let none = slice_get_past code pc le in absurd (cc)

  -- no place has a rank above twice the instructions left
  low : (n q : ℕ) (o : Option Instr) → q < n → rank_of n q o ≤ 2 * (n - q)
  low n q None lt = omega arith
  low n q (Some (instr.GoOn k)) lt = omega arith
  low n q (Some (instr.Point x)) lt = omega arith
  low n q (Some instr.Halt) lt = omega arith
  low n q (Some _) lt = omega arith

  at_most : (q : ℕ) → rank code q ≤ 2 * (length code - q)
  at_most q = go (cases_lt q (length code))
    where
      go : (q < length code) ⊎ (length code ≤ q) → rank code q ≤ 2 * (length code - q)
      go (inl lt) = low (length code) q (slice_get code q) lt
      go (inr le) = let none = ap (rank_of (length code) q) (slice_get_past code q le) in omega (arith, none)

  -- from an instruction that reaches no point, onward or to where a jump may go
  module _ (pc : ℕ) (i : Instr) (h : slice_get code pc ≡ Some i) (plain : rank_of (length code) pc (Some i) ≡ 2 * (length code - pc)) where
    high : rank code pc ≡ 2 * (length code - pc)
    high = ap (rank_of (length code) pc) h ∙ plain

    onward : (q : ℕ) → pc < q → rank code q < rank code pc
    onward q lt =
        let top = within pc i h in
        let below = at_most q in
        omega (arith, high)

    lands : (p : ℕ) (o : Option Instr) → slice_get code p ≡ o → Lands pc p o → rank code p < rank code pc
    lands p (Some (instr.Point site)) at ok =
        let top = within pc i h in
        let zero_rank : rank code p ≡ 0 = ap (rank_of (length code) p) at in
        omega (arith, high)
    lands p (Some (instr.GoOn k)) at ok =
        let top = within pc i h in
        let value : rank code p ≡ 2 * (length code - (p + 1 + k)) + 1 = ap (rank_of (length code) p) at in
        omega (arith, high, value, ok)
    lands p _ at ok = absurd ok

  jumps_on : (pc k : ℕ) → slice_get code pc ≡ Some (instr.GoOn k) → rank code (pc + 1 + k) < rank code pc
  jumps_on pc k h =
      let value : rank code pc ≡ 2 * (length code - (pc + 1 + k)) + 1 = ap (rank_of (length code) pc) h in
      let below = at_most (pc + 1 + k) in
      omega (arith, value)

  -- where each reading of a record begins there is a point; where none is read, the end of END
  abbrev Begins : ℕ → Type 0
  Begins again = (slice_get code again ≡ Some (instr.Point None)) ⊎ (slice_get code again ≡ Some instr.Halt)

  next_down : (again pc : ℕ) → Begins again → slice_get code pc ≡ Some instr.NextRecord → rank code again < rank code pc
  next_down again pc (inl point) h = lands pc instr.NextRecord h refl again (Some (instr.Point None)) point tt
  next_down again pc (inr last) h =
      let top = within pc instr.NextRecord h in
      let value : rank code pc ≡ 2 * (length code - pc) = ap (rank_of (length code) pc) h in
      let zero_rank : rank code again ≡ 0 = ap (rank_of (length code) again) last in
      omega (arith, value, zero_rank)

  descends : (again : ℕ) (entries : List Entry) → ((f : ℕ) → IsEntry code (slice_get entries f)) → Begins again → (pc : ℕ) (o : Option Instr) → slice_get code pc ≡ o → ((i : Instr) → o ≡ Some i → BackAt pc i) → Descends code again entries pc o
  descends again entries ready begins pc None h back = tt
  descends again entries ready begins pc (Some (instr.Point site)) h back = tt
  descends again entries ready begins pc (Some instr.Halt) h back = tt
  descends again entries ready begins pc (Some instr.Quit) h back = tt
  descends again entries ready begins pc (Some (instr.Call f m arrays)) h back = ready f
  descends again entries ready begins pc (Some (instr.Return held from)) h back = tt
  descends again entries ready begins pc (Some (instr.TakeKeys a)) h back = onward pc (instr.TakeKeys a) h refl (pc + 1) (omega arith)
  descends again entries ready begins pc (Some (instr.AssignKey x)) h back = onward pc (instr.AssignKey x) h refl (pc + 1) (omega arith)
  descends again entries ready begins pc (Some (instr.BackIfKey p)) h back =
      (lands pc (instr.BackIfKey p) h refl p (slice_get code p) refl (back (instr.BackIfKey p) refl), onward pc (instr.BackIfKey p) h refl (pc + 1) (omega arith))
  descends again entries ready begins pc (Some instr.DropKeys) h back = onward pc instr.DropKeys h refl (pc + 1) (omega arith)
  descends again entries ready begins pc (Some (instr.SkipIfOn range k)) h back = (onward pc (instr.SkipIfOn range k) h refl (pc + 1) (omega arith), onward pc (instr.SkipIfOn range k) h refl (pc + 1 + k) (omega arith))
  descends again entries ready begins pc (Some (instr.Do o)) h back = onward pc (instr.Do o) h refl (pc + 1) (omega arith)
  descends again entries ready begins pc (Some instr.NextRecord) h back = next_down again pc begins h
  descends again entries ready begins pc (Some (instr.SkipIfFalse k from)) h back = (onward pc (instr.SkipIfFalse k from) h refl (pc + 1) (omega arith), onward pc (instr.SkipIfFalse k from) h refl (pc + 1 + k) (omega arith))
  descends again entries ready begins pc (Some (instr.SkipIfTrue k from)) h back = (onward pc (instr.SkipIfTrue k from) h refl (pc + 1) (omega arith), onward pc (instr.SkipIfTrue k from) h refl (pc + 1 + k) (omega arith))
  descends again entries ready begins pc (Some (instr.ReadRecord k)) h back = (onward pc (instr.ReadRecord k) h refl (pc + 1) (omega arith), onward pc (instr.ReadRecord k) h refl (pc + 1 + k) (omega arith))
  descends again entries ready begins pc (Some (instr.ReadText k)) h back = (onward pc (instr.ReadText k) h refl (pc + 1) (omega arith), onward pc (instr.ReadText k) h refl (pc + 1 + k) (omega arith))
  descends again entries ready begins pc (Some (instr.GoOn k)) h back = jumps_on pc k h
  descends again entries ready begins pc (Some (instr.GoTo p)) h back = lands pc (instr.GoTo p) h refl p (slice_get code p) refl (back (instr.GoTo p) refl)
  descends again entries ready begins pc (Some (instr.Decide l k)) h back = (onward pc (instr.Decide l k) h refl (pc + 1) (omega arith), onward pc (instr.Decide l k) h refl (pc + 1 + k) (omega arith))
  descends again entries ready begins pc (Some instr.BeginMain) h back = onward pc instr.BeginMain h refl (pc + 1) (omega arith)
  descends again entries ready begins pc (Some instr.BeginEnd) h back = onward pc instr.BeginEnd h refl (pc + 1) (omega arith)

not_both : (b : Bool) → b ≡ true → b ≡ false → ⊥
not_both true is h = absurd (cc)
not_both false is h = absurd (cc)

-- a program that reads no record has no END action
no_end : (rules : List Rule) (end : List Stmt) → nat_lt 0 (length rules) || nat_lt 0 (length end) ≡ false → end ≡ []
no_end [] [] h = refl
no_end [] (s ∷ ss) h = absurd (not_both (nat_lt 0 (length (s ∷ ss))) (lt-ltb 0 (length (s ∷ ss)) (omega arith)) h)
no_end (r ∷ rs) end h = absurd (not_both (nat_lt 0 (length (r ∷ rs)) || nat_lt 0 (length end)) (ap (λ b. b || nat_lt 0 (length end)) (lt-ltb 0 (length (r ∷ rs)) (omega arith))) h)

begins_of : (p : Program) → Begins (program_code p) (record_at_of p)
begins_of p = go (reads p) refl
  where
    code : List Instr
    code = program_code p

    n : ℕ
    n = length (begin_code p)

    with_end : Bool → ℕ → List Stmt → List Instr
    with_end b e end = main_code b p.rules.items n ++ (instr.BeginEnd ∷ (in_turn (map stmt_code end) nowhere e ++ (instr.Halt ∷ functions_code p.functions.items (functions_at_of p))))

    has : HasAt code n (with_end (reads p) (end_at_of p) p.end.items)
    has = let zero_on : 0 + n ≡ n = omega arith in subst (λ q. HasAt code q (with_end (reads p) (end_at_of p) p.end.items)) zero_on (has_back code 0 (begin_code p) _ (has_all code []))

    go : (b : Bool) → reads p ≡ b → Begins code (record_at_of p)
    go true e = inl (subst (λ b. HasAt code n (with_end b (end_at_of p) p.end.items)) e has).1.0
    go false e =
        let none : p.end.items ≡ [] = no_end p.rules.items p.end.items e in
        let short = subst (λ end. HasAt code n (with_end false (end_at_of p) end)) none (subst (λ b. HasAt code n (with_end b (end_at_of p) p.end.items)) e has) in
        inr short.1.0

-- at each function's entry stands a point
entry_at : (code : List Instr) (g : Option Function) (e : Option Entry) → PlacedAt code g e → IsEntry code e
entry_at code g None placed = tt
entry_at code None (Some e) placed = absurd placed
entry_at code (Some g) (Some e) placed = (Some g.site, placed.1.0)

entries_stand : (p : Program) (f : ℕ) → IsEntry (program_code p) (slice_get (entries_of p) f)
entries_stand p f =
    let code = program_code p in
    let cb = begin_code p in
    let n = length cb in
    let cm = main_code (reads p) p.rules.items n in
    let e = end_at_of p in
    let ce = in_turn (map stmt_code p.end.items) nowhere e in
    let cf = functions_code p.functions.items (functions_at_of p) in
    let zero_on : 0 + n ≡ n = omega arith in
    let has_main = subst (λ q. HasAt code q (cm ++ (instr.BeginEnd ∷ (ce ++ (instr.Halt ∷ cf))))) zero_on (has_back code 0 cb _ (has_all code [])) in
    let has_halt = has_back code e ce (instr.Halt ∷ cf) (has_back code n cm _ has_main).1 in
    entry_at code (slice_get p.functions.items f) (slice_get (entries_of p) f) (all_placed code (functions_at_of p) p.functions.items has_halt.1 f)

pub valid : (p : Program) → IsValid (program_code p) (record_at_of p) (entries_of p)
valid p pc =
    let code = program_code p in
    let backs = program_fine code p (has_all code []) in
    let same : 0 + pc ≡ pc = omega arith in
    descends code (record_at_of p) (entries_of p) (entries_stand p) (begins_of p) pc (slice_get code pc) refl (λ i h. subst (λ n. BackAt code n i) same (back_at code code 0 pc i backs h))
