-- Nothing is written before point 0: a code reaches a point before it can write.
use Rattle.std.proofs.Common.{◌≡◌, ℕ, zero, suc, ◌+◌, Bool, true, false, List, [], ◌∷◌, ◌++◌, length, map, drop, Option, Some, None, if◌then◌else◌, refl, sym, ap, ◌∙◌, subst, arith, length-append}
use Rattle.std.specs.Prelude.{slice_get, nat_eq}
use Rattle.rawk_tree.specs.declared.tree.Stmt.{Stmt, Row_of-Stmt, end_of-Stmt, more_of-Stmt, Row_of-Branch, end_of-Branch, more_of-Branch}
use Rattle.rawk_tree.specs.declared.tree.Stmt.TheVariants as stmt
use Rattle.rawk_tree.specs.declared.tree.Rule.{Rule}
use Rattle.rawk_tree.specs.declared.tree.Program.{Program}
use Rattle.rawk_value.specs.declared.value.Value.{Value}
use Rattle.rawk_value.specs.Values.{Bytes}
use Rattle.rawk_compiler.specs.declared.loops.Around.{Around}
use Rattle.rawk_words.specs.declared.array.Array.{Array}
use Rattle.rawk_store.specs.State.{array_keys}
use Rattle.rawk_code.specs.declared.code.Destination.{Destination}
use Rattle.rawk_code.specs.declared.code.Simple.TheVariants as simple
use Rattle.rawk_code.specs.declared.code.Operand.TheVariants as operand
use Rattle.rawk_code.specs.declared.code.Instr.{Instr}
use Rattle.rawk_code.specs.declared.code.Instr.TheVariants as instr
use Rattle.rawk_code.specs.Actions.{Point, Run, Ended, Limited, Stops, Goes, Breaks, sets_at, Given}
use Rattle.rawk_code.specs.Trace.{reads, start}
use Rattle.rawk_code.specs.Machine.{Phase, InBegin, InEnd, to_main, has_next, Places, Config, Going, goes_on, act, steps}
use Rattle.rawk_selection.specs.Jumps.{over}
use Rattle.rawk_emission.specs.Expressions.{fork_of}
use Rattle.rawk_compiler.specs.Code.{return_code, condition_code, condition_leap, Piece, nowhere, always, in_turn, Arm, then_to, branch_to, if_code, step_around, body_around, loop_code, keys_around, keys_code, scalar_destination, jump_code, stmt_code, stmt_codes, arms_of, main_code, begin_code, end_at_of, functions_at_of, functions_code, program_code, HasAt}
use Rattle.rawk_code.specs.Laws.{IsBeginning, FirstIsSilent, FirstOutputLaw}
use Rattle.rawk_code.specs.Steps.{run_of, with_point, all_set_same, steps_grow, over_stays}
use Rattle.rawk_compiler.proofs.Follows.{has_front, has_back, has_all}
use Rattle.rawk_compiler.proofs.TraceLaws.{place_of, trace_runs}

abbrev Silent : Config → Type 0
Silent c = FirstIsSilent (run_of c).points (run_of c).state.output

-- a first point stays the first
stays_first : (a : Point) (ps : List Point) → a.state.output ≡ [] → IsBeginning (a ∷ []) ps → (last : Bytes) → FirstIsSilent ps last
stays_first a ps silent begins last =
    (λ b h. let same : a ≡ b = cc in ap (λ x. x.state.output) (sym same) ∙ silent, λ none. absurd (cc))

module _ (given : Given) (code : List Instr) (fin : Places) where
  -- from a point that is reached first
  from_point : (m pc : ℕ) (ops : List Value) (keys : List (List Bytes)) (rets : List ℕ) (phase : Phase) (run : Run) (site : Option ℕ) → slice_get code pc ≡ Some (instr.Point site) → run.points ≡ [] → run.state.output ≡ [] → Silent (steps given code fin m (Going pc ops keys rets phase run))
  from_point zero pc ops keys rets phase run site h none silent = (λ a e. absurd (cc), λ e. silent)
  from_point (suc m) pc ops keys rets phase run site h none silent = subst (λ i. Silent (steps given code fin m (act given fin i pc ops keys rets phase run))) (sym h) (go (nat_eq (length run.points) given.steps))
    where
      w : Run
      w = with_point given.sets site run

      first : Point
      first = record { site = site; state = w.state }

      go : (b : Bool) → Silent (steps given code fin m (goes_on {A = Unit {0}} (if b then Breaks (Stops (Limited site)) run else Goes tt w) (λ _. Going (pc + 1) ops keys rets phase)))
      go true = subst Silent (sym (over_stays given code fin m (Limited site) run)) (λ a e. absurd (cc), λ e. silent)
      go false =
          let grown = (steps_grow given code fin m (Going (pc + 1) ops keys rets phase w)).points in
          let alone : w.points ≡ first ∷ [] = ap (λ l. l ++ first ∷ []) none in
          let empty : first.state.output ≡ [] = all_set_same (sets_at given.sets (length run.points)) run.state ∙ silent in
          stays_first first _ empty (grown.0, grown.1 ∙ ap (λ l. l ++ grown.0) alone) _

-- from these places a point is reached, or the end, and nothing is written before
data Calm (code : List Instr) : ℕ → Type 0 where
  at_point : (q : ℕ) (site : Option ℕ) → slice_get code q ≡ Some (instr.Point site) → Calm code q
  at_jump : (q k : ℕ) → slice_get code q ≡ Some (instr.GoOn k) → Calm code (q + 1 + k) → Calm code q
  at_return : (q p : ℕ) → slice_get code q ≡ Some (instr.GoTo p) → Calm code p → Calm code q
  at_main : (q : ℕ) → slice_get code q ≡ Some instr.BeginMain → Calm code (q + 1) → Calm code q
  at_end : (q : ℕ) → slice_get code q ≡ Some instr.BeginEnd → Calm code (q + 1) → Calm code q
  at_halt : (q : ℕ) → slice_get code q ≡ Some instr.Halt → Calm code q
  at_keys : (q : ℕ) (a : Array) → slice_get code q ≡ Some (instr.TakeKeys a) → Calm code (q + 1) → Calm code q
  at_back : (q p : ℕ) → slice_get code q ≡ Some (instr.BackIfKey p) → Calm code p → Calm code (q + 1) → Calm code q
  at_drop : (q : ℕ) → slice_get code q ≡ Some instr.DropKeys → Calm code (q + 1) → Calm code q

module _ (code : List Instr) where
  -- code that leads from its first place on to behind its last
  record Opens (c : Piece) : Type 0 where
    by : (w : Around) (pc : ℕ) → HasAt code pc (c w pc) → Calm code (pc + length (c w pc)) → Calm code pc

  abbrev AllOpen : List Piece → Type 0
  AllOpen [] = Unit {0}
  AllOpen (c ∷ cs) = Opens c × AllOpen cs

  in_turn_opens : (cs : List Piece) → AllOpen cs → Opens (in_turn cs)
  in_turn_opens [] all = record { by = λ w pc has calm. let e : pc + 0 ≡ pc = omega arith in subst (Calm code) e calm }
  in_turn_opens (c ∷ cs) all =
      record {
        by = λ w pc has calm.
            let a = c w pc in
            let b = in_turn cs w (pc + length a) in
            let e : pc + length (a ++ b) ≡ pc + length a + length b = omega (arith, length-append a b) in
            all.0.by w pc (has_front code pc a b has) ((in_turn_opens cs all.1).by w (pc + length a) (has_back code pc a b has) (subst (Calm code) e calm));
      }

  -- a point at the beginning
  point_opens : (site : ℕ) (c : Piece) → Opens (λ w at. instr.Point (Some site) ∷ c w at)
  point_opens site c = record { by = λ w pc has calm. at_point pc (Some site) has.0 }

  -- each test begins with a point
  abbrev AllTested : List Arm → Type 0
  AllTested [] = Unit {0}
  AllTested (b ∷ bs) = (site : ℕ) × (c : List Instr) × (b.test ≡ instr.Point (Some site) ∷ c) × AllTested bs

  if_opens : (bs : List Arm) (pb : Piece) → AllTested bs → Opens pb → Opens (if_code bs pb)
  if_opens [] pb all ob =
      record {
        by = λ w pc has calm.
            let e : pc + 0 ≡ pc = omega arith in
            subst (Calm code) e (ob.by w (pc + 0) (subst (λ q. HasAt code q (pb w (pc + 0))) (sym e) has) (subst (λ q. Calm code (q + length (pb w (pc + 0)))) (sym e) calm));
      }
  if_opens (b ∷ bs) pb all ob =
      record {
        by = λ w pc has calm.
            let from = pc + length (in_turn (map (branch_to 0) (b ∷ bs)) w pc) in
            let c = pb w from in
            let end = from + length c in
            let piece = branch_to end b w pc in
            let rest = in_turn (map (branch_to end) bs) w (pc + length piece) in
            let work = then_to end b.work w (pc + length b.test + 1) in
            let has_piece = has_front code pc piece rest (has_front code pc (piece ++ rest) c has) in
            let has_test = has_front code pc b.test (over (length work) b.leap ∷ work) has_piece in
            at_point pc (Some all.0) (subst (HasAt code pc) all.2 has_test).0;
      }

  loop_opens : (first : Bool) (site : ℕ) (c : List Instr) (leap : Instr) (ps pb : Piece) → Opens ps → Opens pb → Opens (loop_code first (instr.Point (Some site) ∷ c) leap ps pb)
  loop_opens first site c leap ps pb os ob =
      record {
        by = λ w pc has calm.
            let t = instr.Point (Some site) ∷ c in
            let start = pc + 3 + length t + 1 in
            let b = pb (body_around pc w) start in
            let sp = start + length b in
            let s = ps (step_around pc w) sp in
            let back : List Instr = instr.GoTo (pc + 3) ∷ [] in
            let tail = over (length b + length s + 1) leap ∷ (b ++ (s ++ back)) in
            let e3 : pc + 1 + 1 + 1 ≡ pc + 3 = omega arith in
            let has_test = subst (λ p. HasAt code p (t ++ tail)) e3 has.1.1.1 in
            let has_tail = has_back code (pc + 3) t tail has_test in
            let has_step = has_back code start b (s ++ back) has_tail.1 in
            let test : Calm code (pc + 3) = at_point (pc + 3) (Some site) has_test.0 in
            let step = os.by (step_around pc w) sp (has_front code sp s back has_step) (at_return (sp + length s) (pc + 3) (has_back code sp s back has_step).0 test) in
            let body = ob.by (body_around pc w) start (has_front code start b (s ++ back) has_tail.1) step in
            let far : ℕ = 2 + (if first then length t + 1 else 0) in
            let leads : Calm code (pc + 1 + far) = (elim first as (λ f. Calm code (pc + 1 + (2 + (if f then length t + 1 else 0)))) [
              | true ↦ let e : start ≡ pc + 1 + (2 + (length t + 1)) = omega arith in subst (Calm code) e body
              | false ↦ let e : pc + 3 ≡ pc + 1 + (2 + 0) = omega arith in subst (Calm code) e test
            ]) in
            at_jump pc far has.0 leads;
      }

  keys_opens : (site : ℕ) (a : Array) (x : Destination) (pb : Piece) → Opens (keys_code site a x pb)
  keys_opens site a x pb =
      record {
        by = λ w pc has calm.
            let b = pb (keys_around pc w) (pc + 5) in
            let over = length b + 3 in
            let tail : List Instr = instr.BackIfKey (pc + 3) ∷ (instr.DropKeys ∷ []) in
            let q = pc + 5 + length b in
            let e3 : pc + 1 + 1 + 1 ≡ pc + 3 = omega arith in
            let e5 : pc + 1 + 1 + 1 + 1 + 1 ≡ pc + 5 = omega arith in
            let ends : pc + length (keys_code site a x pb w pc) ≡ q + 1 + 1 = omega (arith, length-append b tail) in
            let there : q ≡ pc + 1 + 1 + over = omega arith in
            let has_tail = has_back code (pc + 5) b tail (subst (λ p. HasAt code p (b ++ tail)) e5 has.1.1.1.1.1) in
            let point : Calm code (pc + 3) = at_point (pc + 3) (Some site) (subst (λ p. slice_get code p ≡ Some (instr.Point (Some site))) e3 has.1.1.1.0) in
            let test : Calm code q = at_back q (pc + 3) has_tail.0 point (at_drop (q + 1) has_tail.1.0 (subst (Calm code) ends calm)) in
            at_keys pc a has.0 (at_jump (pc + 1) over has.1.0 (subst (Calm code) there test));
      }

  none_opens : Opens (λ w at. [])
  none_opens = in_turn_opens [] tt

  mutual
    stmt_opens : (s : Stmt) → Opens (stmt_code s)
    stmt_opens (stmt.Do site e) = point_opens site (always _)
    stmt_opens (stmt.Print site es) = point_opens site (always _)
    stmt_opens (stmt.Printf site f es) = point_opens site (always _)
    stmt_opens (stmt.Block' shape all) = in_turn_opens (stmt_codes all) (stmts_open all)
    stmt_opens (stmt.If' shape branches p other) = if_opens (arms_of branches) (stmt_code other) (arms_tested branches) (stmt_opens other)
    stmt_opens (stmt.While' site e p body) = loop_opens false site _ _ (λ w at. []) (stmt_code body) none_opens (stmt_opens body)
    stmt_opens (stmt.DoWhile' p body site e) = loop_opens true site _ _ (λ w at. []) (stmt_code body) none_opens (stmt_opens body)
    stmt_opens (stmt.For' p first site e q step r body) =
        in_turn_opens (stmt_code first ∷ loop_code false (condition_code site e) (condition_leap e) (stmt_code step) (stmt_code body) ∷ []) (stmt_opens first, (loop_opens false site _ _ (stmt_code step) (stmt_code body) (stmt_opens step) (stmt_opens body), tt))
    stmt_opens (stmt.Break site) = point_opens site (λ w at. jump_code w.exit)
    stmt_opens (stmt.Continue site) = point_opens site (λ w at. jump_code w.again)
    stmt_opens (stmt.Next site) = point_opens site (always _)
    stmt_opens (stmt.Exit site) = point_opens site (always _)
    stmt_opens (stmt.ExitWith site e) = point_opens site (always _)
    stmt_opens (stmt.Return site) = point_opens site (λ w at. instr.Return w.held (operand.Given simple.Uninitialized) ∷ [])
    stmt_opens (stmt.ReturnWith site e) = point_opens site (λ w at. return_code e w.held)
    stmt_opens (stmt.Delete site a subscripts) = point_opens site (always _)
    stmt_opens (stmt.Clear site a) = point_opens site (always _)
    stmt_opens (stmt.ForIn' site x a p body) = keys_opens site a (scalar_destination x) (stmt_code body)

    stmts_open : {m : _} → (row : Row_of-Stmt m) → AllOpen (stmt_codes row)
    stmts_open end_of-Stmt = tt
    stmts_open (more_of-Stmt s rest) = (stmt_opens s, stmts_open rest)

    arms_tested : {m : _} → (row : Row_of-Branch m) → AllTested (arms_of row)
    arms_tested end_of-Branch = tt
    arms_tested (more_of-Branch site e body rest) = (site, (fork_of e false).front, refl, arms_tested rest)

  all_open : (ss : List Stmt) → AllOpen (map stmt_code ss)
  all_open [] = tt
  all_open (s ∷ ss) = (stmt_opens s, all_open ss)

-- a program's first place
first_calm : (p : Program) → Calm (program_code p) 0
first_calm p =
    let code = program_code p in
    let cb = begin_code p in
    let n = length cb in
    let cm = main_code (reads p) p.rules.items n in
    let e = end_at_of p in
    let ce = in_turn (map stmt_code p.end.items) nowhere e in
    let last : List Instr = instr.BeginEnd ∷ (ce ++ (instr.Halt ∷ functions_code p.functions.items (functions_at_of p))) in
    let zero_on : 0 + n ≡ n = omega arith in
    let has = has_all code [] in
    let has_main = subst (λ q. HasAt code q (cm ++ last)) zero_on (has_back code 0 cb _ has) in
    let has_last = has_back code n cm last has_main in
    let ends = (in_turn_opens code (map stmt_code p.end.items) (all_open code p.end.items)).by nowhere e (has_front code e ce _ has_last.1) (at_halt (e + length ce) (has_back code e ce _ has_last.1).0) in
    let closes : Calm code (n + length cm) = at_end (n + length cm) has_last.0 ends in
    let mains : Calm code n = by_reads (reads p) p.rules.items n code last has_main closes in
    (in_turn_opens code (map stmt_code p.begin.items) (all_open code p.begin.items)).by nowhere 0 (has_front code 0 cb _ has) (subst (Calm code) (sym zero_on) mains)
  where
    by_reads : (b : Bool) (rs : List Rule) (n : ℕ) (code last : List Instr) → HasAt code n (main_code b rs n ++ last) → Calm code (n + length (main_code b rs n)) → Calm code n
    by_reads true rs n code last has calm = at_main n has.0 (at_point (n + 1) None has.1.0)
    by_reads false rs n code last has calm = let e : n + 0 ≡ n = omega arith in subst (Calm code) e calm

module _ (given : Given) (code : List Instr) (fin : Places) where
  -- from a calm place
  from_calm : (m q : ℕ) (ops : List Value) (keys : List (List Bytes)) (rets : List ℕ) (phase : Phase) (run : Run) → Calm code q → run.points ≡ [] → run.state.output ≡ [] → Silent (steps given code fin m (Going q ops keys rets phase run))
  from_calm zero q ops keys rets phase run calm none silent = (λ a e. absurd (cc), λ e. silent)
  from_calm (suc m) _ ops keys rets phase run (at_point q site h) none silent = from_point given code fin (suc m) q ops keys rets phase run site h none silent
  from_calm (suc m) _ ops keys rets phase run (at_jump q k h calm) none silent = subst (λ i. Silent (steps given code fin m (act given fin i q ops keys rets phase run))) (sym h) (from_calm m (q + 1 + k) ops keys rets phase run calm none silent)
  from_calm (suc m) _ ops keys rets phase run (at_return q p h calm) none silent = subst (λ i. Silent (steps given code fin m (act given fin i q ops keys rets phase run))) (sym h) (from_calm m p ops keys rets phase run calm none silent)
  from_calm (suc m) _ ops keys rets phase run (at_main q h calm) none silent =
      subst (λ i. Silent (steps given code fin m (act given fin i q ops keys rets phase run))) (sym h) (from_calm m (q + 1) [] [] rets (to_main phase) run calm none silent)
  from_calm (suc m) _ ops keys rets phase run (at_end q h calm) none silent = subst (λ i. Silent (steps given code fin m (act given fin i q ops keys rets phase run))) (sym h) (from_calm m (q + 1) [] [] rets InEnd run calm none silent)
  from_calm (suc m) _ ops keys rets phase run (at_halt q h) none silent =
      subst (λ i. Silent (steps given code fin m (act given fin i q ops keys rets phase run))) (sym h) (subst Silent (sym (over_stays given code fin m Ended run)) (λ a e. absurd (cc), λ e. silent))
  from_calm (suc m) _ ops keys rets phase run (at_keys q a h calm) none silent =
      subst (λ i. Silent (steps given code fin m (act given fin i q ops keys rets phase run))) (sym h) (from_calm m (q + 1) ops (array_keys a run.state ∷ keys) rets phase run calm none silent)
  from_calm (suc m) _ ops keys rets phase run (at_back q p h first second) none silent =
      subst (λ i. Silent (steps given code fin m (act given fin i q ops keys rets phase run))) (sym h)
      (elim (has_next keys) as (λ b. Silent (steps given code fin m (Going (if b then p else q + 1) ops keys rets phase run))) [
        | true ↦ from_calm m p ops keys rets phase run first none silent
        | false ↦ from_calm m (q + 1) ops keys rets phase run second none silent
      ])
  from_calm (suc m) _ ops keys rets phase run (at_drop q h calm) none silent =
      subst (λ i. Silent (steps given code fin m (act given fin i q ops keys rets phase run))) (sym h) (from_calm m (q + 1) ops (drop 1 keys) rets phase run calm none silent)

pub first_output_law : FirstOutputLaw
first_output_law p settings given =
    let a = trace_runs p settings given in
    subst Silent a.1 (from_calm given (program_code p) (place_of p) a.0 0 [] [] [] InBegin (start p.names.items p.ranges settings) (first_calm p) refl refl)
