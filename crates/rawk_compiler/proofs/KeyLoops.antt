-- Loops over keys, and what is deleted of arrays: the code follows the tree.
use Rattle.std.proofs.Common.{◌≡◌, ℕ, suc, ◌+◌, ◌<◌, List, [], ◌∷◌, ◌++◌, length, drop, Some, refl, sym, ap, ◌∙◌, subst, arith, length-append}
use Rattle.std.specs.Prelude.{slice_get}
use Rattle.rawk_words.specs.declared.array.Array.{Array}
use Rattle.rawk_tree.specs.declared.tree.Scalar.{Scalar}
use Rattle.rawk_tree.specs.declared.tree.Scalar.TheVariants as scalar
use Rattle.rawk_value.specs.declared.value.Value.{Value}
use Rattle.rawk_value.specs.declared.value.Value.TheVariants.{String}
use Rattle.rawk_value.specs.Values.{Bytes}
use Rattle.rawk_store.specs.State.{Target, array_keys, without_elements}
use Rattle.rawk_code.specs.declared.code.Operand.{Operand}
use Rattle.rawk_code.specs.declared.code.Instr.{Instr}
use Rattle.rawk_code.specs.declared.code.Op.TheVariants as does
use Rattle.rawk_code.specs.declared.code.Instr.TheVariants as instr
use Rattle.rawk_code.specs.Actions.{Run, Stops, Exits, Nexts, Returns, Leaves, Repeats, Outcome, Goes, Breaks, Action, Effect, and_then, bind, do_first, look, Given, reach, assign, delete_key, clear_array}
use Rattle.rawk_code.specs.Meaning.{ignore, continued, left_by, after, each_key, scalar_target, take_key}
use Rattle.rawk_code.specs.Machine.{Places, Config, Going, target_of, past, below, taking, returned, goes_on}
use Rattle.rawk_code.specs.Steps.{goes_after, assign_keeps, delete_keeps}
use Rattle.rawk_emission.specs.Expressions.{unless_ready}
use Rattle.rawk_compiler.specs.Code.{Piece, always, keys_around, keys_code, scalar_destination, HasAt}
use Rattle.rawk_compiler.proofs.Follows.{has_front, has_back, Level, Leads, leads_here, leads_on, one_step, Later, Follows, after_leads, lower, follows_then, keeps_plain, keyed_runs, reach_plain, point_then}
use Rattle.rawk_compiler.proofs.Expressions.{Seen, Good, operand_then}
use Rattle.rawk_compiler.proofs.Statements.{Runs}

-- what takes a key is static
scalar_is : (x : Scalar) (ops : List Value) → target_of (scalar_destination x) ops ≡ scalar_target x
scalar_is (scalar.Global x) ops = refl
scalar_is (scalar.Local i) ops = refl
scalar_is scalar.FieldCount ops = refl

scalar_past : (x : Scalar) (ops : List Value) → past (scalar_destination x) ops ≡ ops
scalar_past (scalar.Global x) ops = refl
scalar_past (scalar.Local i) ops = refl
scalar_past scalar.FieldCount ops = refl

same_behind : {A B : Type 0} (o : Outcome A) (m n : Action B) → ((run : Run) → m run ≡ n run) → and_then o (λ _. m) ≡ and_then o (λ _. n)
same_behind (Goes v run) m n same = same run
same_behind (Breaks why run) m n same = refl

module _ (given : Given) (code : List Instr) (fin : Places) where
  -- the same work behind a point
  pub runs_same : (depth site : ℕ) (m n : Effect) (c : Piece) → ((run : Run) → m run ≡ n run) → Runs given code fin depth (do_first (reach given (Some site)) n) c → Runs given code fin depth (do_first (reach given (Some site)) m) c
  runs_same depth site m n c same r =
      record {
        by = λ l pc to k run has at late time.
            subst (Follows given code fin l (Going pc l.base l.keys l.returns l.phase run) k (λ _. Going to l.base l.keys l.returns l.phase)) (sym (same_behind (reach given (Some site) run) m n same)) (r.by l pc to k run has at late time);
      }

  -- an element is deleted
  pub delete_runs : (depth site : ℕ) (a : Array) (m : Action Value) (o : Operand) (c : List Instr) → Good given code fin depth m c → Seen m o → Runs given code fin depth (do_first (reach given (Some site)) (bind m (delete_key a))) (always (instr.Point (Some site) ∷ (unless_ready o c ++ instr.Do (does.Delete a o) ∷ [])))
  delete_runs depth site a m o c g see =
      record {
        by = λ l pc to k run has at late time.
            let u = unless_ready o c in
            let i = instr.Do (does.Delete a o) in
            let p = pc + 1 + length u in
            let there : p + 1 ≡ to = omega (arith, at, length-append u (i ∷ [])) in
            let next : Unit {0} → Run → Config = λ _. Going to l.base l.keys l.returns l.phase in
            lower given code fin l _ k (k + 1) next _ (omega arith) (point_then given code fin l pc l.base k (Some site) run (bind m (delete_key a)) next has.0 late (λ run1 late1.
            subst (λ q. Follows given code fin l (Going (pc + 1) l.base l.keys l.returns l.phase run1) (k + 1) (λ (v : Unit {0}). Going q l.base l.keys l.returns l.phase) (bind m (delete_key a) run1)) there
            (operand_then given code fin depth m o c i (λ rest. delete_key a) (λ q rest l v. Going (q + 1) rest l.keys l.returns l.phase) (λ pc ops l run. goes_after (taking o ops (delete_key a) run) (λ _. below o ops) (λ left. Going (pc + 1) left l.keys l.returns l.phase)) (λ rest v run. delete_keeps a v run) g see l (pc + 1) p l.base (k + 1) run1 (has_front code (pc + 1) u _ has.1) refl (has_back code (pc + 1) u _ has.1).0 late1 (omega (arith, time)))));
      }

  -- all elements are deleted
  pub clear_runs : (depth site : ℕ) (a : Array) → Runs given code fin depth (do_first (reach given (Some site)) (clear_array a)) (always (instr.Point (Some site) ∷ instr.Do (does.Clear a) ∷ []))
  clear_runs depth site a =
      record {
        by = λ l pc to k run has at late time.
            let there : pc + 1 + 1 ≡ to = omega (arith, at) in
            let next : Unit {0} → Run → Config = λ _. Going to l.base l.keys l.returns l.phase in
            lower given code fin l _ k (k + 1) next _ (omega arith) (point_then given code fin l pc l.base k (Some site) run (clear_array a) next has.0 late (λ run1 late1.
            let now : Run = record run1 { state = without_elements a run1.state } in
            (record { low = late1.low; high = late1.high }, one_step given code fin (pc + 1) l.base l.keys l.returns l.phase run1 (instr.Do (does.Clear a)) (Going to l.base l.keys l.returns l.phase now) has.1.0 (ap (λ n. Going n l.base l.keys l.returns l.phase now) there))));
      }

  -- the level of a body, behind whose turn these keys are left
  abbrev inner : Level → ℕ → List Bytes → Level
  inner l pc ks = record { returns = l.returns; phase = l.phase; base = l.base; keys = ks ∷ l.keys; around = keys_around pc l.around }

  -- a turn, whose `continue` and `break` are caught
  caught : (l : Level) (a : Config) (k pc q to : ℕ) (ks : List Bytes) (o : Outcome (Unit {0})) (rest : Effect) → ((run : Run) → Leads given code fin (Going (pc + 1) l.base (ks ∷ l.keys) l.returns l.phase run) (Going q l.base (ks ∷ l.keys) l.returns l.phase run)) → ((run : Run) → Leads given code fin (Going (pc + 2) l.base (ks ∷ l.keys) l.returns l.phase run) (Going to l.base l.keys l.returns l.phase run)) → ((run : Run) → Later given code fin k run → Follows given code fin l (Going q l.base (ks ∷ l.keys) l.returns l.phase run) k (λ (u : Unit {0}). Going to l.base l.keys l.returns l.phase) (left_by (rest run))) → Follows given code fin (inner l pc ks) a k (λ (u : Unit {0}). Going q l.base (ks ∷ l.keys) l.returns l.phase) o → Follows given code fin l a k (λ (u : Unit {0}). Going to l.base l.keys l.returns l.phase) (left_by (and_then (continued o) (λ _. rest)))
  caught l a k pc q to ks (Goes v run) rest again exit others f = after_leads given code fin l a _ k _ (left_by (rest run)) f.1 (others run f.0)
  caught l a k pc q to ks (Breaks Repeats run) rest again exit others f = after_leads given code fin l a _ k _ (left_by (rest run)) (leads_on given code fin a _ _ f.1 (again run)) (others run f.0)
  caught l a k pc q to ks (Breaks Leaves run) rest again exit others f = (f.0, leads_on given code fin a _ _ f.1 (exit run))
  caught l a k pc q to ks (Breaks (Stops ending) run) rest again exit others f = f
  caught l a k pc q to ks (Breaks Exits run) rest again exit others f = f
  caught l a k pc q to ks (Breaks Nexts run) rest again exit others f = f
  caught l a k pc q to ks (Breaks (Returns v) run) rest again exit others f =
      let one_more : l.around.held + 1 ≡ suc l.around.held = omega arith in
      (f.0, subst (λ n. Leads given code fin a (returned fin v l.base (drop n (ks ∷ l.keys)) l.returns l.phase run)) one_more f.1)

  module _ (depth site : ℕ) (a : Array) (x : Scalar) (body : Effect) (pb : Piece) (rb : Runs given code fin depth body pb) where
    -- a turn: its point, the key, and the body
    abbrev once : Bytes → Effect
    once key = do_first (do_first (reach given (Some site)) (take_key (scalar_target x) key)) body

    module _ (l : Level) (pc to : ℕ) (has : HasAt code pc (keys_code site a (scalar_destination x) pb l.around pc)) (at : to ≡ pc + length (keys_code site a (scalar_destination x) pb l.around pc)) where
      abbrev b : List Instr
      b = pb (keys_around pc l.around) (pc + 5)

      abbrev over : ℕ
      over = length b + 3

      abbrev q : ℕ
      q = pc + 5 + length b

      abbrev tail : List Instr
      tail = instr.BackIfKey (pc + 3) ∷ (instr.DropKeys ∷ [])

      abbrev i : Instr
      i = instr.AssignKey (scalar_destination x)

      has_body : HasAt code (pc + 5) (b ++ tail)
      has_body = let e : pc + 1 + 1 + 1 + 1 + 1 ≡ pc + 5 = omega arith in subst (λ p. HasAt code p (b ++ tail)) e has.1.1.1.1.1

      has_point : slice_get code (pc + 3) ≡ Some (instr.Point (Some site))
      has_point = let e : pc + 1 + 1 + 1 ≡ pc + 3 = omega arith in subst (λ p. slice_get code p ≡ Some (instr.Point (Some site))) e has.1.1.1.0

      has_key_at : slice_get code (pc + 3 + 1) ≡ Some i
      has_key_at = let e : pc + 1 + 1 + 1 + 1 ≡ pc + 3 + 1 = omega arith in subst (λ p. slice_get code p ≡ Some i) e has.1.1.1.1.0

      has_tail : HasAt code q tail
      has_tail = has_back code (pc + 5) b tail has_body

      end_is : q + 1 + 1 ≡ to
      end_is = omega (arith, at, length-append b tail)

      -- the end of the loop
      ends : (ks : List Bytes) (run : Run) → Leads given code fin (Going (q + 1) l.base (ks ∷ l.keys) l.returns l.phase run) (Going to l.base l.keys l.returns l.phase run)
      ends ks run = one_step given code fin (q + 1) _ _ _ _ run instr.DropKeys _ has_tail.1.0 (ap (λ n. Going n l.base l.keys l.returns l.phase run) end_is)

      again_leads : (ks : List Bytes) (run : Run) → Leads given code fin (Going (pc + 1) l.base (ks ∷ l.keys) l.returns l.phase run) (Going q l.base (ks ∷ l.keys) l.returns l.phase run)
      again_leads ks run =
          let there : pc + 1 + 1 + over ≡ q = omega arith in
          one_step given code fin (pc + 1) _ _ _ _ run (instr.GoOn over) _ has.1.0 (ap (λ n. Going n l.base (ks ∷ l.keys) l.returns l.phase run) there)

      exit_leads : (ks : List Bytes) (run : Run) → Leads given code fin (Going (pc + 2) l.base (ks ∷ l.keys) l.returns l.phase run) (Going to l.base l.keys l.returns l.phase run)
      exit_leads ks run =
          let here : pc + 1 + 1 ≡ pc + 2 = omega arith in
          let there : pc + 2 + 1 + over ≡ q + 1 = omega arith in
          leads_on given code fin _ _ _ (one_step given code fin (pc + 2) _ _ _ _ run (instr.GoOn over) _ (subst (λ p. slice_get code p ≡ Some (instr.GoOn over)) here has.1.1.0) (ap (λ n. Going n l.base (ks ∷ l.keys) l.returns l.phase run) there)) (ends ks run)

      -- a turn with a key, behind which others are left
      turn_follows : (key : Bytes) (ks : List Bytes) (k : ℕ) (run : Run) → Later given code fin k run → given.steps < k + depth → Follows given code fin (inner l pc ks) (Going (pc + 3) l.base ((key ∷ ks) ∷ l.keys) l.returns l.phase run) k (λ (u : Unit {0}). Going q l.base (ks ∷ l.keys) l.returns l.phase) (once key run)
      turn_follows key ks k run late time =
          let in_turn = inner l pc ks in
          let keys = (key ∷ ks) ∷ l.keys in
          let taker = scalar_destination x in
          let mid : Unit {0} → Run → Config = λ _. Going (pc + 5) l.base (ks ∷ l.keys) l.returns l.phase in
          let there : pc + 3 + 1 + 1 ≡ pc + 5 = omega arith in
          lower given code fin in_turn _ k (k + 1) _ (once key run) (omega arith)
          (follows_then given code fin in_turn _ (k + 1) mid _ (do_first (reach given (Some site)) (take_key (scalar_target x) key) run) (λ _. body)
          (follows_then given code fin in_turn _ (k + 1) (λ _. Going (pc + 3 + 1) l.base keys l.returns l.phase) mid (reach given (Some site) run) (λ _. take_key (scalar_target x) key)
          (keyed_runs given code fin in_turn (pc + 3) l.base keys (k + 1) run (instr.Point (Some site)) _ (reach given (Some site) run) has_point refl (reach_plain given code fin k (Some site) run late))
          (λ u run1 e late1.
          follows_then given code fin in_turn _ (k + 1) (λ (v : Value). mid tt) mid (assign (scalar_target x) (String key) run1) ignore
          (keyed_runs given code fin in_turn (pc + 3 + 1) l.base keys (k + 1) run1 i (λ (v : Value). mid tt) (assign (scalar_target x) (String key) run1) has_key_at
          (ap (λ (t : Target). goes_on (assign t (String key) run1) (λ _. Going (pc + 3 + 1 + 1) (past taker l.base) (ks ∷ l.keys) l.returns l.phase)) (scalar_is x l.base)
          ∙ ap (λ (ops : List Value). goes_on (assign (scalar_target x) (String key) run1) (λ _. Going (pc + 3 + 1 + 1) ops (ks ∷ l.keys) l.returns l.phase)) (scalar_past x l.base)
          ∙ ap (λ n. goes_on (assign (scalar_target x) (String key) run1) (λ _. Going n l.base (ks ∷ l.keys) l.returns l.phase)) there)
          (keeps_plain given code fin (k + 1) run1 (assign (scalar_target x) (String key) run1) late1 (assign_keeps (scalar_target x) (String key) run1)))
          (λ v run2 e2 late2. (late2, leads_here given code fin _))))
          (λ u run2 e late2. rb.by in_turn (pc + 5) q (k + 1) run2 (has_front code (pc + 5) b tail has_body) refl late2 (omega (arith, time))))

      -- the turns that are left
      turns_follow : (ks : List Bytes) (k : ℕ) (run : Run) → Later given code fin k run → given.steps < k + depth → Follows given code fin l (Going q l.base (ks ∷ l.keys) l.returns l.phase run) k (λ (u : Unit {0}). Going to l.base l.keys l.returns l.phase) (left_by (each_key (λ key. after continued (once key)) ks run))
      turns_follow [] k run late time = (late, leads_on given code fin _ _ _ (one_step given code fin q _ _ _ _ run (instr.BackIfKey (pc + 3)) _ has_tail.0 refl) (ends [] run))
      turns_follow (key ∷ ks) k run late time =
          let rest = each_key (λ key. after continued (once key)) ks in
          after_leads given code fin l _ (Going (pc + 3) l.base ((key ∷ ks) ∷ l.keys) l.returns l.phase run) k _ (left_by (and_then (continued (once key run)) (λ _. rest)))
          (one_step given code fin q _ _ _ _ run (instr.BackIfKey (pc + 3)) _ has_tail.0 refl)
          (caught l _ k pc q to ks (once key run) rest (again_leads ks) (exit_leads ks) (λ run1 late1. turns_follow ks k run1 late1 time) (turn_follows key ks k run late time))

    pub keys_run : Runs given code fin depth (bind (look (array_keys a)) (λ ks. after left_by (each_key (λ key. after continued (once key)) ks))) (keys_code site a (scalar_destination x) pb)
    keys_run = record {
      by = λ l pc to k run has at late time.
          let ks = array_keys a run.state in
          after_leads given code fin l _ (Going (q l pc to has at) l.base (ks ∷ l.keys) l.returns l.phase run) k _ (left_by (each_key (λ key. after continued (once key)) ks run))
          (leads_on given code fin _ _ _ (one_step given code fin pc _ _ _ _ run (instr.TakeKeys a) _ has.0 refl) (again_leads l pc to has at ks run))
          (turns_follow l pc to has at ks k run late time);
    }
