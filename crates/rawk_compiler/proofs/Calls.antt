-- The code of a function does what a call does.
use Rattle.std.proofs.Common.{◌≡◌, ℕ, zero, suc, ◌+◌, ◌<◌, List, [], ◌∷◌, ◌++◌, length, take, drop, Option, Some, None, refl, sym, ap, ◌∙◌, subst, arith}
use Rattle.std.specs.Prelude.{slice_get}
use Rattle.std.proofs.Math.Seq.{take-append_seam, drop-append_seam}
use Rattle.rawk_tree.specs.declared.tree.Function.{Function}
use Rattle.rawk_tree.specs.declared.tree.Kind.{Kind}
use Rattle.rawk_words.specs.declared.array.Array.{Array}
use Rattle.rawk_value.specs.declared.value.Value.{Value}
use Rattle.rawk_store.specs.State.{State}
use Rattle.rawk_code.specs.declared.code.Entry.{Entry}
use Rattle.rawk_code.specs.declared.code.Simple.TheVariants as simple
use Rattle.rawk_code.specs.declared.code.Operand.TheVariants as operand
use Rattle.rawk_code.specs.declared.code.Instr.{Instr}
use Rattle.rawk_code.specs.declared.code.Instr.TheVariants as instr
use Rattle.rawk_code.specs.Actions.{Run, Ended, Stops, Exits, Nexts, Returns, Leaves, Repeats, Outcome, Goes, Breaks, Action, Given, do_first, reach, entered, left}
use Rattle.rawk_code.specs.Meaning.{exec, value_of, call_of, call_at}
use Rattle.rawk_code.specs.Machine.{Places, Config, Going, Over, called}
use Rattle.rawk_compiler.specs.Code.{nowhere, stmt_code, function_code, functions_code, entries_from, HasAt}
use Rattle.rawk_compiler.proofs.Follows.{has_front, has_back, Level, Leads, leads_on, one_step, Later, same_points, Follows, after_leads, lower, point_then}
use Rattle.rawk_compiler.proofs.Expressions.{CallGood}
use Rattle.rawk_compiler.proofs.Runs.{scene_of, exec_runs}

-- a function's code stands where its entry says
abbrev pub PlacedAt : List Instr → Option Function → Option Entry → Type 0
PlacedAt code None None = Unit {0}
PlacedAt code None (Some e) = ⊥
PlacedAt code (Some g) None = ⊥
PlacedAt code (Some g) (Some e) = (e.kinds ≡ g.kinds.items) × HasAt code e.place (function_code g nowhere e.place)

pub all_placed : (code : List Instr) (at : ℕ) (fs : List Function) → HasAt code at (functions_code fs at) → (f : ℕ) → PlacedAt code (slice_get fs f) (slice_get (entries_from fs at) f)
all_placed code at [] has f = tt
all_placed code at (g ∷ fs) has zero = (refl, has_front code at (function_code g nowhere at) (functions_code fs (at + length (function_code g nowhere at))) has)
all_placed code at (g ∷ fs) has (suc f) =
    let c = function_code g nowhere at in
    all_placed code (at + length c) fs (has_back code at c (functions_code fs (at + length c)) has) f

module _ (given : Given) (code : List Instr) (fin : Places) where
  -- the level of a function's body
  abbrev inner : Level → ℕ → List Value → Level
  inner l to ops = record { returns = to ∷ l.returns; phase = l.phase; base = ops; keys = l.keys; around = nowhere }

  -- the end of a function's body
  value_follows : (l : Level) (a : Config) (k to p : ℕ) (ops : List Value) (o : Outcome (Unit {0})) → slice_get code p ≡ Some (instr.Return 0 (operand.Given simple.Uninitialized)) → Follows given code fin (inner l to ops) a k (λ _. Going p ops l.keys (to ∷ l.returns) l.phase) o → Follows given code fin l a k (λ v. Going to (v ∷ ops) l.keys l.returns l.phase) (value_of o)
  value_follows l a k to p ops (Goes u run) h f =
      (same_points given code fin k left run f.0, leads_on given code fin a _ _ f.1 (one_step given code fin p ops l.keys (to ∷ l.returns) l.phase run (instr.Return 0 (operand.Given simple.Uninitialized)) _ h refl))
  value_follows l a k to p ops (Breaks (Returns v) run) h f = (same_points given code fin k left run f.0, f.1)
  value_follows l a k to p ops (Breaks (Stops ending) run) h f = f
  value_follows l a k to p ops (Breaks Exits run) h f = f
  value_follows l a k to p ops (Breaks Nexts run) h f = f
  value_follows l a k to p ops (Breaks Leaves run) h f = f
  value_follows l a k to p ops (Breaks Repeats run) h f = f

  -- the machine in a function, before the point of its entry
  abbrev goes_in : Option Entry → ℕ → List Array → ℕ → List Value → List Value → Level → Run → Config
  goes_in None f arrays to vs ops l run = Over Ended run
  goes_in (Some e) f arrays to vs ops l run = Going e.place ops l.keys (to ∷ l.returns) l.phase (record run { state = entered f e.kinds arrays vs run.state })

  called_is : (e : Option Entry) (f m : ℕ) (arrays : List Array) (pc to : ℕ) (vs ops : List Value) (l : Level) (run : Run) → length vs ≡ m → to ≡ pc + 1 → called e f m arrays pc (vs ++ ops) l.keys l.returns l.phase run ≡ goes_in e f arrays to vs ops l run
  called_is None f m arrays pc to vs ops l run count at = refl
  called_is (Some e) f m arrays pc to vs ops l run count at =
      let go : ℕ → List Value → List Value → Config = λ r ws rest. Going e.place rest l.keys (r ∷ l.returns) l.phase (record run { state = entered f e.kinds arrays ws run.state }) in
      ap (λ j. go (pc + 1) (take j (vs ++ ops)) (drop j (vs ++ ops))) (sym count)
      ∙ ap (λ ws. go (pc + 1) ws (drop (length vs) (vs ++ ops))) (take-append_seam vs ops)
      ∙ ap (go (pc + 1) vs) (drop-append_seam vs ops)
      ∙ ap (λ r. go r vs ops) (sym at)

  -- one call, with its function and its entry
  call_runs : (depth : ℕ) (call : ℕ → List Array → List Value → Action Value) → CallGood given code fin depth call → (l : Level) (a : Config) (to f : ℕ) (arrays : List Array) (vs ops : List Value) (k : ℕ) (run : Run) (g : Option Function) (e : Option Entry) → PlacedAt code g e → Later given code fin k run → given.steps < k + suc depth → Leads given code fin a (goes_in e f arrays to vs ops l run) → Follows given code fin l a k (λ v. Going to (v ∷ ops) l.keys l.returns l.phase) (call_of given f g (exec (scene_of given code fin depth call)) arrays vs run)
  call_runs depth call good l a to f arrays vs ops k run None None placed late time h = (tt, h)
  call_runs depth call good l a to f arrays vs ops k run None (Some e) placed late time h = absurd placed
  call_runs depth call good l a to f arrays vs ops k run (Some g) None placed late time h = absurd placed
  call_runs depth call good l a to f arrays vs ops k run (Some g) (Some e) placed late time h =
      let body = stmt_code g.body nowhere (e.place + 1) in
      let p = e.place + 1 + length body in
      let enters : State → State = entered f g.kinds.items arrays vs in
      let run1 : Run = record run { state = enters run.state } in
      let level = inner l to ops in
      let next : Unit {0} → Run → Config = λ _. Going p ops l.keys (to ∷ l.returns) l.phase in
      let there : Leads given code fin a (Going e.place ops l.keys (to ∷ l.returns) l.phase run1) =
      subst (λ (kinds : List Kind). Leads given code fin a (Going e.place ops l.keys (to ∷ l.returns) l.phase (record run { state = entered f kinds arrays vs run.state }))) placed.0 h in
      let w = scene_of given code fin depth call in
      let o = do_first (reach given (Some g.site)) (exec w g.body) run1 in
      lower given code fin l a k (k + 1) (λ v. Going to (v ∷ ops) l.keys l.returns l.phase) (value_of o) (omega arith)
      (value_follows l a (k + 1) to p ops o (has_back code (e.place + 1) body (instr.Return 0 (operand.Given simple.Uninitialized) ∷ []) placed.1.1).0
      (after_leads given code fin level a _ (k + 1) next o there
      (point_then given code fin level e.place ops k (Some g.site) run1 (exec w g.body) next placed.1.0 (same_points given code fin k enters run late) (λ run2 late2.
      (exec_runs given code fin depth call good g.body).by level (e.place + 1) p (k + 1) run2 (has_front code (e.place + 1) body _ placed.1.1) refl late2 (omega (arith, time))))))

  -- calls, as deep as points are left
  pub calls_good : (functions : List Function) → ((f : ℕ) → PlacedAt code (slice_get functions f) (slice_get fin.entries f)) → (depth : ℕ) → CallGood given code fin depth (call_at given functions depth)
  calls_good functions placed zero = record { by = λ l pc to f m arrays vs ops k run h count at late time. absurd (omega (arith, late.low, late.high, time)) }
  calls_good functions placed (suc depth) =
      let call = call_at given functions depth in
      let good = calls_good functions placed depth in
      record {
        by = λ l pc to f m arrays vs ops k run h count at late time.
            call_runs depth call good l (Going pc (vs ++ ops) l.keys l.returns l.phase run) to f arrays vs ops k run (slice_get functions f) (slice_get fin.entries f) (placed f) late time
            (one_step given code fin pc (vs ++ ops) l.keys l.returns l.phase run (instr.Call f m arrays) _ h (called_is (slice_get fin.entries f) f m arrays pc to vs ops l run count at));
      }
