-- The whole program.
use Rattle.std.proofs.Common.{◌≡◌, ℕ, suc, ◌+◌, ◌<◌, Bool, true, false, List, [], ◌∷◌, ◌++◌, length, map, Some, if◌then◌else◌, refl, sym, ap, ◌∙◌, subst, arith}
use Rattle.std.specs.Prelude.{slice_get}
use Rattle.rawk_tree.specs.declared.tree.Rule.{Rule}
use Rattle.rawk_tree.specs.declared.tree.Program.{Program}
use Rattle.rawk_value.specs.declared.fault.Fault.TheVariants.{NextOutside}
use Rattle.rawk_code.specs.declared.code.Instr.{Instr}
use Rattle.rawk_code.specs.declared.code.Instr.TheVariants as instr
use Rattle.rawk_code.specs.Listing.{Listing}
use Rattle.rawk_words.specs.declared.array.Array.{Array}
use Rattle.rawk_code.specs.Actions.{outside, Run, Faulted, Stops, Exits, Nexts, Returns, Leaves, Repeats, Outcome, Goes, Breaks, Action, Effect, and_then, Given}
use Rattle.rawk_value.specs.declared.value.Value.{Value}
use Rattle.rawk_code.specs.Meaning.{Scene, in_order, nothing, exec, call_at}
use Rattle.rawk_code.specs.Trace.{each_record, reads, main, last_of, then_end, FirstValue, start, scene, trace}
use Rattle.rawk_code.specs.Machine.{Phase, InBegin, InMain, InEnd, quits, nexts, Places, Config, Going, Over, steps}
use Rattle.rawk_compiler.specs.Code.{nowhere, in_turn, stmt_code, records_code, main_code, begin_code, record_at_of, end_at_of, functions_at_of, functions_code, entries_of, program_code, HasAt, IsCompiled}
use Rattle.rawk_code.specs.Correct.{places_of, CodeOf}
use Rattle.rawk_compiler.proofs.Follows.{has_front, has_back, has_all, Level, Leads, leads_here, leads_on, one_step, Later, outside_later, Follows}
use Rattle.rawk_compiler.proofs.Expressions.{CallGood}
use Rattle.rawk_compiler.proofs.Statements.{in_order_runs}
use Rattle.rawk_compiler.proofs.Runs.{NoNext, records_no_next, each_runs, all_run, rules_run}
use Rattle.rawk_compiler.proofs.Calls.{PlacedAt, all_placed, calls_good}

module _ (given : Given) (code : List Instr) (fin : Places) where
  -- the level of a phase
  abbrev level_of : Phase → Level
  level_of phase = record { returns = []; phase = phase; base = []; keys = []; around = nowhere }

  -- the end of END
  end_leads : (a : Config) (k to : ℕ) (o : Outcome (Unit {0})) → slice_get code to ≡ Some instr.Halt → Follows given code fin (level_of InEnd) a k (λ _. Going to [] [] [] InEnd) o → Leads given code fin a (Over (last_of o).ending (last_of o).run)
  end_leads a k to (Goes u run) h f = leads_on given code fin a _ _ f.1 (one_step given code fin to [] [] [] InEnd run instr.Halt _ h refl)
  end_leads a k to (Breaks (Stops ending) run) h f = f.1
  end_leads a k to (Breaks Exits run) h f = f.1
  end_leads a k to (Breaks Nexts run) h f = f.1
  end_leads a k to (Breaks (Returns v) run) h f = f.1
  end_leads a k to (Breaks Leaves run) h f = f.1
  end_leads a k to (Breaks Repeats run) h f = f.1

  -- END, from its first instruction
  abbrev Finishes : Effect → ℕ → Type 0
  Finishes end k = (run : Run) → Later given code fin k run → Leads given code fin (Going fin.end_at [] [] [] InEnd run) (Over (last_of (end run)).ending (last_of (end run)).run)

  -- what follows BEGIN or the records
  then_leads : (phase : Phase) → ((run : Run) → quits fin phase run ≡ Going fin.end_at [] [] [] InEnd (outside run)) → (a : Config) (k to : ℕ) (o : Outcome (Unit {0})) → ((run : Run) → o ≡ Breaks Nexts run → nexts fin phase run ≡ Over (Faulted NextOutside) run) → (end : Effect) → slice_get code to ≡ Some instr.BeginEnd → to + 1 ≡ fin.end_at → Finishes end k → Follows given code fin (level_of phase) a k (λ _. Going to [] [] [] phase) o → Leads given code fin a (Over (then_end o end).ending (then_end o end).run)
  then_leads phase quit a k to (Goes u run) nexts end h at ends f =
      leads_on given code fin a _ _ f.1 (leads_on given code fin _ _ _ (one_step given code fin to [] [] [] phase run instr.BeginEnd _ h refl) (subst (λ p. Leads given code fin (Going p [] [] [] InEnd run) (Over (last_of (end run)).ending (last_of (end run)).run)) (sym at) (ends run f.0)))
  then_leads phase quit a k to (Breaks (Stops ending) run) nexts end h at ends f = f.1
  then_leads phase quit a k to (Breaks Nexts run) nexts end h at ends f = subst (Leads given code fin a) (nexts run refl) f.1
  then_leads phase quit a k to (Breaks Exits run) nexts end h at ends f = leads_on given code fin a _ _ (subst (Leads given code fin a) (quit run) f.1) (ends (outside run) (outside_later given code fin k run f.0))
  then_leads phase quit a k to (Breaks (Returns v) run) nexts end h at ends f = leads_on given code fin a _ _ (subst (Leads given code fin a) (quit run) f.1) (ends (outside run) (outside_later given code fin k run f.0))
  then_leads phase quit a k to (Breaks Leaves run) nexts end h at ends f = leads_on given code fin a _ _ (subst (Leads given code fin a) (quit run) f.1) (ends (outside run) (outside_later given code fin k run f.0))
  then_leads phase quit a k to (Breaks Repeats run) nexts end h at ends f = leads_on given code fin a _ _ (subst (Leads given code fin a) (quit run) f.1) (ends (outside run) (outside_later given code fin k run f.0))

  -- the end of BEGIN
  begin_leads : (a : Config) (k to : ℕ) (o : Outcome (Unit {0})) (main end : Effect) → Finishes end k → ((run : Run) → Later given code fin k run → Leads given code fin (Going to [] [] [] InBegin run) (Over (then_end (main run) end).ending (then_end (main run) end).run)) → Follows given code fin (level_of InBegin) a k (λ _. Going to [] [] [] InBegin) o → Leads given code fin a (Over (then_end (and_then o (λ _. main)) end).ending (then_end (and_then o (λ _. main)) end).run)
  begin_leads a k to (Goes u run) main end ends mains f = leads_on given code fin a _ _ f.1 (mains run f.0)
  begin_leads a k to (Breaks (Stops ending) run) main end ends mains f = f.1
  begin_leads a k to (Breaks Nexts run) main end ends mains f = f.1
  begin_leads a k to (Breaks Exits run) main end ends mains f = leads_on given code fin a _ _ f.1 (ends (outside run) (outside_later given code fin k run f.0))
  begin_leads a k to (Breaks (Returns v) run) main end ends mains f = leads_on given code fin a _ _ f.1 (ends (outside run) (outside_later given code fin k run f.0))
  begin_leads a k to (Breaks Leaves run) main end ends mains f = leads_on given code fin a _ _ f.1 (ends (outside run) (outside_later given code fin k run f.0))
  begin_leads a k to (Breaks Repeats run) main end ends mains f = leads_on given code fin a _ _ f.1 (ends (outside run) (outside_later given code fin k run f.0))

  not_next : (o : Outcome (Unit {0})) → NoNext given code fin o → (run : Run) → o ≡ Breaks Nexts run → ⊥
  not_next (Breaks Nexts now) h run e = h
  not_next (Goes u now) h run e = absurd (cc)
  not_next (Breaks (Stops ending) now) h run e = absurd (cc)
  not_next (Breaks Exits now) h run e = absurd (cc)
  not_next (Breaks (Returns v) now) h run e = absurd (cc)
  not_next (Breaks Leaves now) h run e = absurd (cc)
  not_next (Breaks Repeats now) h run e = absurd (cc)

  -- the records, where they are read, and END
  main_leads : (reads : Bool) (depth : ℕ) (rs : List Rule) (end : Effect) (pc : ℕ) (ce : List Instr) → given.steps < depth → (call : ℕ → List Array → List Value → Action Value) → CallGood given code fin depth call → (w : Scene) → w ≡ record { given = given; turns = depth; call = call } → HasAt code pc (main_code reads rs pc ++ instr.BeginEnd ∷ ce) → pc + 1 ≡ fin.record_at → pc + length (main_code reads rs pc) + 1 ≡ fin.end_at → Finishes end 0 → (run : Run) → Later given code fin 0 run → let m = if reads then each_record w rs w.turns else nothing in Leads given code fin (Going pc [] [] [] InBegin run) (Over (then_end (m run) end).ending (then_end (m run) end).run)
  main_leads false depth rs end pc ce time call good w is has place at ends run late =
      let here : pc + 1 ≡ fin.end_at = omega (arith, at) in
      then_leads InBegin (λ run. refl) (Going pc [] [] [] InBegin run) 0 pc (Goes tt run) (λ now e. refl) end has.0 here ends (late, leads_here given code fin _)
  main_leads true depth rs end pc ce time call good w is has place at ends run late =
      let cm = records_code rs (pc + 1) in
      let to = pc + 1 + length cm in
      let scene : Scene = record { given = given; turns = depth; call = call } in
      let o = each_record scene rs depth run in
      let there : to + 1 ≡ fin.end_at = omega (arith, at) in
      let none = not_next o (records_no_next given code fin scene refl rs depth run) in
      let begun = one_step given code fin pc [] [] [] InBegin run instr.BeginMain (Going (pc + 1) [] [] [] InMain run) has.0 refl in
      let rest = then_leads InMain (λ run. refl) (Going (pc + 1) [] [] [] InMain run) 0 to o (λ now e. absurd (none now e)) end (has_back code (pc + 1) cm _ has.1).0 there ends
      (each_runs given code fin depth call rs (rules_run given code fin depth call good rs) (pc + 1) to place (has_front code (pc + 1) cm _ has.1) refl depth (omega arith) 0 run late (omega (arith, time))) in
      subst (λ v. Leads given code fin (Going pc [] [] [] InBegin run) (Over (then_end (each_record v rs v.turns run) end).ending (then_end (each_record v rs v.turns run) end).run)) (sym is) (leads_on given code fin _ _ _ begun rest)

  -- BEGIN, the records and END
  pub program_leads : (p : Program) (settings : List FirstValue) → fin.record_at ≡ record_at_of p → fin.end_at ≡ end_at_of p → fin.entries ≡ entries_of p → HasAt code 0 (program_code p) → Leads given code fin (Going 0 [] [] [] InBegin (start p.names.items p.ranges settings)) (Over (trace p settings given).ending (trace p settings given).run)
  program_leads p settings record_is end_is entries_are has =
      let depth = suc given.steps in
      let w = scene p given in
      let call = call_at given p.functions.items depth in
      let first = start p.names.items p.ranges settings in
      let cb = begin_code p in
      let n = length cb in
      let cm = main_code (reads p) p.rules.items n in
      let e = end_at_of p in
      let ce = in_turn (map stmt_code p.end.items) nowhere e in
      let end = in_order (map (exec w) p.end.items) in
      let zero_on : 0 + n ≡ n = omega arith in
      let cf = functions_code p.functions.items (functions_at_of p) in
      let has_main = subst (λ q. HasAt code q (cm ++ (instr.BeginEnd ∷ (ce ++ (instr.Halt ∷ cf))))) zero_on (has_back code 0 cb _ has) in
      let has_end = (has_back code n cm _ has_main).1 in
      let has_halt = has_back code e ce (instr.Halt ∷ cf) has_end in
      let placed : (f : ℕ) → PlacedAt code (slice_get p.functions.items f) (slice_get fin.entries f) = λ f. subst (λ es. PlacedAt code (slice_get p.functions.items f) (slice_get es f)) (sym entries_are) (all_placed code (functions_at_of p) p.functions.items has_halt.1 f) in
      let good = calls_good given code fin p.functions.items placed depth in
      let ends : Finishes end 0 = λ run late.
      subst (λ q. Leads given code fin (Going q [] [] [] InEnd run) (Over (last_of (end run)).ending (last_of (end run)).run)) (sym end_is)
      (end_leads (Going e [] [] [] InEnd run) 0 (e + length ce) (end run) has_halt.0
      ((in_order_runs given code fin depth (map (exec w) p.end.items) (map stmt_code p.end.items) (all_run given code fin depth call good p.end.items)).by (level_of InEnd) e (e + length ce) 0 run (has_front code e ce _ has_end) refl late (omega arith))) in
      begin_leads (Going 0 [] [] [] InBegin first) 0 n (in_order (map (exec w) p.begin.items) first) (main p w) end ends (main_leads (reads p) depth p.rules.items end n (ce ++ (instr.Halt ∷ cf)) (omega arith) call good w refl has_main (sym record_is) (sym end_is) ends)
      ((in_order_runs given code fin depth (map (exec w) p.begin.items) (map stmt_code p.begin.items) (all_run given code fin depth call good p.begin.items)).by (level_of InBegin) 0 n 0 first (has_front code 0 cb _ has) (sym zero_on) (record { low = omega arith; high = omega arith }) (omega arith))

-- a code that was put together from the program's parts does what the program does
pub compiled : (p : Program) (code : Listing) → IsCompiled p code → CodeOf p code
compiled p code c settings given =
    let fin = places_of code in
    let has = subst (λ l. HasAt l 0 (program_code p)) (sym c.instrs) (has_all (program_code p) []) in
    let a = (program_leads given code.instrs fin p settings c.record_at c.end_at c.entries has).by 0 in
    (a.0, ap (λ names. steps given code.instrs fin a.0 (Going 0 [] [] [] InBegin (start names code.ranges settings))) c.names ∙ ap (λ ranges. steps given code.instrs fin a.0 (Going 0 [] [] [] InBegin (start p.names.items ranges settings))) c.ranges ∙ a.1)
