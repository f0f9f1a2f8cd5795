-- The parts of a program's code, put behind one another.
use Rattle.std.proofs.Common.{◌≡◌, ◌+◌, Bool, List, [], ◌∷◌, ◌++◌, length, map, sym, ap, ◌∙◌, subst, arith, append_assoc, length-append}
use Rattle.rawk_tree.specs.declared.tree.Program.{Program}
use Rattle.rawk_code.specs.declared.code.Instr.{Instr}
use Rattle.rawk_code.specs.declared.code.Instr.TheVariants.{BeginEnd, Halt}
use Rattle.rawk_code.specs.Listing.{Listing}
use Rattle.rawk_code.specs.Trace.{reads}
use Rattle.rawk_compiler.specs.Code.{nowhere, in_turn, stmt_code, main_code, begin_code, record_at_of, end_at_of, functions_at_of, functions_code, entries_from, program_code, IsCompiled}
use Rattle.rawk_code.specs.Valid.{IsValid}
use Rattle.rawk_compiler.proofs.Ranks.{valid}

-- the four parts, from nothing
pub record Assembled (p : Program) (c0 c1 c2 c3 : List Instr) (code : Listing) (reading : Bool) : Type 0 where
  pub none : c0 ≡ []
  pub begin : c1 ≡ c0 ++ in_turn (map stmt_code p.begin.items) nowhere (length c0)
  pub is_reading : reading ≡ reads p
  pub main : c2 ≡ c1 ++ main_code reading p.rules.items (length c1)
  pub end : c3 ≡ c2 ++ BeginEnd ∷ (in_turn (map stmt_code p.end.items) nowhere (length c2 + 1) ++ Halt ∷ [])
  pub functions : code.instrs ≡ c3 ++ functions_code p.functions.items (length c3)
  pub entries : code.entries ≡ entries_from p.functions.items (length c3)
  pub record_at : code.record_at ≡ length c1 + 1
  pub end_at : code.end_at ≡ length c2 + 1
  pub names : code.names ≡ p.names.items
  pub ranges : code.ranges ≡ p.ranges

pub assembled : (p : Program) (c0 c1 c2 c3 : List Instr) (code : Listing) (reading : Bool) → Assembled p c0 c1 c2 c3 code reading → IsCompiled p code
assembled p c0 c1 c2 c3 code reading parts =
    let cb = begin_code p in
    let cm = main_code (reads p) p.rules.items (length cb) in
    let ce = in_turn (map stmt_code p.end.items) nowhere (end_at_of p) in
    let b1 : c1 ≡ cb = parts.begin ∙ ap (λ c. c ++ in_turn (map stmt_code p.begin.items) nowhere (length c)) parts.none in
    let b2 : c2 ≡ cb ++ cm = parts.main ∙ ap (λ r. c1 ++ main_code r p.rules.items (length c1)) parts.is_reading ∙ ap (λ c. c ++ main_code (reads p) p.rules.items (length c)) b1 in
    let at : length c2 + 1 ≡ end_at_of p = omega (arith, ap length b2, length-append cb cm) in
    let last : List Instr = BeginEnd ∷ (ce ++ Halt ∷ []) in
    let b3 : c3 ≡ c2 ++ last = parts.end ∙ ap (λ n. c2 ++ BeginEnd ∷ (in_turn (map stmt_code p.end.items) nowhere n ++ Halt ∷ [])) at in
    let there : length c3 ≡ functions_at_of p = omega (arith, ap length b3, length-append c2 last, length-append ce (Halt ∷ []), at) in
    let cf = functions_code p.functions.items (functions_at_of p) in
    let flat : last ++ cf ≡ BeginEnd ∷ (ce ++ (Halt ∷ cf)) = ap (λ l. BeginEnd ∷ l) (append_assoc ce (Halt ∷ []) cf) in
    record {
      instrs = parts.functions ∙ ap (λ n. c3 ++ functions_code p.functions.items n) there ∙ ap (λ c. c ++ cf) (b3 ∙ ap (λ c. c ++ last) b2)
          ∙ append_assoc (cb ++ cm) last cf ∙ append_assoc cb cm (last ++ cf) ∙ ap (λ l. cb ++ (cm ++ l)) flat;
      record_at = parts.record_at ∙ ap (λ c. length c + 1) b1;
      end_at = parts.end_at ∙ at;
      names = parts.names;
      entries = parts.entries ∙ ap (entries_from p.functions.items) there;
      ranges = parts.ranges;
    }

pub compiled_valid : (p : Program) (code : Listing) → IsCompiled p code → IsValid code.instrs code.record_at code.entries
compiled_valid p code c = subst (λ l. IsValid l code.record_at code.entries) (sym c.instrs) (subst (λ n. IsValid (program_code p) n code.entries) (sym c.record_at) (subst (IsValid (program_code p) (record_at_of p)) (sym c.entries) (valid p)))
