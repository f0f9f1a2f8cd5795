-- The laws of the trace, by way of the code that has the same runs.
use Rattle.std.proofs.Common.{◌≡◌, ℕ, ◌+◌, List, [], refl, subst, arith}
use Rattle.rawk_tree.specs.declared.tree.Program.{Program}
use Rattle.rawk_code.specs.Actions.{Given}
use Rattle.rawk_code.specs.Trace.{FirstValue, trace, start}
use Rattle.rawk_code.specs.Machine.{Places, Config, Going, Over, InBegin, steps}
use Rattle.rawk_compiler.specs.Code.{record_at_of, end_at_of, entries_of, program_code}
use Rattle.rawk_code.specs.Laws.{LimitLaw, SetsLawBelow, SetsLaw, OutputGrows, OutputLaw}
use Rattle.rawk_code.specs.Steps.{run_of, over_later}
use Rattle.rawk_compiler.proofs.Follows.{has_all}
use Rattle.rawk_compiler.proofs.Whole.{program_leads}
use Rattle.rawk_compiler.proofs.StepLaws.{limit_from, sets_from, ordered}

abbrev pub place_of : Program → Places
place_of p = record { record_at = record_at_of p; end_at = end_at_of p; entries = entries_of p }

abbrev first_of : Program → List FirstValue → Config
first_of p settings = Going 0 [] [] [] InBegin (start p.names.items p.ranges settings)

pub trace_runs : (p : Program) (settings : List FirstValue) (given : Given) → (m : ℕ) × (steps given (program_code p) (place_of p) m (first_of p settings) ≡ Over (trace p settings given).ending (trace p settings given).run)
trace_runs p settings given = (program_leads given (program_code p) (place_of p) p settings refl refl refl (has_all (program_code p) [])).by 0

pub limit_law : LimitLaw
limit_law p settings given =
    let code = program_code p in
    let more : Given = record given { steps = given.steps + 1 } in
    let a = trace_runs p settings given in
    let b = trace_runs p settings more in
    let m = a.0 + b.0 in
    limit_from given.input code (place_of p) given.sets given.steps m (first_of p settings) (trace p settings given) (trace p settings more) tt (omega arith)
    (over_later given code (place_of p) a.0 m (first_of p settings) _ _ (omega arith) a.1)
    (over_later more code (place_of p) b.0 m (first_of p settings) _ _ (omega arith) b.1)

pub sets_law_below : SetsLawBelow
sets_law_below p settings given other k same =
    let code = program_code p in
    let right : Given = record given { sets = other } in
    let a = trace_runs p settings given in
    let b = trace_runs p settings right in
    let m = a.0 + b.0 in
    sets_from given.input code (place_of p) given.sets other given.steps k same m (first_of p settings) (trace p settings given) (trace p settings right) tt
    (over_later given code (place_of p) a.0 m (first_of p settings) _ _ (omega arith) a.1)
    (over_later right code (place_of p) b.0 m (first_of p settings) _ _ (omega arith) b.1)

pub sets_law : SetsLaw
sets_law p settings given other k same = sets_law_below p settings given other (k + 1) (λ j lt. same j (omega arith))

pub output_law : OutputLaw
output_law p settings given =
    let code = program_code p in
    let a = trace_runs p settings given in
    let none : OutputGrows [] [] = (λ j k x y le h. absurd (cc), λ j x h. absurd (cc)) in
    subst (λ c. OutputGrows (run_of c).points (run_of c).state.output) a.1 (ordered given code (place_of p) a.0 (first_of p settings) none)
