-- What is reported of a whole run, from what its parts do.
use Rattle.std.proofs.Common.{◌≡◌, ℕ, ◌+◌, inl, inr, List, [], length, Option, refl, sym, ◌∙◌, ap, subst, arith}
use Rattle.rawk_value.specs.Values.{Bytes}
use Rattle.rawk_value.specs.declared.fault.Fault.TheVariants.{OutOfMemory}
use Rattle.rawk_devices.specs.Inputs.{Input, CountsUp, before}
use Rattle.rawk_devices.specs.declared.source.Ending.{Ending}
use Rattle.rawk_tree.specs.declared.tree.Program.{Program}
use Rattle.rawk_code.specs.Actions.{Given, SetAt}
use Rattle.rawk_code.specs.Correct.{CodeOf}
use Rattle.rawk_code.specs.Laws.{FirstOutputLaw}
use Rattle.rawk_code.specs.Listing.{Listing}
use Rattle.rawk_code.specs.Trace.{FirstValue, Trace, trace}
use Rattle.rawk_machine.specs.Asked.{AskedBy, HasAsked, IsAskedFor, Unstood, asked_wider}
use Rattle.rawk_machine.specs.Standing.{Standing, MayCome, given_of}
use Rattle.rawk.specs.declared.report.Report.{Report}
use Rattle.rawk.specs.declared.report.Cause.TheVariants as cause
use Rattle.rawk.specs.Reports.{stopped_by, read_failures, write_failures}
use Rattle.rawk.specs.Reads.{IsUnstood}
use Rattle.rawk.specs.Preparing as preparing
use Rattle.rawk.specs.Preparing.{IsRefused}
use Rattle.rawk.specs.Runs.{IsRunOf, Runs, IsRun, points_until, trace_of}
use Rattle.rawk.specs.Tells.{Tells, text_refused, settings_refused, ran}
use Rattle.rawk.proofs.SoFar.{not_stood}

-- a machine that was made of these first values and this limit runs their trace
trace_is : {S : Type 0} (p : Program) (settings : List FirstValue) (steps : ℕ) (m : Standing S) (input : Input) → m.settings ≡ settings → m.sets ≡ [] → m.steps ≡ steps
    → trace_of p m input ≡ trace p settings (record { input = input; sets = []; steps = steps })
trace_is p settings steps m input same none limit =
    ap (λ (x : List FirstValue). trace p x (given_of m input)) same
    ∙ ap (λ (x : List SetAt). trace p settings (record { input = input; sets = x; steps = m.steps })) none
    ∙ ap (λ (x : ℕ). trace p settings (record { input = input; sets = []; steps = x })) limit

-- what the run of its code asked for, a program asks for
asked_of : (p : Program) (settings : List FirstValue) (given : Given) (code : Listing) (points : ℕ) (read : Bytes) → CodeOf p code → HasAsked code settings given points read → IsAskedFor p settings given points read
asked_of p settings given code points read compiled asked = elim asked [
  | inl nothing ↦ inl nothing
  | inr more ↦ inr (code, compiled, more)
]

-- what a machine that was made of them asked for, the program asks for
asked_for : {S : Type 0} (p : Program) (settings : List FirstValue) (steps : ℕ) (m : Standing S) (input : Input) (points : ℕ) (read : Bytes) → m.settings ≡ settings → m.sets ≡ [] → m.steps ≡ steps → CodeOf p m.code → AskedBy m input points read
    → IsAskedFor p settings (record { input = input; sets = []; steps = steps }) points read
asked_for p settings steps m input points read same none limit compiled asked =
    let given : Given = record { input = input; sets = []; steps = steps } in
    asked_of p settings given m.code points read compiled
    (subst (λ (x : List FirstValue). HasAsked m.code x given points read) same
    (subst (λ (x : List SetAt). HasAsked m.code m.settings (record { input = input; sets = x; steps = steps }) points read) none
    (subst (λ (x : ℕ). HasAsked m.code m.settings (record { input = input; sets = m.sets; steps = x }) points read) limit asked)))

-- a machine that was made of them ran
pub run_is : {S V : Type 0} (may_give : S → Input → Type 0) (over : S → Option Ending) (drawn : S → ℕ) (may_hold : V → Bytes → Type 0) (p : Program) (settings : List FirstValue) (source : S) (steps : ℕ) (m : Standing S) (last : S) (sink now : V) (report : Report)
    → m.settings ≡ settings → m.sets ≡ [] → m.steps ≡ steps → CodeOf p m.code → ((input : Input) → MayCome may_give m [] input → may_give source input) → CountsUp (drawn source) (drawn m.tape.source) (length m.tape.bytes)
    → Runs may_give over drawn may_hold p m last sink now report → IsRun may_give over drawn may_hold p settings source last steps sink now report
run_is may_give over drawn may_hold p settings source steps m last sink now report same none limit compiled may counted runs = record {
  read = runs.read;
  took = record {
    some = runs.took.some;
    given = λ rest comes. may (before runs.read rest) (runs.took.given rest comes);
    asked = λ rest comes. asked_for p settings steps m (before runs.read rest) (points_until report.cause report.point) runs.read same none limit compiled (runs.took.asked rest comes);
    counted = runs.took.counted (drawn source) counted;
    failed = runs.took.failed;
  };
  taken = λ held holds.
      let took = runs.taken held holds in
      (took.0, took.1, λ rest comes. subst (λ (t : Trace). IsRunOf p t report took.0) (trace_is p settings steps m (before runs.read rest) same none limit) (took.2 rest comes));
}

-- memory was refused before a machine of a program stood: what was read of its source
pub unstood_took : {S : Type 0} (may_give : S → Input → Type 0) (over : S → Option Ending) (drawn : S → ℕ) (p : Program) (settings : List FirstValue) (source last : S) (steps : ℕ) (code : Listing)
    → (rest : Input) × may_give last rest → CodeOf p code → Unstood may_give drawn code settings source steps last → IsUnstood may_give over drawn p settings source steps last
unstood_took may_give over drawn p settings source last steps code some compiled unstood = (
  unstood.read,
  record {
    some = some;
    given = unstood.given;
    asked = λ rest comes.
        let given : Given = record { input = before unstood.read rest; sets = []; steps = steps } in
        asked_of p settings given code 1 unstood.read compiled (asked_wider code settings given 0 1 unstood.read (omega arith) (unstood.asked rest comes));
    counted = unstood.counted;
    failed = λ other. absurd (cc other);
  },
)

-- and what is reported
pub unstood_is : {S V : Type 0} (may_give : S → Input → Type 0) (over : S → Option Ending) (drawn : S → ℕ) (may_hold : V → Bytes → Type 0) (p : Program) (settings : List FirstValue) (source last : S) (steps : ℕ) (sink : V) (code : Listing) (report : Report)
    → (rest : Input) × may_give last rest → FirstOutputLaw → CodeOf p code → Unstood may_give drawn code settings source steps last → report ≡ stopped_by (cause.Faulted OutOfMemory) 0 → IsRun may_give over drawn may_hold p settings source last steps sink sink report
unstood_is may_give over drawn may_hold p settings source last steps sink code report some first compiled unstood is =
    let took = unstood_took may_give over drawn p settings source last steps code some compiled unstood in
    subst (λ (r : Report). IsRun may_give over drawn may_hold p settings source last steps sink sink r) (sym is)
    (not_stood may_give over drawn may_hold p settings source last steps sink sink took.0 first refl took.1)

-- nothing ran
pub reported_refused : {S V : Type 0} (may_give : S → Input → Type 0) (over : S → Option Ending) (drawn : S → ℕ) (may_hold : V → Bytes → Type 0) (text : Bytes) (settings : List FirstValue) (source : S) (steps : ℕ) (sink : V) (report : Report)
    → (rest : Input) × may_give source rest → FirstOutputLaw → IsRefused text settings report → Tells may_give over drawn may_hold text settings source source steps sink sink report
reported_refused may_give over drawn may_hold text settings source steps sink _ some first (preparing.text_refused refusal complete) = text_refused refusal complete refl refl
reported_refused may_give over drawn may_hold text settings source steps sink _ some first (preparing.settings_refused p found fits) = settings_refused p found fits refl refl
reported_refused may_give over drawn may_hold text settings source steps sink report some first (preparing.not_compiled p found fits) =
    ran p (stopped_by (cause.Faulted OutOfMemory) 0) found fits
    (not_stood may_give over drawn may_hold p settings source source steps sink sink [] first refl
    (record { some = some; given = λ rest comes. comes; asked = λ rest comes. inl refl; counted = λ small. omega arith; failed = λ other. absurd (cc other) }))

-- no failure of a sink is reported of it
pub refused_writes : (text : Bytes) (settings : List FirstValue) (report : Report) → IsRefused text settings report → write_failures report.cause ≡ 0
refused_writes text settings _ (preparing.text_refused refusal complete) = refl
refused_writes text settings _ (preparing.settings_refused p found fits) = refl
refused_writes text settings _ (preparing.not_compiled p found fits) = refl

-- and no failed read
pub refused_reads : (text : Bytes) (settings : List FirstValue) (report : Report) → IsRefused text settings report → read_failures report.cause ≡ 0
refused_reads text settings _ (preparing.text_refused refusal complete) = refl
refused_reads text settings _ (preparing.settings_refused p found fits) = refl
refused_reads text settings _ (preparing.not_compiled p found fits) = refl

pub unchanged : (a n : ℕ) → n ≡ 0 → a ≡ a + n
unchanged a n none = omega (arith, none)
