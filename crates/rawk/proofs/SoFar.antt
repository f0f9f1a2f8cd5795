-- How a run that is written step by step follows its trace.
use Rattle.std.proofs.Common.{◌≡◌, ℕ, ◌+◌, ◌-◌, ◌<◌, ◌≤◌, List, [], ◌∷◌, ◌++◌, ◌↔◌, length, take, drop, Option, None, Some, arith, refl, sym, ◌∙◌, ap, subst, append_assoc, length-append, add-one}
use Rattle.std.specs.Prelude.{slice_get}
use Rattle.std.proofs.lemmas.Option.{slice_get_past}
use Rattle.std.proofs.lemmas.List.{append-nil, take-append-drop, length-take-le}
use Rattle.rawk_value.specs.Values.{Bytes}
use Rattle.rawk_value.specs.declared.fault.Fault.TheVariants.{ReadFailed, WriteFailed, OutOfMemory}
use Rattle.rawk_devices.specs.Inputs.{Input, CountsUp, before}
use Rattle.rawk_tape.specs.Laws.{before-before}
use Rattle.rawk_tape.specs.Tapes.{TapeState}
use Rattle.rawk_devices.specs.declared.source.Ending.{Ending as End}
use Rattle.rawk_devices.specs.declared.source.Ending.TheVariants.{Failed}
use Rattle.rawk_tree.specs.declared.tree.Program.{Program}
use Rattle.rawk_code.specs.Actions.{Point, Ending, Ended, Faulted, Limited, Given, SetAt}
use Rattle.rawk_code.specs.Laws.{IsBeginning, OutputLaw, OutputGrows, FirstOutputLaw}
use Rattle.rawk_code.specs.Trace.{FirstValue, Trace, trace, out, number, line_at}
use Rattle.rawk_code.specs.Correct.{CodeOf}
use Rattle.rawk_code.specs.Listing.{Listing}
use Rattle.rawk_reading.specs.Drawing.{Draws}
use Rattle.rawk_machine.specs.Asked.{AskedBy, HasAsked, asked_wider}
use Rattle.rawk_machine.specs.declared.step.Step.{Step}
use Rattle.rawk_machine.specs.declared.step.Step.TheVariants as step
use Rattle.rawk_machine.specs.Standing.{Standing, MayCome, IsAt, IsPointOf, IsEndOf, StandsIn, stands_by, given_of, step_of, dropped}
use Rattle.rawk_machine.specs.InTrace.{stands_in_trace}
use Rattle.rawk_machine.specs.Onward.{StepsTo, Passes, GoesOn, BreaksOff}
use Rattle.rawk.specs.declared.report.Report.{Report}
use Rattle.rawk.specs.declared.report.Cause.{Cause}
use Rattle.rawk.specs.declared.report.Cause.TheVariants as cause
use Rattle.rawk.specs.Reports.{stopped_by}
use Rattle.rawk.specs.Runs.{output_or, output_at, output_before, IsRunOf, whole, sink_failed, memory_refused, never_stood, refused_behind, report_of, cause_of, step_report, trace_of, SameRun, HandsOn, IsCut, points_until, TookFrom, Took, Runs, IsRun}

pub SameRun-trans : {S : Type 0} (l m n : Standing S) → SameRun l m → SameRun m n → SameRun l n
SameRun-trans l m n a b = record { code = b.code ∙ a.code; settings = b.settings ∙ a.settings; sets = b.sets ∙ a.sets; steps = b.steps ∙ a.steps }

-- the run so far: each input that may come might have come at first, the machine stands in it, and the sink has taken what was handed on
pub record SoFar {S V : Type 0} (may_give : S → Input → Type 0) (drawn : S → ℕ) (may_hold : V → Bytes → Type 0) (start : Standing S) (sink : V) (machine : Standing S) (now : V) : Type 0 where
  pub same : SameRun start machine
  pub gone : Bytes
  pub handed : Bytes
  pub may : (input : Input) → MayCome may_give machine gone input → MayCome may_give start [] input
  pub stands : (input : Input) → MayCome may_give machine gone input → IsAt machine input gone handed
  pub asked : (input : Input) → MayCome may_give machine gone input → AskedBy machine input machine.point (gone ++ machine.tape.bytes)
  pub counted : (first : ℕ) → CountsUp first (drawn start.tape.source) (length start.tape.bytes) → CountsUp first (drawn machine.tape.source) (length (gone ++ machine.tape.bytes))
  pub behind : (p : Program) (input : Input) → CodeOf p machine.code → MayCome may_give machine gone input → output_before (trace_of p machine input) machine.point ≡ handed
  pub some : (input : Input) × MayCome may_give machine gone input
  pub taken : (held : Bytes) → may_hold sink held → may_hold now (held ++ handed)

-- before the first step
pub begun : {S V : Type 0} (may_give : S → Input → Type 0) (drawn : S → ℕ) (may_hold : V → Bytes → Type 0) (start : Standing S) (sink : V)
    → start.point ≡ 0 → ((input : Input) → MayCome may_give start [] input → IsAt start input [] []) → ((input : Input) → MayCome may_give start [] input → AskedBy start input 0 start.tape.bytes)
    → (input : Input) × MayCome may_give start [] input → SoFar may_give drawn may_hold start sink start sink
begun may_give drawn may_hold start sink fresh stands asked some = record {
  same = record { code = refl; settings = refl; sets = refl; steps = refl };
  gone = [];
  handed = [];
  may = λ input come. come;
  stands = stands;
  asked = λ input come. subst (λ (k : ℕ). AskedBy start input k start.tape.bytes) (sym fresh) (asked input come);
  counted = λ first count. count;
  behind = λ p input compiled come. ap (λ (k : ℕ). output_before (trace_of p start input) k) fresh;
  some = some;
  taken = λ held holds. subst (λ (x : Bytes). may_hold sink x) (sym (append-nil held)) holds;
}

pub none_counted : (a : ℕ) → CountsUp a a 0
none_counted a = omega arith

-- failures of a sink, counted on
pub counted : (a b c m n : ℕ) → CountsUp a b 0 → CountsUp b c m → m ≡ n → CountsUp a c n
counted a b c m n first then same = omega (arith, first, then, same)

-- the output where a machine stands
pub output_here : {S : Type 0} (e : Option Ending) (t : Trace) (machine : Standing S) (handed : Bytes) → stands_by e t machine handed → output_at t machine.point ≡ handed ++ machine.state.output
output_here None t machine handed h = ap (output_or t) h.point ∙ h.output
output_here (Some e) t machine handed h =
    let few : length t.run.points ≤ machine.point = omega (arith, h.number) in
    ap (output_or t) (slice_get_past t.run.points machine.point few) ∙ h.output

-- the output at each point begins that of the whole run
begins_by : (t : Trace) (k : ℕ) (found : Option Point) → slice_get t.run.points k ≡ found → OutputGrows t.run.points (out t) → IsBeginning (output_or t found) (out t)
begins_by t k None is grows = ([], sym (append-nil (out t)))
begins_by t k (Some point) is grows = grows.1 k point is

pub begins : (t : Trace) (k : ℕ) → OutputGrows t.run.points (out t) → IsBeginning (output_at t k) (out t)
begins t k grows = begins_by t k (slice_get t.run.points k) refl grows

-- a part of what begins a list begins it
pub begins_less : (a b c : Bytes) (n : ℕ) → IsBeginning (a ++ b) c → IsBeginning (a ++ take n b) c
begins_less a b c n (rest, is) = (
  drop n b ++ rest,
  is ∙ ap (λ (x : Bytes). (a ++ x) ++ rest) (sym (take-append-drop n b)) ∙ ap (λ (x : Bytes). x ++ rest) (sym (append_assoc a (take n b) (drop n b))) ∙ append_assoc (a ++ take n b) (drop n b) rest,
)

-- the sink fails in the output of a step
pub stopped_inside : {S : Type 0} (p : Program) (t : Trace) (machine : Standing S) (handed : Bytes) (n : ℕ) → OutputGrows t.run.points (out t) → StandsIn t machine handed → output_before t machine.point ≡ handed
    → n < length machine.state.output → IsRunOf p t (stopped_by (cause.Faulted WriteFailed) machine.point) (handed ++ take n machine.state.output)
stopped_inside p t machine handed n grows stands behind less =
    let o : Bytes = machine.state.output in
    let here : output_at t machine.point ≡ handed ++ o = output_here machine.ending t machine handed stands in
    let begun : IsBeginning (handed ++ o) (out t) = subst (λ (x : Bytes). IsBeginning x (out t)) here (begins t machine.point grows) in
    let before : length (output_before t machine.point) ≡ length handed = ap length behind in
    let now : length (output_at t machine.point) ≡ length handed + length o = ap length here ∙ length-append handed o in
    let taken : length (handed ++ take n o) ≡ length handed + length (take n o) = length-append handed (take n o) in
    let part : length (take n o) ≡ n = length-take-le n o (omega arith) in
    sink_failed machine.point (handed ++ take n o) (begins_less handed o (out t) n begun) (omega (arith, before, taken)) (omega (arith, now, taken, part, less))

-- memory is refused behind a point
pub stopped_behind : {S : Type 0} (p : Program) (t : Trace) (machine : Standing S) (handed : Bytes) → OutputGrows t.run.points (out t) → StandsIn t machine handed → machine.ending ≡ None → machine.state.output ≡ []
    → IsRunOf p t (refused_behind p machine.point machine.site) handed
stopped_behind {S} p t machine handed grows stands going none =
    let here : IsPointOf t machine handed = subst (λ (e : Option Ending). stands_by e t machine handed) going stands in
    let same : here.state.output ≡ handed = here.output ∙ ap (λ (x : Bytes). handed ++ x) none ∙ append-nil handed in
    subst (λ (x : Bytes). IsRunOf p t (refused_behind p machine.point machine.site) x) same
    (memory_refused machine.point (record { site = machine.site; state = here.state }) here.point (grows.1 machine.point (record { site = machine.site; state = here.state }) here.point))

-- the report of an ending, with the status and the site there
abbrev report_by : List ℕ → Ending → ℕ → Option ℕ → ℕ → Report
report_by lines e status site point = record { status = elim e as (λ _. ℕ) [ Ended ↦ status | Faulted fault ↦ 2 | Limited at ↦ 2 ]; cause = cause_of e; line = line_at lines site; point = point }

reported_by : (lines : List ℕ) (e : Ending) (status : ℕ) (site : Option ℕ) (point : ℕ) (report : Report) → step_report lines (step_of (Some e) status) site point ≡ Some report → report_by lines e status site point ≡ report
reported_by lines Ended status site point report h = cc
reported_by lines (Faulted fault) status site point report h = cc
reported_by lines (Limited at) status site point report h = cc

report_is : {S : Type 0} (p : Program) (t : Trace) (e : Ending) (machine : Standing S) (handed : Bytes) → IsEndOf t e machine handed → report_of p t ≡ report_by p.lines.items e machine.state.status machine.site machine.point
report_is p t e machine handed h =
    ap (λ (x : Ending). report_by p.lines.items x t.run.state.status (Rattle.rawk_code.specs.Trace.site_at_end t.ending t.run) (number t)) h.ending
    ∙ ap (λ (x : ℕ). report_by p.lines.items e x (Rattle.rawk_code.specs.Trace.site_at_end t.ending t.run) (number t)) h.status
    ∙ ap (λ (x : Option ℕ). report_by p.lines.items e machine.state.status x (number t)) h.site
    ∙ ap (λ (x : ℕ). report_by p.lines.items e machine.state.status machine.site x) h.number

finishes_by : {S : Type 0} (p : Program) (t : Trace) (e : Option Ending) (machine : Standing S) (handed : Bytes) (report : Report) → stands_by e t machine handed → machine.state.output ≡ []
    → step_report p.lines.items (step_of e machine.state.status) machine.site machine.point ≡ Some report → IsRunOf p t report handed
finishes_by p t None machine handed report h none is = cc
finishes_by p t (Some e) machine handed report h none is =
    let same : report_of p t ≡ report = report_is p t e machine handed h ∙ reported_by p.lines.items e machine.state.status machine.site machine.point report is in
    let all : out t ≡ handed = h.output ∙ ap (λ (x : Bytes). handed ++ x) none ∙ append-nil handed in
    subst (λ (x : Report). IsRunOf p t x handed) same (subst (λ (x : Bytes). IsRunOf p t (report_of p t) x) all whole)

-- the end is reported
pub finishes : {S : Type 0} (p : Program) (t : Trace) (machine : Standing S) (handed : Bytes) (report : Report) → StandsIn t machine handed → machine.state.output ≡ []
    → step_report p.lines.items (step_of machine.ending machine.state.status) machine.site machine.point ≡ Some report → IsRunOf p t report handed
finishes p t machine handed report h none is = finishes_by p t machine.ending machine handed report h none is

-- the run so far, with all output handed on
pub record Settled {S V : Type 0} (may_give : S → Input → Type 0) (drawn : S → ℕ) (may_hold : V → Bytes → Type 0) (start : Standing S) (sink : V) (machine : Standing S) (now : V) : Type 0 where
  pub same : SameRun start machine
  pub gone : Bytes
  pub handed : Bytes
  pub may : (input : Input) → MayCome may_give machine gone input → MayCome may_give start [] input
  pub stands : (input : Input) → MayCome may_give machine gone input → IsAt machine input gone handed
  pub asked : (input : Input) → MayCome may_give machine gone input → AskedBy machine input machine.point (gone ++ machine.tape.bytes)
  pub counted : (first : ℕ) → CountsUp first (drawn start.tape.source) (length start.tape.bytes) → CountsUp first (drawn machine.tape.source) (length (gone ++ machine.tape.bytes))
  pub some : (input : Input) × MayCome may_give machine gone input
  pub none : machine.state.output ≡ []
  pub taken : (held : Bytes) → may_hold sink held → may_hold now (held ++ handed)

-- machines of the same run have the same trace
same_trace : {S : Type 0} (p : Program) (m n : Standing S) (input : Input) → SameRun m n → trace_of p n input ≡ trace_of p m input
same_trace p m n input same =
    ap (λ (x : List FirstValue). trace p x (given_of n input)) same.settings
    ∙ ap (λ (x : List SetAt). trace p m.settings (record { input = input; sets = x; steps = n.steps })) same.sets
    ∙ ap (λ (x : ℕ). trace p m.settings (record { input = input; sets = m.sets; steps = x })) same.steps

-- a machine of the run stands in the trace that it began with
in_trace : {S : Type 0} (p : Program) (m n : Standing S) (input : Input) (gone handed : Bytes) → SameRun m n → CodeOf p m.code → IsAt n input gone handed → StandsIn (trace_of p m input) n handed
in_trace p m n input gone handed same compiled stands =
    subst (λ (t : Trace). StandsIn t n handed) (same_trace p m n input same) (stands_in_trace p n input gone handed (subst (λ c. CodeOf p c) (sym same.code) compiled) stands)

-- a machine gives its output, which is written, and lets consumed bytes go
pub hands_on : {S V : Type 0} (may_give : S → Input → Type 0) (may_hold : V → Bytes → Type 0) (old given new : Standing S) (sink now : V) (size : ℕ) (buffer written : Bytes)
    → given ≡ record old { state = record old.state { output = [] } } → buffer ≡ old.state.output → written ≡ buffer → new ≡ dropped size given
    → ((gone : Bytes) (input : Input) → MayCome may_give given gone input ↔ MayCome may_give old gone input)
    → ((input : Input) (gone handed : Bytes) → IsAt old input gone handed → IsAt given input gone (handed ++ buffer))
    → ((gone : Bytes) (input : Input) → MayCome may_give new (gone ++ take size given.tape.bytes) input ↔ MayCome may_give given gone input)
    → ((input : Input) (gone handed : Bytes) → IsAt new input (gone ++ take size given.tape.bytes) handed ↔ IsAt given input gone handed)
    → ((held : Bytes) → may_hold sink held → may_hold now (held ++ written))
    → HandsOn may_give may_hold old sink new now
hands_on {S} may_give may_hold old given new sink now size buffer written rest output bytes after may1 stands1 may2 stands2 wrote = record {
  same = record {
    code = ap (λ (x : Standing S). x.code) after ∙ ap (λ (x : Standing S). x.code) rest;
    settings = ap (λ (x : Standing S). x.settings) after ∙ ap (λ (x : Standing S). x.settings) rest;
    sets = ap (λ (x : Standing S). x.sets) after ∙ ap (λ (x : Standing S). x.sets) rest;
    steps = ap (λ (x : Standing S). x.steps) after ∙ ap (λ (x : Standing S). x.steps) rest;
  };
  point = ap (λ (x : Standing S). x.point) after ∙ ap (λ (x : Standing S). x.point) rest;
  unset = ap (λ (x : Standing S). x.unset) after ∙ ap (λ (x : Standing S). x.unset) rest;
  none = ap (λ (x : Standing S). x.state.output) after ∙ ap (λ (x : Standing S). x.state.output) rest;
  dropped = take size given.tape.bytes;
  bytes = ap (λ (x : Standing S). take size given.tape.bytes ++ x.tape.bytes) after ∙ take-append-drop size given.tape.bytes ∙ ap (λ (x : Standing S). x.tape.bytes) rest;
  back = λ gone input come. (may1 gone input).0 ((may2 gone input).0 come);
  forth = λ gone input come. (may2 gone input).1 ((may1 gone input).1 come);
  stands = λ input gone handed at.
      (stands2 input gone (handed ++ old.state.output)).1 (subst (λ (o : Bytes). IsAt given input gone (handed ++ o)) output (stands1 input gone handed at));
  wrote = λ held holds. subst (λ (o : Bytes). may_hold now (held ++ o)) (bytes ∙ output) (wrote held holds);
}

-- a machine gives its output, which is written
pub hands_given : {S V : Type 0} (may_give : S → Input → Type 0) (may_hold : V → Bytes → Type 0) (old given : Standing S) (sink now : V) (buffer written : Bytes)
    → given ≡ record old { state = record old.state { output = [] } } → buffer ≡ old.state.output → written ≡ buffer
    → ((gone : Bytes) (input : Input) → MayCome may_give given gone input ↔ MayCome may_give old gone input)
    → ((input : Input) (gone handed : Bytes) → IsAt old input gone handed → IsAt given input gone (handed ++ buffer))
    → ((held : Bytes) → may_hold sink held → may_hold now (held ++ written))
    → HandsOn may_give may_hold old sink given now
hands_given {S} may_give may_hold old given sink now buffer written rest output bytes may stands wrote = record {
  same = record {
    code = ap (λ (x : Standing S). x.code) rest;
    settings = ap (λ (x : Standing S). x.settings) rest;
    sets = ap (λ (x : Standing S). x.sets) rest;
    steps = ap (λ (x : Standing S). x.steps) rest;
  };
  point = ap (λ (x : Standing S). x.point) rest;
  unset = ap (λ (x : Standing S). x.unset) rest;
  none = ap (λ (x : Standing S). x.state.output) rest;
  dropped = [];
  bytes = ap (λ (x : Standing S). x.tape.bytes) rest;
  back = λ gone input come. (may gone input).0 (subst (λ (b : Bytes). MayCome may_give given b input) (append-nil gone) come);
  forth = λ gone input come. subst (λ (b : Bytes). MayCome may_give given b input) (sym (append-nil gone)) ((may gone input).1 come);
  stands = λ input gone handed at.
      subst (λ (b : Bytes). IsAt given input b (handed ++ old.state.output)) (sym (append-nil gone)) (subst (λ (o : Bytes). IsAt given input gone (handed ++ o)) output (stands input gone handed at));
  wrote = λ held holds. subst (λ (o : Bytes). may_hold now (held ++ o)) (bytes ∙ output) (wrote held holds);
}

-- nothing is given, where there is no output
pub hands_nothing : {S V : Type 0} (may_give : S → Input → Type 0) (may_hold : V → Bytes → Type 0) (machine : Standing S) (sink : V) → machine.state.output ≡ [] → HandsOn may_give may_hold machine sink machine sink
hands_nothing may_give may_hold machine sink none =
    let all = λ (b : Bytes). ap (λ (o : Bytes). b ++ o) none ∙ append-nil b in
    record {
      same = record { code = refl; settings = refl; sets = refl; steps = refl };
      point = refl;
      unset = refl;
      none = none;
      dropped = [];
      bytes = refl;
      back = λ gone input come. subst (λ (b : Bytes). MayCome may_give machine b input) (append-nil gone) come;
      forth = λ gone input come. subst (λ (b : Bytes). MayCome may_give machine b input) (sym (append-nil gone)) come;
      stands = λ input gone handed at.
          subst (λ (b : Bytes). IsAt machine input b (handed ++ machine.state.output)) (sym (append-nil gone)) (subst (λ (b : Bytes). IsAt machine input gone b) (sym (all handed)) at);
      wrote = λ held holds. subst (λ (b : Bytes). may_hold sink b) (sym (all held)) holds;
    }

-- it is written in part
pub cut_in : {V : Type 0} (may_hold : V → Bytes → Type 0) (text written : Bytes) (sink now : V) → written ≡ text → IsCut may_hold written sink now → IsCut may_hold text sink now
cut_in may_hold text written sink now same cut = subst (λ (b : Bytes). IsCut may_hold b sink now) same cut

-- machines of the same run have asked for the same
asked_same : {S : Type 0} (m n : Standing S) (input : Input) (points : ℕ) (read : Bytes) → SameRun m n → AskedBy m input points read → AskedBy n input points read
asked_same m n input points read same asked =
    subst (λ (c : Listing). HasAsked c n.settings (given_of n input) points read) (sym same.code)
    (subst (λ (x : List FirstValue). HasAsked m.code x (given_of n input) points read) (sym same.settings)
    (subst (λ (x : List SetAt). HasAsked m.code m.settings (record { input = input; sets = x; steps = n.steps }) points read) (sym same.sets)
    (subst (λ (x : ℕ). HasAsked m.code m.settings (record { input = input; sets = m.sets; steps = x }) points read) (sym same.steps) asked)))

-- the point of a report, and one more where memory was refused
least_points : (c : Cause) (point : ℕ) → point ≤ points_until c point
least_points (cause.Faulted OutOfMemory) point = omega arith
least_points other point = omega arith

SameRun-sym : {S : Type 0} (m n : Standing S) → SameRun m n → SameRun n m
SameRun-sym m n same = record { code = sym same.code; settings = sym same.settings; sets = sym same.sets; steps = sym same.steps }

-- what a machine's source may still give may come behind all that was read
comes_behind : {S : Type 0} (may_give : S → Input → Type 0) (m : Standing S) (gone : Bytes) (rest : Input) → may_give m.tape.source rest → MayCome may_give m gone (before (gone ++ m.tape.bytes) rest)
comes_behind may_give m gone rest comes = record {
  kept = before m.tape.bytes rest;
  may = record { rest = rest; comes = comes; whole = refl };
  whole = sym (before-before gone m.tape.bytes rest);
}

-- what was taken of the source
took_from : {S : Type 0} (may_give : S → Input → Type 0) (over : S → Option End) (drawn : S → ℕ) (start : Standing S) (report : Report) (m : Standing S) (gone : Bytes) (points : ℕ) → SameRun start m → points ≤ points_until report.cause report.point
    → ((input : Input) → MayCome may_give m gone input → MayCome may_give start [] input)
    → ((input : Input) → MayCome may_give m gone input → AskedBy m input points (gone ++ m.tape.bytes))
    → ((first : ℕ) → CountsUp first (drawn start.tape.source) (length start.tape.bytes) → CountsUp first (drawn m.tape.source) (length (gone ++ m.tape.bytes)))
    → (input : Input) × MayCome may_give m gone input → (report.cause ≡ cause.Faulted ReadFailed → over m.tape.source ≡ Some Failed)
    → TookFrom may_give over drawn start report m.tape.source (gone ++ m.tape.bytes)
took_from may_give over drawn start report m gone points same low may asked count some failed = record {
  some = (some.1.may.rest, some.1.may.comes);
  given = λ rest comes. may (before (gone ++ m.tape.bytes) rest) (comes_behind may_give m gone rest comes);
  asked = λ rest comes.
      let input = before (gone ++ m.tape.bytes) rest in
      let most = points_until report.cause report.point in
      asked_wider start.code start.settings (given_of start input) points most (gone ++ m.tape.bytes) low
      (asked_same m start input points (gone ++ m.tape.bytes) (SameRun-sym start m same) (asked input (comes_behind may_give m gone rest comes)));
  counted = count;
  failed = failed;
}

-- bytes that were read since count too
counted_on : {S : Type 0} (over : S → Option End) (drawn : S → ℕ) (gone : Bytes) (old new : TapeState S) (first : ℕ) → Draws over drawn old new → CountsUp first (drawn old.source) (length (gone ++ old.bytes)) → CountsUp first (drawn new.source) (length (gone ++ new.bytes))
counted_on over drawn gone old new first draws count = λ small.
    let a : length (gone ++ old.bytes) ≡ length gone + length old.bytes = length-append gone old.bytes in
    let b : length (gone ++ new.bytes) ≡ length gone + length new.bytes = length-append gone new.bytes in
    let f : drawn old.source ≡ first + length (gone ++ old.bytes) = count (omega (arith, small, a, b, draws.longer)) in
    let s : drawn new.source ≡ drawn old.source + (length new.bytes - length old.bytes) = draws.counted (omega (arith, small, a, b, f, draws.longer)) in
    omega (arith, a, b, f, s, draws.longer)

-- the output of a step is taken
pub settled : {S V : Type 0} (may_give : S → Input → Type 0) (drawn : S → ℕ) (may_hold : V → Bytes → Type 0) (start : Standing S) (sink : V) (m n : Standing S) (now now2 : V) → SoFar may_give drawn may_hold start sink m now → HandsOn may_give may_hold m now n now2 → n.tape.source ≡ m.tape.source
    → Settled may_give drawn may_hold start sink n now2
settled {S} may_give drawn may_hold start sink m n now now2 so on source =
    let whole : so.gone ++ m.tape.bytes ≡ (so.gone ++ on.dropped) ++ n.tape.bytes = sym (append_assoc so.gone on.dropped n.tape.bytes ∙ ap (λ (b : Bytes). so.gone ++ b) on.bytes) in
    record {
      same = SameRun-trans start m n so.same on.same;
      gone = so.gone ++ on.dropped;
      handed = so.handed ++ m.state.output;
      may = λ input comes. so.may input (on.back so.gone input comes);
      stands = λ input comes. on.stands input so.gone so.handed (so.stands input (on.back so.gone input comes));
      asked = λ input comes. subst (λ (k : ℕ). AskedBy n input k ((so.gone ++ on.dropped) ++ n.tape.bytes)) (sym on.point)
          (subst (λ (b : Bytes). AskedBy n input m.point b) whole (asked_same m n input m.point (so.gone ++ m.tape.bytes) on.same (so.asked input (on.back so.gone input comes))));
      counted = λ first count.
          subst (λ (s : S). CountsUp first (drawn s) (length ((so.gone ++ on.dropped) ++ n.tape.bytes))) (sym source)
          (subst (λ (b : Bytes). CountsUp first (drawn m.tape.source) (length b)) whole (so.counted first count));
      some = (so.some.0, on.forth so.gone so.some.0 so.some.1);
      none = on.none;
      taken = λ held holds. subst (λ (x : Bytes). may_hold now2 x) (append_assoc held so.handed m.state.output) (on.wrote (held ++ so.handed) (so.taken held holds));
    }

-- one step on
advanced : {S V : Type 0} (may_give : S → Input → Type 0) (over : S → Option End) (drawn : S → ℕ) (may_hold : V → Bytes → Type 0) (start : Standing S) (sink : V) (m n : Standing S) (now : V) → Settled may_give drawn may_hold start sink m now
    → SameRun m n → n.point ≡ m.point + 1
    → ((gone : Bytes) (input : Input) → MayCome may_give n gone input → MayCome may_give m gone input)
    → ((gone : Bytes) → (input : Input) × MayCome may_give n gone input)
    → ((input : Input) (gone handed : Bytes) → MayCome may_give n gone input → IsAt m input gone handed → IsAt n input gone handed)
    → ((input : Input) (gone handed : Bytes) → MayCome may_give n gone input → IsAt m input gone handed → AskedBy m input m.point (gone ++ m.tape.bytes) → AskedBy n input (m.point + 1) (gone ++ n.tape.bytes))
    → Draws over drawn m.tape n.tape
    → SoFar may_give drawn may_hold start sink n now
advanced may_give over drawn may_hold start sink m n now so same point may still stands asks draws = record {
  same = SameRun-trans start m n so.same same;
  gone = so.gone;
  handed = so.handed;
  may = λ input comes. so.may input (may so.gone input comes);
  stands = λ input comes. stands input so.gone so.handed comes (so.stands input (may so.gone input comes));
  asked = λ input comes.
      let before_it = may so.gone input comes in
      subst (λ (k : ℕ). AskedBy n input k (so.gone ++ n.tape.bytes)) (sym point) (asks input so.gone so.handed comes (so.stands input before_it) (so.asked input before_it));
  counted = λ first count. counted_on over drawn so.gone m.tape n.tape first draws (so.counted first count);
  behind = λ p input compiled comes.
      let stood : StandsIn (trace_of p m input) m so.handed = stands_in_trace p m input so.gone so.handed (subst (λ c. CodeOf p c) same.code compiled) (so.stands input (may so.gone input comes)) in
      let here : output_at (trace_of p m input) m.point ≡ so.handed = output_here m.ending (trace_of p m input) m so.handed stood ∙ ap (λ (x : Bytes). so.handed ++ x) so.none ∙ append-nil so.handed in
      ap (λ (t : Trace). output_before t n.point) (same_trace p m n input same) ∙ ap (λ (k : ℕ). output_before (trace_of p m input) k) (point ∙ add-one m.point) ∙ here;
  some = still so.gone;
  taken = so.taken;
}

stepped : {S V : Type 0} (may_give : S → Input → Type 0) (over : S → Option End) (drawn : S → ℕ) (may_hold : V → Bytes → Type 0) (start : Standing S) (sink : V) (m n : Standing S) (now : V) → Settled may_give drawn may_hold start sink m now → StepsTo may_give over drawn m n
    → SoFar may_give drawn may_hold start sink n now
stepped may_give over drawn may_hold start sink m n now so to =
    let step = to.step in
    advanced may_give over drawn may_hold start sink m n now so (record { code = step.code; settings = step.settings; sets = step.sets; steps = step.steps }) to.point step.may step.still to.stands step.asks step.draws

same_report : (r report : Report) → Some r ≡ Some report → r ≡ report
same_report r report is = cc

-- the point that is reported
point_reported : (lines : List ℕ) (step : Step) (site : Option ℕ) (point : ℕ) (report : Report) → step_report lines step site point ≡ Some report → report.point ≡ point
point_reported lines step.At site point report is = absurd (cc is)
point_reported lines (step.Ended status) site point report is = let r = same_report _ report is in sym (ap (λ (x : Report). x.point) r)
point_reported lines (step.Faulted fault) site point report is = let r = same_report _ report is in sym (ap (λ (x : Report). x.point) r)

-- the run is over
pub ended : {S V : Type 0} (may_give : S → Input → Type 0) (over : S → Option End) (drawn : S → ℕ) (may_hold : V → Bytes → Type 0) (p : Program) (start : Standing S) (sink : V) (m : Standing S) (now : V) (report : Report) → Settled may_give drawn may_hold start sink m now
    → CodeOf p start.code → (report.cause ≡ cause.Faulted ReadFailed → over m.tape.source ≡ Some Failed) → Some report ≡ step_report p.lines.items (step_of m.ending m.state.status) m.site m.point
    → Runs may_give over drawn may_hold p start m.tape.source sink now report
ended may_give over drawn may_hold p start sink m now report so compiled failed is = record {
  read = so.gone ++ m.tape.bytes;
  took = took_from may_give over drawn start report m so.gone m.point so.same (subst (λ (k : ℕ). k ≤ points_until report.cause report.point) (point_reported p.lines.items (step_of m.ending m.state.status) m.site m.point report (sym is)) (least_points report.cause report.point)) so.may so.asked so.counted so.some failed;
  taken = λ held holds. (
    so.handed,
    so.taken held holds,
    λ rest comes.
        let input = before (so.gone ++ m.tape.bytes) rest in
        finishes p (trace_of p start input) m so.handed report (in_trace p start m input so.gone so.handed so.same compiled (so.stands input (comes_behind may_give m so.gone rest comes))) so.none (sym is),
  );
}

-- the sink fails
pub not_written : {S V : Type 0} (may_give : S → Input → Type 0) (over : S → Option End) (drawn : S → ℕ) (may_hold : V → Bytes → Type 0) (p : Program) (start : Standing S) (sink : V) (m : Standing S) (now now2 : V) (report : Report) → SoFar may_give drawn may_hold start sink m now
    → OutputLaw → CodeOf p start.code → IsCut may_hold m.state.output now now2 → stopped_by (cause.Faulted WriteFailed) m.point ≡ report
    → Runs may_give over drawn may_hold p start m.tape.source sink now2 report
not_written may_give over drawn may_hold p start sink m now now2 report so law compiled failed is = record {
  read = so.gone ++ m.tape.bytes;
  took = took_from may_give over drawn start report m so.gone m.point so.same (subst (λ (r : Report). m.point ≤ points_until r.cause r.point) is (omega arith)) so.may so.asked so.counted so.some (λ faulted. let other = ap (λ (r : Report). r.cause) is ∙ faulted in absurd (cc other));
  taken = λ held holds.
      let part = failed (held ++ so.handed) (so.taken held holds) in (
        so.handed ++ take part.0 m.state.output,
        subst (λ (x : Bytes). may_hold now2 x) (append_assoc held so.handed (take part.0 m.state.output)) part.2,
        λ rest comes.
            let input = before (so.gone ++ m.tape.bytes) rest in
            let t : Trace = trace_of p start input in
            let come = comes_behind may_give m so.gone rest comes in
            let stood : StandsIn t m so.handed = in_trace p start m input so.gone so.handed so.same compiled (so.stands input come) in
            let behind : output_before t m.point ≡ so.handed =
            ap (λ (u : Trace). output_before u m.point) (sym (same_trace p start m input so.same)) ∙ so.behind p input (subst (λ c. CodeOf p c) (sym so.same.code) compiled) come in
            subst (λ (r : Report). IsRunOf p t r (so.handed ++ take part.0 m.state.output)) is (stopped_inside p t m so.handed part.0 (law p start.settings (given_of start input)) stood behind part.1),
      );
}

-- memory is refused in a step from a point
refused : {S V : Type 0} (may_give : S → Input → Type 0) (over : S → Option End) (drawn : S → ℕ) (may_hold : V → Bytes → Type 0) (p : Program) (start : Standing S) (sink : V) (m n : Standing S) (now : V) (report : Report) → Settled may_give drawn may_hold start sink m now
    → OutputLaw → CodeOf p start.code → SameRun m n → m.ending ≡ None
    → ((gone : Bytes) (input : Input) → MayCome may_give n gone input → MayCome may_give m gone input)
    → ((gone : Bytes) → (input : Input) × MayCome may_give n gone input)
    → ((input : Input) (gone handed : Bytes) → MayCome may_give n gone input → IsAt m input gone handed → AskedBy m input m.point (gone ++ m.tape.bytes) → AskedBy n input (m.point + 1) (gone ++ n.tape.bytes))
    → Draws over drawn m.tape n.tape
    → refused_behind p m.point m.site ≡ report
    → Runs may_give over drawn may_hold p start n.tape.source sink now report
refused may_give over drawn may_hold p start sink m n now report so law compiled same going may still asks draws is =
    let all = SameRun-trans start m n so.same same in
    record {
      read = so.gone ++ n.tape.bytes;
      took = took_from may_give over drawn start report n so.gone (m.point + 1) all (subst (λ (r : Report). m.point + 1 ≤ points_until r.cause r.point) is (omega arith)) (λ input comes. so.may input (may so.gone input comes))
          (λ input comes. let before_it = may so.gone input comes in asks input so.gone so.handed comes (so.stands input before_it) (so.asked input before_it))
          (λ first count. counted_on over drawn so.gone m.tape n.tape first draws (so.counted first count)) (still so.gone) (λ faulted. let other = ap (λ (r : Report). r.cause) is ∙ faulted in absurd (cc other));
      taken = λ held holds. (
        so.handed,
        so.taken held holds,
        λ rest comes.
            let input = before (so.gone ++ n.tape.bytes) rest in
            let come = may so.gone input (comes_behind may_give n so.gone rest comes) in
            let stood : StandsIn (trace_of p start input) m so.handed = in_trace p start m input so.gone so.handed so.same compiled (so.stands input come) in
            subst (λ (r : Report). IsRunOf p (trace_of p start input) r so.handed) is
            (stopped_behind p (trace_of p start input) m so.handed (law p start.settings (given_of start input)) stood going so.none),
      );
    }

-- where nothing is reported the machine goes on
pub goes_on : (lines : List ℕ) (e : Option Ending) (status : ℕ) (site : Option ℕ) (point : ℕ) → None ≡ step_report lines (step_of e status) site point → e ≡ None
goes_on lines None status site point is = refl
goes_on lines (Some Ended) status site point is = absurd (cc is)
goes_on lines (Some (Faulted fault)) status site point is = absurd (cc is)
goes_on lines (Some (Limited at)) status site point is = absurd (cc is)

-- a run at a point, of which the sink has taken all output and has not failed; the step before led it there
pub record Paused {S V : Type 0} (may_give : S → Input → Type 0) (drawn : S → ℕ) (may_hold : V → Bytes → Type 0) (failed : V → ℕ) (start : Standing S) (sink : V) (before machine : Standing S) (now : V) : Type 0 where
  pub settled : Settled may_give drawn may_hold start sink machine now
  pub going : machine.ending ≡ None
  pub point : machine.point ≡ before.point
  pub steps : machine.steps ≡ before.steps
  pub failures : CountsUp (failed sink) (failed now) 0

-- its output was handed on, and it is not at its ending
pub paused_on : {S V : Type 0} (may_give : S → Input → Type 0) (drawn : S → ℕ) (may_hold : V → Bytes → Type 0) (failed : V → ℕ) (start : Standing S) (sink : V) (m n : Standing S) (now now2 : V) (lines : List ℕ)
    → SoFar may_give drawn may_hold start sink m now → CountsUp (failed sink) (failed now) 0 → HandsOn may_give may_hold m now n now2 → n.tape.source ≡ m.tape.source → CountsUp (failed now) (failed now2) 0
    → None ≡ step_report lines (step_of n.ending n.state.status) n.site n.point → Paused may_give drawn may_hold failed start sink m n now2
paused_on may_give drawn may_hold failed start sink m n now now2 lines so none on source more goes = record {
  settled = settled may_give drawn may_hold start sink m n now now2 so on source;
  going = goes_on lines n.ending n.state.status n.site n.point goes;
  point = on.point;
  steps = on.same.steps;
  failures = counted (failed sink) (failed now) (failed now2) 0 0 none more refl;
}

-- over points where there is no output
passed_on : {S V : Type 0} (may_give : S → Input → Type 0) (over : S → Option End) (drawn : S → ℕ) (may_hold : V → Bytes → Type 0) (start : Standing S) (sink : V) (m last : Standing S) (now : V) (passed : List (Standing S)) → Settled may_give drawn may_hold start sink m now → m.ending ≡ None
    → Passes may_give over drawn passed m last → Settled may_give drawn may_hold start sink last now × (last.ending ≡ None) × (last.steps ≡ m.steps) × (m.point ≤ last.point)
passed_on {S} may_give over drawn may_hold start sink m last now [] so going same =
    subst (λ (x : Standing S). Settled may_give drawn may_hold start sink x now × (x.ending ≡ None) × (x.steps ≡ m.steps) × (m.point ≤ x.point)) (sym same) (so, going, refl, omega arith)
passed_on {S} may_give over drawn may_hold start sink m last now (n ∷ ns) so going (same, before, passes, to, goes, none) =
    let p = passed_on may_give over drawn may_hold start sink m before now ns so going passes in
    let at : Settled may_give drawn may_hold start sink n now = settled may_give drawn may_hold start sink n n now now (stepped may_give over drawn may_hold start sink before n now p.0 to) (hands_nothing may_give may_hold n now none) refl in
    subst (λ (x : Standing S). Settled may_give drawn may_hold start sink x now × (x.ending ≡ None) × (x.steps ≡ m.steps) × (m.point ≤ x.point)) (sym same) (at, goes, to.step.steps ∙ p.2, omega (arith, to.point, p.3))

-- a run that went on, and how many steps are left to it
pub went_on : {S V : Type 0} (may_give : S → Input → Type 0) (over : S → Option End) (drawn : S → ℕ) (may_hold : V → Bytes → Type 0) (failed : V → ℕ) (start : Standing S) (sink : V) (m n r : Standing S) (now : V) → Paused may_give drawn may_hold failed start sink m n now
    → GoesOn may_give over drawn n r → SoFar may_give drawn may_hold start sink r now × (r.point ≤ r.steps → r.steps - r.point < m.steps - m.point)
went_on may_give over drawn may_hold failed start sink m n r now p on =
    let at = passed_on may_give over drawn may_hold start sink n on.last now on.passed p.settled p.going on.passes in (
      stepped may_give over drawn may_hold start sink on.last r now at.0 on.step,
      λ within. omega (arith, within, p.steps, p.point, at.2, at.3, on.step.step.steps, on.step.point),
    )

-- a run that was refused memory
pub broke_off : {S V : Type 0} (may_give : S → Input → Type 0) (over : S → Option End) (drawn : S → ℕ) (may_hold : V → Bytes → Type 0) (failed : V → ℕ) (p : Program) (start : Standing S) (sink : V) (m n r : Standing S) (now : V) (report : Report) → Paused may_give drawn may_hold failed start sink m n now
    → OutputLaw → CodeOf p start.code → BreaksOff may_give over drawn n r → refused_behind p r.point r.site ≡ report → Runs may_give over drawn may_hold p start r.tape.source sink now report
broke_off may_give over drawn may_hold failed p start sink m n r now report paused law compiled off is =
    let at = passed_on may_give over drawn may_hold start sink n off.last now off.passed paused.settled paused.going off.passes in
    let step = off.step in
    refused may_give over drawn may_hold p start sink off.last r now report at.0 law compiled (record { code = step.code; settings = step.settings; sets = step.sets; steps = step.steps }) at.1 step.may step.still step.asks step.draws
    (ap (λ (k : ℕ). refused_behind p k off.last.site) (sym off.point) ∙ ap (λ (s : Option ℕ). refused_behind p r.point s) (sym off.site) ∙ is)

-- nothing is written before point 0
first_by : (t : Trace) (found : Option Point) → slice_get t.run.points 0 ≡ found → ((a : Point) → slice_get t.run.points 0 ≡ Some a → a.state.output ≡ []) → (t.run.points ≡ [] → out t ≡ []) → output_or t found ≡ []
first_by t None is some none = none (no_points t.run.points is)
  where
    no_points : (points : List Point) → slice_get points 0 ≡ None → points ≡ []
    no_points [] h = refl
    no_points (x ∷ xs) h = cc
first_by t (Some point) is some none = some point is

-- memory is refused before the machine stands
pub not_stood : {S V : Type 0} (may_give : S → Input → Type 0) (over : S → Option End) (drawn : S → ℕ) (may_hold : V → Bytes → Type 0) (p : Program) (settings : List FirstValue) (source last : S) (steps : ℕ) (sink now : V) (read : Bytes)
    → FirstOutputLaw → now ≡ sink → Took may_give over drawn p settings source steps (stopped_by (cause.Faulted OutOfMemory) 0) last read → IsRun may_give over drawn may_hold p settings source last steps sink now (stopped_by (cause.Faulted OutOfMemory) 0)
not_stood may_give over drawn may_hold p settings source last steps sink now read first same took = record {
  read = read;
  took = took;
  taken = λ held holds. (
    [],
    subst (λ (x : Bytes). may_hold now x) (sym (append-nil held)) (subst (λ v. may_hold v held) (sym same) holds),
    λ rest comes.
        let given : Given = record { input = before read rest; sets = []; steps = steps } in
        let t : Trace = trace p settings given in
        never_stood (first_by t (slice_get t.run.points 0) refl (first p settings given).0 (first p settings given).1),
  );
}
