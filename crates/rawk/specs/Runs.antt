-- What a report says of a run.
use Rattle.std.specs.Prelude.{◌≡◌, ℕ, ◌+◌, zero, suc, ◌<◌, ◌≤◌, ◌++◌, List, [], length, take, Option, None, Some, slice_get}
use Rattle.rawk_value.specs.Values.{Bytes}
use Rattle.rawk_value.specs.declared.fault.Fault.TheVariants.{StepLimit, ReadFailed, WriteFailed, OutOfMemory}
use Rattle.rawk_tree.specs.declared.tree.Program.{Program}
use Rattle.rawk_code.specs.Actions.{Point, Ending, Ended, Faulted, Limited}
use Rattle.rawk_code.specs.Laws.{IsBeginning}
use Rattle.rawk_code.specs.Trace.{FirstValue, Trace, trace, out, number, status, line_of, line_at}
use Rattle.rawk_devices.specs.Inputs.{Input, CountsUp, before}
use Rattle.rawk_devices.specs.declared.source.Ending.{Ending as End}
use Rattle.rawk_devices.specs.declared.source.Ending.TheVariants.{Failed}
use Rattle.rawk_machine.specs.Standing.{Standing, MayCome, IsAt, given_of}
use Rattle.rawk_machine.specs.Asked.{AskedBy, IsAskedFor}
use Rattle.rawk_machine.specs.declared.step.Step.{Step}
use Rattle.rawk_machine.specs.declared.step.Step.TheVariants as step
use Rattle.rawk.specs.declared.report.Report.{Report}
use Rattle.rawk.specs.declared.report.Cause.{Cause}
use Rattle.rawk.specs.declared.report.Cause.TheVariants as cause
use Rattle.rawk.specs.Reports.{stopped_by}

-- the limit is a fault of its own
abbrev pub cause_of : Ending → Cause
cause_of Ended = cause.Ended
cause_of (Faulted fault) = cause.Faulted fault
cause_of (Limited site) = cause.Faulted StepLimit

-- the report of a run that nothing outside disturbed
abbrev pub report_of : Program → Trace → Report
report_of p t = record { status = status t; cause = cause_of t.ending; line = line_of p t; point = number t }

-- what is reported where a machine answers this step at a site: nothing where it goes on
abbrev pub step_report : List ℕ → Step → Option ℕ → ℕ → Option Report
step_report lines step.At site point = None
step_report lines (step.Ended status) site point = Some (record { status = status; cause = cause.Ended; line = line_at lines site; point = point })
step_report lines (step.Faulted fault) site point = Some (record { status = 2; cause = cause.Faulted fault; line = line_at lines site; point = point })

-- the report of a run that was refused memory behind a point with this site
abbrev pub refused_behind : Program → ℕ → Option ℕ → Report
refused_behind p point site = record { status = 2; cause = cause.Faulted OutOfMemory; line = line_at p.lines.items site; point = point }

-- the output at a point of the state
abbrev pub output_or : Trace → Option Point → Bytes
output_or t None = out t
output_or t (Some point) = point.state.output

-- the output at point k, or at the ending
abbrev pub output_at : Trace → ℕ → Bytes
output_at t k = output_or t (slice_get t.run.points k)

-- the output at the point before
abbrev pub output_before : Trace → ℕ → Bytes
output_before t zero = []
output_before t (suc k) = output_at t k

-- a run of this trace, of which the sink took these bytes and of which this is reported
pub data IsRunOf (p : Program) (t : Trace) : Report → Bytes → Type 0 where
  -- nothing disturbed it: all of its output was taken
  whole : IsRunOf p t (report_of p t) (out t)
  -- the sink failed in the output of the step that led to point k: it took all of the output before, and less than all of that at k
  sink_failed : (k : ℕ) (taken : Bytes) → IsBeginning taken (out t) → length (output_before t k) ≤ length taken → length taken < length (output_at t k) → IsRunOf p t (stopped_by (cause.Faulted WriteFailed) k) taken
  -- memory was refused in the step behind point k, which has this line: the output up to there was taken
  memory_refused : (k : ℕ) (point : Point) → slice_get t.run.points k ≡ Some point → IsBeginning point.state.output (out t) → IsRunOf p t (refused_behind p k point.site) point.state.output
  -- memory was refused before point 0, where nothing is written yet
  never_stood : output_at t 0 ≡ [] → IsRunOf p t (stopped_by (cause.Faulted OutOfMemory) 0) []

-- the trace that a machine runs on an input
abbrev pub trace_of : {S : Type 0} → Program → Standing S → Input → Trace
trace_of p machine input = trace p machine.settings (given_of machine input)

-- how many points at most were reached before the last that a report tells of: memory was refused behind its point
abbrev pub points_until : Cause → ℕ → ℕ
points_until (cause.Faulted OutOfMemory) point = point + 1
points_until other point = point

-- what a run from where a machine stands took of its source: the source as it was left, and all bytes read so far
pub record TookFrom {S : Type 0} (may_give : S → Input → Type 0) (over : S → Option End) (handed : S → ℕ) (start : Standing S) (report : Report) (last : S) (read : Bytes) : Type 0 where
  pub some : (rest : Input) × may_give last rest
  pub given : (rest : Input) → may_give last rest → MayCome may_give start [] (before read rest)
  pub asked : (rest : Input) → may_give last rest → AskedBy start (before read rest) (points_until report.cause report.point) read
  pub counted : (first : ℕ) → CountsUp first (handed start.tape.source) (length start.tape.bytes) → CountsUp first (handed last) (length read)
  pub failed : report.cause ≡ cause.Faulted ReadFailed → over last ≡ Some Failed

-- a report, and what a sink took, are those of a run of this program from where a machine stands, whatever may still come of its source as it is left
pub record Runs {S V : Type 0} (may_give : S → Input → Type 0) (over : S → Option End) (handed : S → ℕ) (may_hold : V → Bytes → Type 0) (p : Program) (start : Standing S) (last : S) (sink now : V) (report : Report) : Type 0 where
  pub read : Bytes
  pub took : TookFrom may_give over handed start report last read
  pub taken : (held : Bytes) → may_hold sink held → (taken : Bytes) × may_hold now (held ++ taken) × ((rest : Input) → may_give last rest → IsRunOf p (trace_of p start (before read rest)) report taken)

-- what a run takes of a source: this is read of it, and so it is left. Up to where the report stands the run asked for all that was read, whatever may still come, and a failed read is reported where the source has failed.
pub record Took {S : Type 0} (may_give : S → Input → Type 0) (over : S → Option End) (handed : S → ℕ) (p : Program) (settings : List FirstValue) (source : S) (steps : ℕ) (report : Report) (last : S) (read : Bytes) : Type 0 where
  pub some : (rest : Input) × may_give last rest
  pub given : (rest : Input) → may_give last rest → may_give source (before read rest)
  pub asked : (rest : Input) → may_give last rest → IsAskedFor p settings (record { input = before read rest; sets = []; steps = steps }) (points_until report.cause report.point) read
  pub counted : CountsUp (handed source) (handed last) (length read)
  pub failed : report.cause ≡ cause.Faulted ReadFailed → over last ≡ Some Failed

-- A program ran on what a source gives, with these first values and at most `steps` steps, and so the source was left:
-- what was read of it settles what is reported and what the sink took, whatever may still come.
pub record IsRun {S V : Type 0} (may_give : S → Input → Type 0) (over : S → Option End) (handed : S → ℕ) (may_hold : V → Bytes → Type 0) (p : Program) (settings : List FirstValue) (source last : S) (steps : ℕ) (sink now : V) (report : Report) : Type 0 where
  pub read : Bytes
  pub took : Took may_give over handed p settings source steps report last read
  pub taken : (held : Bytes) → may_hold sink held → (taken : Bytes) × may_hold now (held ++ taken)
      × ((rest : Input) → may_give last rest → IsRunOf p (trace p settings (record { input = before read rest; sets = []; steps = steps })) report taken)

-- a machine runs the same code, with the same first values, sets and limit
pub record SameRun {S : Type 0} (old new : Standing S) : Type 0 where
  pub code : new.code ≡ old.code
  pub settings : new.settings ≡ old.settings
  pub sets : new.sets ≡ old.sets
  pub steps : new.steps ≡ old.steps

-- a machine gave its output, which the sink took, and let go what it needs no more of the input
pub record HandsOn {S V : Type 0} (may_give : S → Input → Type 0) (may_hold : V → Bytes → Type 0) (old : Standing S) (sink : V) (new : Standing S) (now : V) : Type 0 where
  pub same : SameRun old new
  pub point : new.point ≡ old.point
  pub unset : new.unset ≡ old.unset
  pub none : new.state.output ≡ []
  pub dropped : Bytes
  pub bytes : dropped ++ new.tape.bytes ≡ old.tape.bytes
  pub back : (gone : Bytes) (input : Input) → MayCome may_give new (gone ++ dropped) input → MayCome may_give old gone input
  pub forth : (gone : Bytes) (input : Input) → MayCome may_give old gone input → MayCome may_give new (gone ++ dropped) input
  pub stands : (input : Input) (gone handed : Bytes) → IsAt old input gone handed → IsAt new input (gone ++ dropped) (handed ++ old.state.output)
  pub wrote : (held : Bytes) → may_hold sink held → may_hold now (held ++ old.state.output)

-- the sink failed and took less than all of a text
abbrev pub IsCut : {V : Type 0} → (V → Bytes → Type 0) → Bytes → V → V → Type 0
IsCut may_hold text sink now = (held : Bytes) → may_hold sink held → (size : ℕ) × (size < length text) × may_hold now (held ++ take size text)
