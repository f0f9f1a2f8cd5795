-- Reports where a run or a session was not let to its end, or not begun.
use Rattle.std.specs.Prelude.{ℕ}
use Rattle.rawk_value.specs.declared.fault.Fault.TheVariants.{ReadFailed, WriteFailed}
use Rattle.rawk_parsing.specs.declared.refusal.Refusal.{Refusal}
use Rattle.rawk.specs.declared.report.Report.{Report}
use Rattle.rawk.specs.declared.report.Cause.{Cause}
use Rattle.rawk.specs.declared.report.Cause.TheVariants as cause

-- the report where something outside the program stopped it at a point, or where nothing ran
abbrev pub stopped_by : Cause → ℕ → Report
stopped_by cause point = record { status = 2; cause = cause; line = 0; point = point }

-- the report of a refused text
abbrev pub refused_by : Refusal → Report
refused_by refusal = record { status = 2; cause = cause.Refused refusal.kind; line = refusal.line; point = 0 }

-- how many failures of the sink a cause reports
abbrev pub write_failures : Cause → ℕ
write_failures (cause.Faulted WriteFailed) = 1
write_failures _ = 0

-- how many failed reads of a session's commands a cause reports
abbrev pub read_failures : Cause → ℕ
read_failures (cause.Faulted ReadFailed) = 1
read_failures _ = 0
