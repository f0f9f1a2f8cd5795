use Rattle.std.proofs.Common.{◌≡◌, ◌≤◌, ◌+◌, ◌-◌, ◌*◌, ◌^◌, length, take, Some, is_none, if◌then◌else◌}
use Rattle.std.specs.List.{position_or_len}
use Rattle.rawk_devices.specs.Inputs.{CountsUp}
use Rattle.rawk_devices.specs.declared.source.Ending.TheVariants.{Failed}
use Rattle.rawk_tape.specs.Records.{is_newline}
use Rattle.rawk_tape.specs.Lines.{ReadsMore, failures_by}
use Rattle.rawk_tape.proofs.lines.Lines.read_line.Given as goal

-- it has only read on, none of the bytes seen is a newline, and where a read failed none is held
abbrev pub invariant-reads : goal.invariant-reads
invariant-reads g l = record {
  reported : g.C.Source.over l.source ≡ l.self.over;
  taken : l.self.taken ≡ l.fn.self.taken;
  reads : ReadsMore g.C.Source.may_give g.C.Source.handed l.fn.source l.fn.self.bytes l.source l.self.bytes;
  failures : CountsUp (g.C.Source.failures l.fn.source) (g.C.Source.failures l.source) (failures_by l.self.over);
  failed : l.self.over ≡ Some Failed → length l.self.bytes ≤ position_or_len is_newline l.self.bytes;
  inside : l.seen ≤ length l.self.bytes;
  without : position_or_len is_newline (take l.seen l.self.bytes) ≡ l.seen;
}

-- bytes can be held up to a bound, and then the source is over
abbrev pub decreases-reads : goal.decreases-reads
decreases-reads g l = 2 * (2 ^ 63 - length l.self.bytes) + (if is_none l.self.over then 1 else 0)
