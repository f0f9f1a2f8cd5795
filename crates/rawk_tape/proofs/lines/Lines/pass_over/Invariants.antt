use Rattle.std.proofs.Common.{◌≡◌, None}
use Rattle.rawk_devices.specs.Inputs.{CountsUp}
use Rattle.rawk_tape.proofs.Due.{Passing}
use Rattle.rawk_tape.proofs.lines.Lines.pass_over.Given as goal

abbrev pub invariant-loop-reads : goal.invariant-loop-reads
invariant-loop-reads g l = record {
  so : Passing g.C.Source.may_give g.C.Source.handed l.fn.source l.fn.self.bytes l.source l.reads;
  unended : g.C.Source.over l.source ≡ None;
  taken : l.self.taken ≡ l.fn.self.taken;
  failures : CountsUp (g.C.Source.failures l.fn.source) (g.C.Source.failures l.source) 0;
}
