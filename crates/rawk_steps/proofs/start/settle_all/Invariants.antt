use Rattle.std.proofs.Common.{◌≡◌, drop}
use Rattle.rawk_code.specs.Trace.{settled}
use Rattle.rawk_steps.proofs.start.settle_all.Given as goal

abbrev pub invariant-loop-first : goal.invariant-loop-first
invariant-loop-first l = settled l.names (drop l.first-index l.settings) l.globals.now ≡ settled l.names l.settings l.fn.globals.now
