use Rattle.std.proofs.Common.{◌≡◌, ◌+◌, ◌-◌, ◌≤◌, length, drop}
use Rattle.rawk_lexer.specs.Lex.{run}
use Rattle.rawk_lexer.proofs.scan.run.Given as goal

abbrev pub invariant-loop-len : goal.invariant-loop-len
invariant-loop-len l = (l.len + run l.class (drop l.len l.z) ≡ run l.class l.z) × (l.len ≤ length l.z)

abbrev pub decreases-loop-len : goal.decreases-loop-len
decreases-loop-len l = length l.z - l.len
