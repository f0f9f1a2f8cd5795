use Rattle.std.proofs.Common.{◌≡◌, ◌≤◌, length}
use Rattle.rawk_lexer.specs.Lex.{skip}
use Rattle.rawk_lexer.proofs.scan.skip.Given as goal

abbrev pub invariant-loop-z : goal.invariant-loop-z
invariant-loop-z l = (skip l.z ≡ skip l.initial.z) × (length l.z ≤ length l.initial.z)

abbrev pub decreases-loop-z : goal.decreases-loop-z
decreases-loop-z l = length l.z
