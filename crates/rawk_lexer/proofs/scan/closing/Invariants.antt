use Rattle.std.proofs.Common.{◌≡◌, ◌+◌, length, false}
use Rattle.rawk_lexer.specs.Lex.{closing}
use Rattle.rawk_lexer.proofs.scan.closing.Given as goal

abbrev pub invariant-loop-z : goal.invariant-loop-z
invariant-loop-z l = (closing l.is_escaped l.at l.z ≡ closing false 1 l.initial.z) × (l.at + length l.z ≡ length l.initial.z + 1)

abbrev pub decreases-loop-z : goal.decreases-loop-z
decreases-loop-z l = length l.z
