use Rattle.std.proofs.Common.{◌≡◌, ◌+◌, length}
use Rattle.rawk_lexer.specs.declared.ere.Behind.TheVariants.{Outside}
use Rattle.rawk_lexer.specs.Ere.{closing}
use Rattle.rawk_lexer.proofs.ere.closing.Given as goal

abbrev pub invariant-loop-z : goal.invariant-loop-z
invariant-loop-z l = (closing l.behind l.at l.z ≡ closing Outside 1 l.initial.z) × (l.at + length l.z ≡ length l.initial.z + 1)

abbrev pub decreases-loop-z : goal.decreases-loop-z
decreases-loop-z l = length l.z
