use Rattle.std.proofs.Common.{◌≡◌, length}
use Rattle.rawk_commands.specs.Words.{without_front}
use Rattle.rawk_commands.proofs.reading.without_front.Given as goal

abbrev pub invariant-loop-first : goal.invariant-loop-first
invariant-loop-first l = without_front l.rest ≡ without_front l.fn.text

abbrev pub decreases-loop-first : goal.decreases-loop-first
decreases-loop-first l = length l.rest
