use Rattle.std.proofs.Common.{◌≡◌, length, reverse}
use Rattle.rawk_commands.specs.Words.{without_front, trimmed}
use Rattle.rawk_commands.proofs.reading.trimmed.Given as goal

abbrev pub invariant-loop-last : goal.invariant-loop-last
invariant-loop-last l = reverse (without_front (reverse l.rest)) ≡ trimmed l.fn.text

abbrev pub decreases-loop-last : goal.decreases-loop-last
decreases-loop-last l = length l.rest
