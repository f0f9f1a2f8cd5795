use Rattle.std.proofs.Common.{◌≤◌, ◌-◌, length}
use Rattle.rawk_tape.specs.Paragraphs.{NoBreak}
use Rattle.rawk_tape.proofs.search.find_break.Given as goal

abbrev pub invariant-loop-place : goal.invariant-loop-place
invariant-loop-place l = (l.from ≤ l.at) × (l.at ≤ length l.bytes) × NoBreak l.bytes l.from l.at

abbrev pub decreases-loop-place : goal.decreases-loop-place
decreases-loop-place l = length l.bytes - l.at
