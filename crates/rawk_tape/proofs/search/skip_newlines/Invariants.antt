use Rattle.std.proofs.Common.{◌≤◌, ◌-◌, length}
use Rattle.rawk_tape.specs.Paragraphs.{AllNewlines}
use Rattle.rawk_tape.proofs.search.skip_newlines.Given as goal

abbrev pub invariant-loop-at : goal.invariant-loop-at
invariant-loop-at l = (l.from ≤ l.at) × (l.at ≤ length l.bytes) × AllNewlines l.bytes l.from l.at

abbrev pub decreases-loop-at : goal.decreases-loop-at
decreases-loop-at l = length l.bytes - l.at
