use Rattle.std.proofs.Common.{◌≡◌, ◌*◌, ◌≤◌, length}
use Rattle.rawk_ere_automaton.specs.Table.{AreFilled, AreStarts}
use Rattle.rawk_ere_automaton.proofs.table.build.Given as goal

abbrev pub invariant-loop-row : goal.invariant-loop-row
invariant-loop-row l = (length l.rows.items ≡ 256 * l.row) × (l.row ≤ length l.sets.items) × AreFilled l.code l.sets.items l.rows.items × AreStarts l.code l.sets.items l.start l.later
