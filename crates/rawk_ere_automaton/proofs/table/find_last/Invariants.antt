use Rattle.std.proofs.Common.{◌≡◌, ℕ, false, ◌<◌, length}
use Rattle.std.specs.Prelude.{slice_index_or}
use Rattle.rawk_ere_automaton.specs.Table.{members, EndsLast}
use Rattle.rawk_ere_automaton.proofs.table.find_last.Given as goal

abbrev pub invariant-loop-index : goal.invariant-loop-index
invariant-loop-index l = (length l.found.items ≡ l.index) × ((r : ℕ) → r < l.index → EndsLast l.code (members l.sets r) (slice_index_or l.found.items r false))
