use Rattle.std.proofs.Common.{◌≡◌, ℕ, false, ◌<◌, length}
use Rattle.std.specs.Prelude.{◌↔◌, IsTrue, slice_index_or}
use Rattle.rawk_ere_walks.specs.Sets.{AsksIn}
use Rattle.rawk_ere_automaton.specs.Table.{members}
use Rattle.rawk_ere_automaton.proofs.table.find_wants.Given as goal

abbrev pub invariant-loop-index : goal.invariant-loop-index
invariant-loop-index l = (length l.found.items ≡ l.index) × ((r : ℕ) → r < l.index → IsTrue (slice_index_or l.found.items r false) ↔ AsksIn l.code (members l.sets r))
