use Rattle.std.proofs.Common.{◌≡◌, ℕ, false, ◌<◌, length}
use Rattle.std.specs.Prelude.{◌↔◌, IsTrue, slice_index_or}
use Rattle.rawk_ere_begins.specs.Filters.{AllLeadTo}
use Rattle.rawk_ere_automaton.proofs.table.find_stays.Given as goal

abbrev pub invariant-loop-row : goal.invariant-loop-row
invariant-loop-row l = (length l.found.items ≡ l.row) × ((r : ℕ) → r < l.row → IsTrue (slice_index_or l.found.items r false) ↔ AllLeadTo l.next r r)
