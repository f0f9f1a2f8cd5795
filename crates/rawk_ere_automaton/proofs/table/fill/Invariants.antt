use Rattle.std.proofs.Common.{◌≡◌, ◌*◌, ◌+◌, length}
use Rattle.rawk_ere_automaton.specs.Table.{AreFilled, Extends}
use Rattle.rawk_ere_automaton.proofs.table.fill.Given as goal

abbrev pub invariant-loop-byte : goal.invariant-loop-byte
invariant-loop-byte l = (length l.next.items ≡ 256 * l.row + l.byte) × AreFilled l.code l.sets.items l.next.items × Extends l.fn.sets.items l.sets.items
