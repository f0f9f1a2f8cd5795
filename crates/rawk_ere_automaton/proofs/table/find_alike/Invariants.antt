use Rattle.std.proofs.Common.{◌≡◌, length}
use Rattle.rawk_ere_automaton.specs.Table.{AreMarkedAlike}
use Rattle.rawk_ere_automaton.proofs.table.find_alike.Given as goal

abbrev pub invariant-loop-byte : goal.invariant-loop-byte
invariant-loop-byte l = (length l.marks.items ≡ l.byte) × AreMarkedAlike l.code l.marks.items
