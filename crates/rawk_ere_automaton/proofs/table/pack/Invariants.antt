use Rattle.std.proofs.Common.{◌≡◌, take}
use Rattle.rawk_ere_automaton.proofs.table.pack.Given as goal

abbrev pub invariant-loop-index : goal.invariant-loop-index
invariant-loop-index l = l.bytes.items ≡ take l.index l.rows
