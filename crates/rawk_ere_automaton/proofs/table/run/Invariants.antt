use Rattle.std.proofs.Common.{◌<◌, length}
use Rattle.rawk_ere_automaton.specs.Table.{IsTable}
use Rattle.rawk_ere_automaton.proofs.TableLemmas.{Lagging}
use Rattle.rawk_ere_automaton.proofs.table.run.Given as goal

abbrev pub invariant-loop-at : goal.invariant-loop-at
invariant-loop-at l = record {
  within : l.row < length l.table.ends.items;
  runs : (t : IsTable l.code l.table) → Lagging l.code l.text t.sets l.table.ends.items l.from l.at l.row l.longest;
}
