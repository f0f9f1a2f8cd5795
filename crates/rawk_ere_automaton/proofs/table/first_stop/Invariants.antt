use Rattle.std.proofs.Common.{◌≡◌, ◌<◌, false, length, get_or, None}
use Rattle.rawk_ere_automaton.specs.Table.{IsTable}
use Rattle.rawk_ere_automaton.proofs.TableLemmas.{Running}
use Rattle.rawk_ere_automaton.proofs.table.first_stop.Given as goal

abbrev pub invariant-loop-at : goal.invariant-loop-at
invariant-loop-at l = record {
  within : l.row < length l.table.ends.items;
  none : get_or l.table.ends.items l.row false ≡ false;
  runs : (t : IsTable l.code l.table) → Running l.code l.text t.sets l.from l.at l.row None;
}
