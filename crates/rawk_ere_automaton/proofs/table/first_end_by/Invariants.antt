use Rattle.std.proofs.Common.{◌≡◌, ◌<◌, None, false, length, get_or}
use Rattle.rawk_ere_tree.specs.Code.{wide_code}
use Rattle.rawk_ere_automaton.specs.Table.{IsTable}
use Rattle.rawk_ere_automaton.proofs.TableLemmas.{Running}
use Rattle.rawk_ere_automaton.proofs.table.first_end_by.Given as goal

abbrev pub invariant-loop-at : goal.invariant-loop-at
invariant-loop-at l = record {
  within : l.row < length l.wide.ends.items;
  none : get_or l.wide.ends.items l.row false ≡ false;
  runs : (t : IsTable (wide_code l.code) l.wide) → Running (wide_code l.code) l.text t.sets l.from l.at l.row None;
}
