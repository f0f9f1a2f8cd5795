use Rattle.std.proofs.Common.{◌≡◌, ◌+◌, ◌-◌, ◌≤◌, length}
use Rattle.rawk_ere_walks.specs.Ways.{BeginsIn}
use Rattle.rawk_ere_automaton.specs.Search.{BeginsNone}
use Rattle.rawk_ere_automaton.proofs.search.first_begin.Given as goal

abbrev pub invariant-loop-low : goal.invariant-loop-low
invariant-loop-low l = record {
  now : l.now.0 ≡ length l.code + 1;
  next : l.next.0 ≡ length l.code + 1;
  low : l.fn.from ≤ l.low;
  between : l.low ≤ l.high;
  high : l.high ≤ length l.text;
  before : BeginsNone l.code l.text l.fn.from l.low;
  some : BeginsIn l.code l.text l.low l.high;
}

abbrev pub decreases-loop-low : goal.decreases-loop-low
decreases-loop-low l = l.high - l.low
