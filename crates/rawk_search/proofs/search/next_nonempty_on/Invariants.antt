use Rattle.std.proofs.Common.{◌≡◌, ◌+◌, ◌-◌, ◌≤◌, true, length}
use Rattle.rawk_search.specs.Matches.{first_nonempty}
use Rattle.rawk_search.proofs.search.next_nonempty_on.Given as goal

abbrev pub invariant-loop-start : goal.invariant-loop-start
invariant-loop-start l = record {
  stays : l.finder ≡ l.initial.finder;
  low : l.from ≤ l.at;
  high : l.at ≤ length l.initial.finder.text;
  same : first_nonempty true l.initial.finder.text l.initial.finder.ere l.from ≡ first_nonempty true l.initial.finder.text l.initial.finder.ere l.at;
}

abbrev pub decreases-loop-start : goal.decreases-loop-start
decreases-loop-start l = length l.initial.finder.text + 1 - l.at
