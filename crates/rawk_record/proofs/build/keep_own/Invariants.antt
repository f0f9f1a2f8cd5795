use Rattle.std.proofs.Common.{◌≡◌, ◌≤◌, ◌-◌, ◌++◌, None, length, replicate}
use Rattle.rawk_record.proofs.build.keep_own.Given as goal

abbrev pub invariant-loop : goal.invariant-loop
invariant-loop l = record {
  kept : l.kept.items ≡ l.initial.kept.items ++ replicate (l.counter - length l.initial.kept.items) None;
  same : l.value ≡ l.initial.value;
  low : length l.initial.kept.items ≤ l.counter;
}
