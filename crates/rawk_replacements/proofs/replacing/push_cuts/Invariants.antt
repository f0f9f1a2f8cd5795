use Rattle.std.proofs.Common.{◌≡◌, ◌+◌, ◌-◌, length}
use Rattle.rawk_replacements.proofs.Cutting.{Cutting}
use Rattle.rawk_replacements.proofs.replacing.push_cuts.Given as goal

abbrev pub invariant-loop-next : goal.invariant-loop-next
invariant-loop-next l = record {
  cutting : Cutting l.text l.initial.finder.ere l.by l.initial.out.items l.next l.out.items l.copied l.at l.count;
  same : l.finder ≡ l.initial.finder;
}

abbrev pub decreases-loop-next : goal.decreases-loop-next
decreases-loop-next l = length l.text + 2 - l.at
