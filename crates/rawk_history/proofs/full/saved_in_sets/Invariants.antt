use Rattle.std.proofs.Common.{◌≡◌, ◌+◌, ◌<◌, ◌^◌, drop}
use Rattle.rawk_history.specs.Saving.{saved_in_sets}
use Rattle.rawk_history.proofs.full.saved_in_sets.Given as goal

abbrev pub invariant-loop-groups : goal.invariant-loop-groups
invariant-loop-groups l = saved_in_sets l.sets < 2 ^ 128 → l.count + saved_in_sets (drop l.groups-index l.sets) ≡ saved_in_sets l.sets
