use Rattle.std.proofs.Common.{◌≡◌, ◌+◌, ◌<◌, ◌^◌, drop}
use Rattle.rawk_history.specs.Saving.{saved_in_groups}
use Rattle.rawk_history.proofs.saving.saved_in_groups.Given as goal

abbrev pub invariant-loop-group : goal.invariant-loop-group
invariant-loop-group l = saved_in_groups l.groups < 2 ^ 128 → l.count + saved_in_groups (drop l.group-index l.groups) ≡ saved_in_groups l.groups
