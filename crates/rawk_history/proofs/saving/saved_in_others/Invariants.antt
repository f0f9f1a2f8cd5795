use Rattle.std.proofs.Common.{◌≡◌, ◌+◌, ◌<◌, ◌^◌, drop}
use Rattle.rawk_history.specs.Saving.{saved_in_others}
use Rattle.rawk_history.proofs.saving.saved_in_others.Given as goal

abbrev pub invariant-loop-others : goal.invariant-loop-others
invariant-loop-others l = saved_in_others l.all < 2 ^ 128 → l.count + saved_in_others (drop l.others-index l.all) ≡ saved_in_others l.all
