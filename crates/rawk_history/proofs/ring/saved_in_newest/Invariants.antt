use Rattle.std.proofs.Common.{◌≡◌, ◌+◌, ◌<◌, ◌^◌, drop, take}
use Rattle.rawk_history.specs.Parts.{kept_in}
use Rattle.rawk_history.specs.Saving.{saved_by_all}
use Rattle.rawk_history.proofs.ring.saved_in_newest.Given as goal

abbrev pub invariant-loop-i : goal.invariant-loop-i
invariant-loop-i l = saved_by_all (take l.count (kept_in l.parts.items)) < 2 ^ 128 → l.saved + saved_by_all (take l.left (kept_in (drop l.i l.parts.items))) ≡ saved_by_all (take l.count (kept_in l.parts.items))
