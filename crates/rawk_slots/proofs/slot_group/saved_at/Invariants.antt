use Rattle.std.proofs.Common.{◌≡◌, ◌≢◌, ◌<◌, ◌-◌, ℕ, Some, slice_get, length}
use Rattle.rawk_slots.specs.declared.saved.Saved.{Saved}
use Rattle.rawk_slots.proofs.slot_group.saved_at.Given as goal

abbrev pub invariant-loop-i : goal.invariant-loop-i
invariant-loop-i g l = (k : ℕ) (f : Saved g.row.T.Denot) → k < l.i → slice_get l.entries k ≡ Some f → l.place ≢ f.place

abbrev pub decreases-loop-i : goal.decreases-loop-i
decreases-loop-i g l = length l.entries - l.i
