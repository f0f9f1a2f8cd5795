use Rattle.std.proofs.Common.{◌≡◌, ◌≤◌, length, take, drop}
use Rattle.rawk_slots.specs.Back.{back, places}
use Rattle.rawk_slots.proofs.saved.swap_back.Given as goal

abbrev pub invariant-loop-i : goal.invariant-loop-i
invariant-loop-i g l = record {
  within : l.i ≤ length l.fn.saved.items;
  behind : l.fn.began ≤ l.i;
  same_length : length l.saved.items ≡ length l.fn.saved.items;
  left : take l.i l.saved.items ≡ take l.i l.fn.saved.items;
  same_places : places l.saved.items ≡ places l.fn.saved.items;
  done : l.items.items ≡ back l.fn.items.items (drop l.i l.fn.saved.items);
  newer : back l.items.items (drop l.i l.saved.items) ≡ l.fn.items.items;
}

abbrev pub decreases-loop-i : goal.decreases-loop-i
decreases-loop-i g l = l.i
