use Rattle.std.proofs.Common.{◌≡◌, ◌≤◌, length, take, drop, reverse}
use Rattle.rawk_store.specs.Stores.{now_of, start_of}
use Rattle.rawk_steps.specs.Closing.{FitAll}
use Rattle.rawk_steps.specs.Leading.{AllArraysFit, all_back, arrays_forth, globals_forth, record_forth}
use Rattle.rawk_steps.proofs.journal.undo_all.Given as goal

abbrev pub invariant-loop-i : goal.invariant-loop-i
invariant-loop-i l = record {
  within : l.i ≤ length l.fn.groups.items;
  same_length : length l.groups.items ≡ length l.fn.groups.items;
  left : take l.i l.groups.items ≡ take l.i l.fn.groups.items;
  now : now_of l.store ≡ all_back (now_of l.fn.store) (reverse (drop l.i l.fn.groups.items));
  rest : start_of l.store ≡ now_of l.store;
  fits : FitAll (now_of l.store) (reverse (take l.i l.fn.groups.items));
  globals : globals_forth l.store.globals.now (drop l.i l.groups.items) ≡ l.fn.store.globals.now;
  arrays : arrays_forth l.store.arrays.now (drop l.i l.groups.items) ≡ l.fn.store.arrays.now;
  arrays_fit : AllArraysFit l.store.arrays.now (drop l.i l.groups.items);
  record_is : record_forth l.store.current.now (drop l.i l.groups.items) ≡ l.fn.store.current.now;
}

abbrev pub decreases-loop-i : goal.decreases-loop-i
decreases-loop-i l = l.i
