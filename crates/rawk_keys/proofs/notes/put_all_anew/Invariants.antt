use Rattle.std.proofs.Common.{◌≤◌, List, length}
use Rattle.rawk_keys.specs.ArrayKey.{ArrayKey}
use Rattle.rawk_keys.specs.Notes.{AreNoted}
use Rattle.rawk_keys.proofs.notes.put_all_anew.Given as goal

abbrev pub invariant-loop-at : goal.invariant-loop-at
invariant-loop-at l = record {
  within : l.upto ≤ length l.notes.items;
  kept : (keys : List ArrayKey) → AreNoted l.fn.notes.items keys → AreNoted l.notes.items keys;
}
