use Rattle.std.proofs.Common.{take, List, ℕ, length}
use Rattle.rawk_names.specs.Marking.{IsMarking, AreUsedMarked, AreBelow}
use Rattle.rawk_names.proofs.arrays.used_marks.Given as goal

abbrev pub invariant-loop-usage : goal.invariant-loop-usage
invariant-loop-usage l = record {
  marking : (froms tos : List ℕ) → IsMarking l.uses froms tos l.marks.flags.items l.marks.pending.items;
  used : AreUsedMarked (take l.usage-index l.uses) l.marks.flags.items;
  below : AreBelow l.uses (length l.marks.flags.items);
}
