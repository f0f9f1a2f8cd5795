use Rattle.std.proofs.Common.{◌≡◌, length}
use Rattle.rawk_names.specs.Marking.{IsMarking, Keeps, todo}
use Rattle.rawk_names.proofs.arrays.spread.Given as goal

abbrev pub invariant-loop-variable : goal.invariant-loop-variable
invariant-loop-variable l = record {
  size : length l.marks.flags.items ≡ length l.initial.marks.flags.items;
  marking : IsMarking l.uses l.links.from l.links.to.items l.marks.flags.items l.marks.pending.items;
  kept : Keeps l.initial.marks.flags.items l.marks.flags.items;
}

abbrev pub decreases-loop-variable : goal.decreases-loop-variable
decreases-loop-variable l = todo l.marks.flags.items l.marks.pending.items
