use Rattle.rawk_names.specs.Marking.{Progress, HasLink}
use Rattle.rawk_names.proofs.Following.{IsDone, ahead}
use Rattle.rawk_names.proofs.arrays.follow.Given as goal

abbrev pub invariant-loop-at : goal.invariant-loop-at
invariant-loop-at l = record {
  progress : Progress (HasLink l.links.from l.links.to.items l.variable) l.initial.marks.flags.items l.initial.marks.pending.items l.marks.flags.items l.marks.pending.items;
  done : IsDone l.links.from l.links.to.items l.marks.flags.items l.variable l.at;
}

abbrev pub decreases-loop-at : goal.decreases-loop-at
decreases-loop-at l = ahead l.at
