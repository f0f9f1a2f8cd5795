use Rattle.std.proofs.Common.{ap}
use Rattle.rawk_arrays.specs.ListLaws.{laid_back}
use Rattle.rawk_arrays.proofs.arrays.Arrays.undo.Goals as goal

pub invariant_of-self : goal.invariant_of-self
invariant_of-self c = record {
  laid = laid_back c.self.inside.index c.self.inside.cells c.undo.new.self c.args.group.now.slots.entries.items c.self.invariant.laid c.undo.ensures.now;
  counted = rw (ap (λ w. w.now) c.undo.ensures.now) (rw c.deref.ensures.value at c.recount_back.ensures);
}

pub returns-clause-laid : goal.returns-clause-laid
returns-clause-laid c = let kept = invariant_of-self c in record { distinct = kept.laid.distinct; array_key = kept.laid.array_key }
