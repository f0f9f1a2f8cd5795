use Rattle.std.proofs.Common.{arith}
use Rattle.std.proofs.lemmas.Grind.{common_steps}
use Rattle.std.proofs.lemmas.List.Elements.{All-more}
use Rattle.rawk_options.specs.FirstValues.{HasEquals}
use Rattle.rawk_options.proofs.assignments.assigned_values.Goals as goal

pub loop-assignment-preserved : goal.loop-assignment-preserved
loop-assignment-preserved c = record {
  given = grind (arith, common_steps);
  whole = All-more (λ a. HasEquals a.now) c.args.assignments.now c.loop-assignment.assignment-index _ (omega arith) c.loop-assignment.invariant.whole c.in_ok-assign_word.ensures.whole;
}
