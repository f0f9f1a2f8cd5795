use Rattle.std.proofs.Common.{◌≡◌, map, take}
use Rattle.std.specs.List.{All}
use Rattle.rawk_options.specs.FirstValues.{assigned, HasEquals}
use Rattle.rawk_options.proofs.assignments.assigned_values.Given as goal

abbrev pub invariant-loop-assignment : goal.invariant-loop-assignment
invariant-loop-assignment l = record {
  given : l.settings ≡ map (λ a. assigned a.now) (take l.assignment-index l.assignments);
  whole : All (λ a. HasEquals a.now) (take l.assignment-index l.assignments);
}
