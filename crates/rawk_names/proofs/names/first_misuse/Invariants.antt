use Rattle.rawk_names.specs.Named.{NoneBefore}
use Rattle.rawk_names.proofs.names.first_misuse.Given as goal

abbrev pub invariant-loop-usage : goal.invariant-loop-usage
invariant-loop-usage l = NoneBefore l.arrays l.uses l.usage-index
