use Rattle.std.proofs.Common.{ℕ, ◌<◌}
use Rattle.std.specs.Prelude.{◌↔◌}
use Rattle.rawk_ere_walks.specs.Sets.{TakesFrom}
use Rattle.rawk_ere_automaton.proofs.table.are_alike.Given as goal

abbrev pub invariant-loop-state : goal.invariant-loop-state
invariant-loop-state l = (q : ℕ) → q < l.state → TakesFrom l.code q l.a ↔ TakesFrom l.code q l.b
