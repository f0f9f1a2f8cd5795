use Rattle.std.proofs.Common.{◌≡◌, ◌-◌}
use Rattle.rawk_grammar.specs.Items.{separators, separators_from}
use Rattle.rawk_grammar.proofs.items.skip_separators.Given as goal

abbrev pub invariant-loop-turn : goal.invariant-loop-turn
invariant-loop-turn l = separators l.fn.tokens ≡ separators_from (l._turn-end - l._turn) l.tokens
