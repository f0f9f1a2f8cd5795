use Rattle.std.proofs.Common.{◌≡◌, ◌-◌}
use Rattle.rawk_grammar.specs.Items.{names, names_from}
use Rattle.rawk_grammar.proofs.items.names.Given as goal

abbrev pub invariant-loop-turn : goal.invariant-loop-turn
invariant-loop-turn l = names l.fn.tokens ≡ names_from (l._turn-end - l._turn) l.found l.tokens
