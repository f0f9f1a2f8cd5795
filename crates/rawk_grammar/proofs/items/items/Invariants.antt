use Rattle.std.proofs.Common.{◌≡◌, ◌-◌}
use Rattle.rawk_grammar.specs.Items.{items, items_from}
use Rattle.rawk_grammar.proofs.items.items.Given as goal

abbrev pub invariant-loop-turn : goal.invariant-loop-turn
invariant-loop-turn l = items l.depth l.room l.fn.tokens ≡ items_from l.depth l.room (l._turn-end - l._turn) l.found l.tokens
