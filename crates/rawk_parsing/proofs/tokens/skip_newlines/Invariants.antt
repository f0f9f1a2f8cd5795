use Rattle.std.proofs.Common.{◌≡◌, ◌-◌}
use Rattle.rawk_parsing.specs.Parser.{newlines, newlines_from}
use Rattle.rawk_parsing.proofs.tokens.skip_newlines.Given as goal

abbrev pub invariant-loop-turn : goal.invariant-loop-turn
invariant-loop-turn l = newlines l.fn.tokens ≡ newlines_from (l._turn-end - l._turn) l.tokens
