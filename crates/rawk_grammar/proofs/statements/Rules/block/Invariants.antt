use Rattle.std.proofs.Common.{◌≡◌, ◌-◌}
use Rattle.rawk_grammar.specs.Statement.{block, block_from, statement}
use Rattle.rawk_grammar.proofs.statements.Rules.block.Given as goal

abbrev pub invariant-loop-turn : goal.invariant-loop-turn
invariant-loop-turn g l = block l.self.depth (statement l.self.depth) l.self.context l.fn.tokens ≡ block_from l.self.depth (statement l.self.depth) l.self.context (l._turn-end - l._turn) l.found l.tokens
