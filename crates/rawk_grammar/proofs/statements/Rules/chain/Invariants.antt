use Rattle.std.proofs.Common.{◌≡◌, ◌-◌}
use Rattle.rawk_grammar.specs.Statement.{chain, chain_from, statement}
use Rattle.rawk_grammar.proofs.statements.Rules.chain.Given as goal

abbrev pub invariant-loop-turn : goal.invariant-loop-turn
invariant-loop-turn g l = chain l.self.depth (statement l.self.depth) l.self.context l.fn.tokens ≡ chain_from l.self.depth (statement l.self.depth) l.self.context (l._turn-end - l._turn) l.branches l.tokens
