use Rattle.std.proofs.Common.{◌≡◌, ◌-◌, ◌*◌, None}
use Rattle.rawk_expression.specs.Expression.{links, links_from, level, expression}
use Rattle.rawk_expression.proofs.grammar.Grammar.+levels.Given as goal

abbrev pub decreases-level : goal.decreases-level
decreases-level g l = 2 * l.level

abbrev pub decreases-links : goal.decreases-links
decreases-links g l = 2 * l.level - 1

abbrev pub invariant-links-loop-turn : goal.invariant-links-loop-turn
invariant-links-loop-turn g l =
    links l.prints l.level (level l.self.depth (expression l.self.depth) l.prints None (l.level - 1)) l.fn.tokens
    ≡ links_from l.prints l.level (level l.self.depth (expression l.self.depth) l.prints None (l.level - 1)) (l._turn-end - l._turn) l.links l.tokens
