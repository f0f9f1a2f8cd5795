use Rattle.std.proofs.Common.{◌≡◌, ◌-◌, ◌*◌}
use Rattle.rawk_expression.specs.Expression.{further, further_from, begun, junction, expression}
use Rattle.rawk_expression.proofs.grammar.Grammar.+junctions.Given as goal

abbrev pub decreases-junction : goal.decreases-junction
decreases-junction g l = 3 * l.level

abbrev pub decreases-further : goal.decreases-further
decreases-further g l = 3 * l.level - 1

abbrev pub decreases-next : goal.decreases-next
decreases-next g l = 3 * l.level - 2

abbrev pub invariant-further-loop-turn : goal.invariant-further-loop-turn
invariant-further-loop-turn g l =
    further l.level (begun l.self.depth (expression l.self.depth) (junction l.self.depth (expression l.self.depth) l.prints (l.level - 1))) l.fn.first l.fn.tokens
    ≡ further_from l.level (begun l.self.depth (expression l.self.depth) (junction l.self.depth (expression l.self.depth) l.prints (l.level - 1))) (l._turn-end - l._turn) l.operands l.tokens
