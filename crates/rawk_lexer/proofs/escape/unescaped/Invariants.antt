use Rattle.std.proofs.Common.{◌≡◌, ◌++◌, length}
use Rattle.rawk_lexer.specs.Escape.{unescaped_of}
use Rattle.rawk_lexer.proofs.escape.unescaped.Given as goal

abbrev pub invariant-loop-rest : goal.invariant-loop-rest
invariant-loop-rest l = l.bytes.items ++ unescaped_of l.rest ≡ unescaped_of l.initial.rest

abbrev pub decreases-loop-rest : goal.decreases-loop-rest
decreases-loop-rest l = length l.rest
