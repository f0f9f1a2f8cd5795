use Rattle.rawk_names.specs.Noted.{shown}
use Rattle.rawk_syntax.specs.Patterns.{AreReadable}
use Rattle.rawk_syntax.proofs.patterns.first_bad.Given as goal

abbrev pub invariant-loop-number : goal.invariant-loop-number
invariant-loop-number l = AreReadable (shown l.register).patterns l.number
