use Rattle.std.proofs.Common.{◌≡◌, drop}
use Rattle.rawk_names.specs.Noted.{pattern_left}
use Rattle.rawk_names.proofs.register.left_of.Given as goal

abbrev pub invariant-loop-usage : goal.invariant-loop-usage
invariant-loop-usage l = pattern_left l.number (drop l.usage-index l.uses) ≡ pattern_left l.number l.uses
