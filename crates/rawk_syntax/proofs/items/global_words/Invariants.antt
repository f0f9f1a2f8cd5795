use Rattle.std.proofs.Common.{◌≡◌, ◌++◌, drop, map}
use Rattle.rawk_names.specs.Named.{known}
use Rattle.rawk_resolution.specs.Meant.{global_words}
use Rattle.rawk_resolution.specs.Globals.{key_of}
use Rattle.rawk_syntax.proofs.items.global_words.Given as goal

abbrev pub invariant-loop-variable : goal.invariant-loop-variable
invariant-loop-variable l = l.words.items ++ map key_of (drop l.variable l.names.variables) ≡ global_words (known l.names)
