use Rattle.std.proofs.Common.{◌≡◌, ◌++◌, drop}
use Rattle.rawk_names.specs.Named.{known}
use Rattle.rawk_resolution.specs.Meant.{global_kinds, kinds_from}
use Rattle.rawk_resolution.proofs.kinds.global_kinds.Given as goal

abbrev pub invariant-loop-global : goal.invariant-loop-global
invariant-loop-global l = l.kinds.items ++ kinds_from (known l.names) l.global (drop l.global l.names.variables) ≡ global_kinds (known l.names)
