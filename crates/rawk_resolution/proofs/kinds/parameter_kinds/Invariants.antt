use Rattle.std.proofs.Common.{◌≡◌, ◌≤◌, ◌-◌, map}
use Rattle.std.specs.List.{range_with_len}
use Rattle.rawk_names.specs.Named.{known}
use Rattle.rawk_resolution.specs.Globals.{kind_in}
use Rattle.rawk_resolution.proofs.kinds.parameter_kinds.Given as goal

abbrev pub invariant-loop-parameter : goal.invariant-loop-parameter
invariant-loop-parameter l = record {
  made : l.kinds.items ≡ map (kind_in (known l.names)) (range_with_len l.initial.parameter (l.parameter - l.initial.parameter));
  within : l.parameter - l.initial.parameter ≤ l.parameter-end - l.initial.parameter;
}
