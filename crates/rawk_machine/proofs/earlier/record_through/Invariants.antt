use Rattle.std.proofs.Common.{◌≡◌, drop}
use Rattle.std.specs.Prelude.{option_copied}
use Rattle.rawk_record.specs.Shown.{Shown, record_back}
use Rattle.rawk_steps.specs.Leading.{record_forth}
use Rattle.rawk_machine.proofs.earlier.record_through.Given as goal

abbrev pub invariant-loop-group : goal.invariant-loop-group
invariant-loop-group l = (s : Shown) → record_forth s l.groups ≡ record_forth (record_back s (option_copied l.record)) (drop l.group-index l.groups)
