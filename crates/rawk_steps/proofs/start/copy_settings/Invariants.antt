use Rattle.std.proofs.Common.{◌≡◌, take}
use Rattle.rawk_steps.proofs.start.copy_settings.Given as goal

abbrev pub invariant-loop-first : goal.invariant-loop-first
invariant-loop-first l = l.copy ≡ take l.first-index l.settings
