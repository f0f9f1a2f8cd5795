use Rattle.std.proofs.Common.{◌≡◌, ◌<◌, drop}
use Rattle.rawk_commands.specs.Reading.{number_below}
use Rattle.rawk_commands.proofs.Numbers.{below_after}
use Rattle.rawk_commands.proofs.front.number_below.Given as goal

abbrev pub invariant-loop-b : goal.invariant-loop-b
invariant-loop-b l = record {
  so_far : below_after l.limit l.number (drop l.b-index l.digits) ≡ number_below l.limit l.digits;
  small : l.number < l.limit;
}
