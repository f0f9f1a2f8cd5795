use Rattle.std.proofs.Common.{◌≡◌, take}
use Rattle.rawk_special.specs.Special.{first_specials}
use Rattle.rawk_steps.proofs.start.add_specials.Given as goal

abbrev pub invariant-loop-number : goal.invariant-loop-number
invariant-loop-number l = l.globals.now ≡ take l.number first_specials
