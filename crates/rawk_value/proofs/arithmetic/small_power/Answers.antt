-- std's power is the power, and it is given where it fits.
use Rattle.std.proofs.Common.{ap, sym, ◌∙◌}
use Rattle.std.specs.Int.{int_pow, w64}
use Rattle.std.proofs.lemmas.Int.{to_z-of_z}
use Rattle.rawk_value.specs.Values.{checked}
use Rattle.rawk_value.proofs.Powers.{power_is, checked_from}
use Rattle.rawk_value.proofs.arithmetic.small_power.Goals as goal

pub returns : goal.returns
returns c =
    c.ok_or.ensures.value ∙ checked_from c.checked_pow.result _ c.checked_pow.ensures
    ∙ ap (λ x. checked (int_pow x c.args.n)) (to_z-of_z w64 c.args.x c.ranges.x) ∙ ap checked (sym (power_is c.args.x c.args.n))
