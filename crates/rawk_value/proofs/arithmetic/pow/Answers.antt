-- The exponent is its size below 0.
use Rattle.std.proofs.Common.{◌≡◌, true, ap, sym, ◌∙◌}
use Rattle.std.specs.Prelude.{unsigned_abs, int_lt, pos}
use Rattle.std.specs.Int.{w64}
use Rattle.std.proofs.lemmas.Int.{to_z-of_z}
use Rattle.rawk_value.specs.Values.{inverse_power}
use Rattle.rawk_value.proofs.Powers.{powered_below}
use Rattle.rawk_value.proofs.arithmetic.pow.Goals as goal

pub returns-then-y-lt0 : goal.returns-then-y-lt0
returns-then-y-lt0 c =
    let y = to_z-of_z w64 c.args.y c.ranges.y in
    let size : c.unsigned_abs-size.result ≡ unsigned_abs c.args.y = c.unsigned_abs-size.ensures.value ∙ ap unsigned_abs y in
    let below : int_lt c.args.y (pos 0) ≡ true = sym (ap (λ z. int_lt z (pos 0)) y) ∙ c.if-y-lt0.true in
    powered_below c.args.x c.args.y c.unsigned_abs-size.result c.inverse.result below size (λ n o. c.inverse.ensures n o ∙ ap (λ x. inverse_power x n) (to_z-of_z w64 c.args.x c.ranges.x))
