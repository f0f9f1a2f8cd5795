-- 0, 1 and -1 have small powers, and no other number has one.
use Rattle.std.proofs.Common.{◌≡◌, ◌<◌, ◌≤◌, true, false, ap, sym, ◌∙◌, arith, Ok}
use Rattle.std.specs.Prelude.{unsigned_abs, pos}
use Rattle.std.specs.Int.{w64}
use Rattle.std.proofs.lemmas.Bool.Decides.{nat_tests}
use Rattle.std.proofs.lemmas.Int.{to_z-of_z, to_z_pos}
use Rattle.rawk_value.specs.Values.{is_odd}
use Rattle.rawk_value.proofs.Powers.{unit_odd, unit_even, power_great}
use Rattle.rawk_value.proofs.arithmetic.great_power.Goals as goal

pub returns-then-size-gt1 : goal.returns-then-size-gt1
returns-then-size-gt1 c =
    let size : c.unsigned_abs-size.result ≡ unsigned_abs c.args.x = c.unsigned_abs-size.ensures.value ∙ ap unsigned_abs (to_z-of_z w64 c.args.x c.ranges.x) in
    let great : 2 ≤ unsigned_abs c.args.x = omega arith in
    sym (power_great c.args.x c.args.n great c.requires)

pub returns-then-n-eq1 : goal.returns-then-n-eq1
returns-then-n-eq1 c =
    let size : c.unsigned_abs-size.result ≡ unsigned_abs c.args.x = c.unsigned_abs-size.ensures.value ∙ ap unsigned_abs (to_z-of_z w64 c.args.x c.ranges.x) in
    let small : unsigned_abs c.args.x < 2 = omega arith in
    let odd : is_odd c.args.n ≡ true = grind (arith, nat_tests) in
    ap Ok (to_z-of_z w64 c.args.x c.ranges.x) ∙ sym (unit_odd c.args.x c.args.n small odd)

pub returns-else-n-eq1 : goal.returns-else-n-eq1
returns-else-n-eq1 c =
    let size : c.unsigned_abs-size.result ≡ unsigned_abs c.args.x = c.unsigned_abs-size.ensures.value ∙ ap unsigned_abs (to_z-of_z w64 c.args.x c.ranges.x) in
    let small : unsigned_abs c.args.x < 2 = omega arith in
    let above : 0 < c.args.n = omega arith in
    let even : is_odd c.args.n ≡ false = grind (arith, nat_tests) in
    ap Ok (to_z_pos w64 c.unsigned_abs-size.result (omega arith) ∙ ap pos size) ∙ sym (unit_even c.args.x c.args.n small above even)
