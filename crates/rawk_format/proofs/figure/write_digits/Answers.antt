-- The last digit of what is left is written before the others.
use Rattle.std.proofs.Common.{◌≡◌, ◌+◌, ◌-◌, ◌/◌, ◌<◌, ◌≤◌, ◌^◌, ◌∙◌, ◌++◌, sym, ap, length, map, append-nil, length-set, arith}
use Rattle.std.proofs.Math.ListN.{drop_of_length-le}
use Rattle.std.specs.Int.Digits.{digits_of}
use Rattle.std.specs.Fmt.{digit_glyph}
use Rattle.std.proofs.lemmas.Int.Digits.{length-digits_of_step}
use Rattle.rawk_format.proofs.Figures.{digits_bound, digit_written}
use Rattle.rawk_format.proofs.figure.write_digits.Goals as goal

pub digits-init : goal.digits-init
digits-init c =
    let shown = map (digit_glyph c.args.upper) (digits_of c.args.base c.args.n) in
    let sized : length c.args.buffer.now ≡ 64 = omega (arith, c.told-buffer) in
    let small : length c.args.buffer.now ≤ 64 = omega arith in
    let fits : c.args.n < 2 ^ 64 = omega arith in
    record {
      in_range = omega arith;
      sized = sized;
      room = digits_bound c.args.base c.args.n c.requires.0 fits;
      so_far = sym (ap (λ t. shown ++ t) (drop_of_length-le c.args.buffer.now small) ∙ append-nil shown);
    }

pub overflow_sub-at : goal.overflow_sub-at
overflow_sub-at c =
    let above : 0 < c.digits.left = omega arith in
    omega (arith, length-digits_of_step c.args.base c.digits.left c.requires.0 above)

pub digits-preserved : goal.digits-preserved
digits-preserved c =
    let above : 0 < c.digits.left = omega arith in
    let step : length (digits_of c.args.base c.digits.left) ≡ length (digits_of c.args.base (c.digits.left / c.args.base)) + 1 = length-digits_of_step c.args.base c.digits.left c.requires.0 above in
    let is : c.digits.at ≡ (c.digits.at - 1) + 1 = omega arith in
    let inside : c.digits.at - 1 < length c.digits.buffer = omega arith in
    record {
      in_range = omega arith;
      sized = length-set c.digits.buffer (c.digits.at - 1) c.digit_glyph.result ∙ c.digits.invariant.sized;
      room = omega arith;
      so_far = digit_written (digit_glyph c.args.upper) c.args.base c.digits.left c.digits.at (c.digits.at - 1) c.digit_glyph.result _ c.digits.buffer is c.requires.0 above inside c.digit_glyph.ensures c.digits.invariant.so_far;
    }
