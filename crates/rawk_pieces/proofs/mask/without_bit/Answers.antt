use Rattle.std.proofs.Common.{◌≢◌, ◌≤◌, ◌*◌, ◌%◌, ◌^◌, ap, arith, w64, bit_and}
use Rattle.std.specs.Int.{bit_at, bit_not}
use Rattle.std.proofs.lemmas.Nat.Bits.{bit_at_clear_other, bit_at_clear_same, bit_at_and}
use Rattle.std.proofs.lemmas.Nat.{and_le_l}
use Rattle.rawk_pieces.proofs.mask.without_bit.Goals as goal

pub returns-clause-cleared : goal.returns-clause-cleared
returns-clause-cleared c = bit_at_clear_same w64 c.args.mask c.args.bit c.requires.bound

pub returns-clause-kept : goal.returns-clause-kept
returns-clause-kept c k below other = bit_at_clear_other w64 c.args.mask c.args.bit c.requires.bound k below other

pub returns-clause-none_new : goal.returns-clause-none_new
returns-clause-none_new c k set = omega (arith, bit_at_and c.args.mask (bit_not w64 (1 * 2 ^ c.args.bit % 2 ^ 64)) k)

-- it has no bit that the mask has not, and one less
pub returns-clause-smaller : goal.returns-clause-smaller
returns-clause-smaller c =
    let others = bit_not w64 (1 * 2 ^ c.args.bit % 2 ^ 64) in
    let most : bit_and c.args.mask others ≤ c.args.mask = and_le_l c.args.mask others in
    let less : bit_and c.args.mask others ≢ c.args.mask = λ same. absurd (omega (arith, bit_at_clear_same w64 c.args.mask c.args.bit c.requires.bound, ap (λ n. bit_at n c.args.bit) same, c.requires.set)) in
    omega (arith, most, less)
