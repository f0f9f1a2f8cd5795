-- The digits of what is left come before those that were written.
use Rattle.std.proofs.Common.{◌≡◌, ◌≤◌, ◌++◌, drop, length, map}
use Rattle.std.specs.Int.Digits.{digits_of}
use Rattle.std.specs.Fmt.{digit_glyph}
use Rattle.rawk_format.proofs.figure.write_digits.Given as goal

abbrev pub invariant-digits : goal.invariant-digits
invariant-digits l = record {
  in_range : l.at ≤ 64;
  sized : length l.buffer ≡ 64;
  room : length (digits_of l.base l.left) ≤ l.at;
  so_far : map (digit_glyph l.upper) (digits_of l.base l.fn.n) ≡ map (digit_glyph l.upper) (digits_of l.base l.left) ++ drop l.at l.buffer;
}

abbrev pub decreases-digits : goal.decreases-digits
decreases-digits l = l.left
