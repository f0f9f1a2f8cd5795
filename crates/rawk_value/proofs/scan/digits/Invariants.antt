-- The bytes passed are digits, and the size is theirs.
use Rattle.std.proofs.Common.{◌≡◌, ℕ, ◌<◌, true, take, get_or}
use Rattle.std.specs.Str.Parse.{digits_value}
use Rattle.rawk_value.specs.Scans.{held}
use Rattle.rawk_value.specs.Values.{is_digit}
use Rattle.rawk_value.proofs.scan.digits.Given as goal

abbrev pub invariant-loop-i : goal.invariant-loop-i
invariant-loop-i l = record {
  passed : (k : ℕ) → k < l.i → is_digit (get_or l.text k 0) ≡ true;
  size : l.size ≡ held (digits_value 10 (take l.i l.text));
}
