-- Small formats, computed from the definitions.
use Rattle.std.specs.Prelude.{◌≡◌, pos, negsuc, [], ◌∷◌, Ok, Err, codes}
use Rattle.std.proofs.Common.{refl}
use Rattle.rawk_value.specs.declared.value.Value.TheVariants.{Number, String, Input}
use Rattle.rawk_value.specs.declared.fault.Fault.TheVariants.{BadFormat}
use Rattle.rawk_format.specs.Format.{formatted}

each-kind : formatted (codes "%d|%5s|%-3c|%.2s") (Number (pos 8) ∷ String (codes "ab") ∷ Number (pos 65) ∷ String (codes "xyz") ∷ []) ≡ Ok (codes "8|   ab|A  |xy")
each-kind = refl

other-bases : formatted (codes "%o|%x|%#X") (Number (pos 8) ∷ Number (pos 511) ∷ Number (pos 255) ∷ []) ≡ Ok (codes "10|1ff|0XFF")
other-bases = refl

-- the least number of digits, spaces before the sign, zeros behind it, a `+`
widths : formatted (codes "%6.3d|%05d|%+d|%-4d|") (Number (negsuc 6) ∷ Number (negsuc 41) ∷ Number (pos 7) ∷ Number (pos 7) ∷ []) ≡ Ok (codes "  -007|-0042|+7|7   |")
widths = refl

-- a width of the arguments
starred : formatted (codes "%*d|%-*d|") (Number (pos 4) ∷ Number (pos 42) ∷ Number (pos 3) ∷ Number (pos 1) ∷ []) ≡ Ok (codes "  42|1  |")
starred = refl

-- a text from the input that looks like a number is one to `%c`, and another text is its first byte
characters : formatted (codes "%c%c%c") (Input (codes "66") ∷ String (codes "66") ∷ Input (codes "xy") ∷ []) ≡ Ok (codes "B6x")
characters = refl

a-percent : formatted (codes "100%% of %i") (String (codes " 3x") ∷ []) ≡ Ok (codes "100% of 3")
a-percent = refl

-- an argument too few, and a conversion that there is not
too-few : formatted (codes "%d") [] ≡ Err BadFormat
too-few = refl

unknown : formatted (codes "%q") (Number (pos 1) ∷ []) ≡ Err BadFormat
unknown = refl
