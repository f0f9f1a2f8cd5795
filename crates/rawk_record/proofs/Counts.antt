-- The parts of a text, and how many fields it has at most.
use Rattle.std.proofs.Common.{◌≡◌, ◌≤◌, ◌<◌, ◌+◌, ◌==◌, ◌&&◌, ◌||◌, ℕ, Bool, false, nat_eq, List, [], ◌∷◌, length, refl, ap, arith}
use Rattle.std.specs.List.{slice_split}
use Rattle.std.proofs.lemmas.Bool.{ne_eqb}
use Rattle.std.proofs.lemmas.List.Splits.{length-slice_split}
use Rattle.std.proofs.lemmas.List.Sums.{length-filter, count_by-le-length}
use Rattle.rawk_value.specs.Values.{Bytes, is_blank}
use Rattle.rawk_pieces.specs.Fields.{words, byte_parts}
use Rattle.rawk_pieces.specs.Pieces.{has_bytes}
use Rattle.rawk_record.specs.Uncuts.{divided}
use Rattle.rawk_record.specs.declared.uncut.Divider.{Divider}
use Rattle.rawk_record.specs.declared.uncut.Divider.TheVariants.{Blanks, Byte}

-- the parts of a text with bytes
pub parts-split : (p : ℕ → Bool) (text : List ℕ) → 0 < length text → byte_parts p text ≡ slice_split p text
parts-split p [] h = absurd (omega arith)
parts-split p (x ∷ xs) h = let t : nat_eq (length (x ∷ xs)) 0 ≡ false = ne_eqb (length (x ∷ xs)) 0 (omega arith) in rw t refl

split-few : (p : ℕ → Bool) (s : Bytes) → length (slice_split p s) ≤ length s + 1
split-few p s = omega (arith, length-slice_split p s, count_by-le-length p s)

words-few : (s : Bytes) → length (words s) ≤ length s + 1
words-few s =
    let parts = slice_split is_blank s in
    omega (arith, length-filter has_bytes parts, count_by-le-length has_bytes parts, split-few is_blank s)

parts-few : (p : ℕ → Bool) (s : Bytes) → length (byte_parts p s) ≤ length s + 1
parts-few p [] = let none : length (byte_parts p []) ≡ 0 = refl in omega (arith, none)
parts-few p (x ∷ xs) =
    let some : 0 < length (x ∷ xs) = omega arith in
    omega (arith, split-few p (x ∷ xs), ap length (parts-split p (x ∷ xs) some))

pub divided-few : (d : Divider) (s : Bytes) → length (divided d s) ≤ length s + 1
divided-few Blanks s = words-few s
divided-few (Byte class) s = parts-few (λ c. c == class.byte || class.newline && c == 10) s
