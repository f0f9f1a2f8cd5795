-- Keys that are in order by the numbers before them, and by their bytes where these are the same, are in byte order.
use Rattle.std.proofs.Common.{◌≡◌, ℕ, ◌+◌, ◌*◌, ◌<◌, ◌≤◌, suc, zero, false, [], ◌∷◌, length, refl, sym, ap, ◌∙◌, arith, slice_index_or}
use Rattle.std.proofs.lemmas.List.{get_or_past}
use Rattle.std.proofs.lemmas.Bool.{false≢true}
use Rattle.std.proofs.lemmas.Cmp.{ranked}
use Rattle.std.specs.declared.cmp.Ordering.{Ordering}
use Rattle.std.specs.declared.cmp.Ordering.TheVariants.{Less, Equal, Greater}
use Rattle.std.specs.Ordering.{MatchOrdering, nat_cmp, is_lt, ordering_then, ordering_reverse}
use Rattle.std.specs.Cmp.Lexicographic.{slice_cmp, nat_list_cmp_total}
use Rattle.rawk_value.specs.Values.{Bytes}
use Rattle.rawk_arrays.specs.declared.heads.HeadedKey.{HeadedKey}
use Rattle.rawk_arrays.specs.Heads.{number_with, IsHeaded}

abbrev AreBytes : Bytes → Type 0
AreBytes key = (place : ℕ) → slice_index_or key place 0 < 256

-- past the end of a key stand zeros
pub zeros : (count place : ℕ) (key : Bytes) → length key ≤ place → number_with 0 count place key ≡ 0
zeros zero place key le = refl
zeros (suc count) place key le =
    let here : 0 * 256 + slice_index_or key place 0 ≡ 0 = omega (arith, get_or_past key place 0 le) in
    ap (λ n. number_with n count (suc place) key) here ∙ zeros count (suc place) key (omega (arith, le))

-- the bytes of a key behind its first one
behind_first : (number count place x : ℕ) (xs : Bytes) → number_with number count (suc place) (x ∷ xs) ≡ number_with number count place xs
behind_first number zero place x xs = refl
behind_first number (suc count) place x xs = behind_first (number * 256 + slice_index_or xs place 0) count (suc place) x xs

-- bytes behind a lesser number make a lesser number
rises : (count place a b : ℕ) (xs ys : Bytes) → AreBytes xs → a < b → number_with a count place xs < number_with b count place ys
rises zero place a b xs ys h lt = lt
rises (suc count) place a b xs ys h lt = rises count (suc place) (a * 256 + slice_index_or xs place 0) (b * 256 + slice_index_or ys place 0) xs ys h (omega (arith, lt, h place))

-- zeros make the least number
least : (count place a b : ℕ) (ys : Bytes) → a ≤ b → number_with a count place [] ≤ number_with b count place ys
least zero place a b ys le = le
least (suc count) place a b ys le = least count (suc place) (a * 256 + 0) (b * 256 + slice_index_or ys place 0) ys (omega (arith, le))

-- a key whose number is less is less
number_less : (count number : ℕ) (xs ys : Bytes) → AreBytes xs → AreBytes ys → number_with number count 0 xs < number_with number count 0 ys → slice_cmp nat_cmp xs ys ≡ Less
number_less zero number xs ys h k lt = absurd (omega (arith, lt))
number_less (suc count) number [] [] h k lt = absurd (omega (arith, lt))
number_less (suc count) number [] (y ∷ ys) h k lt = refl
number_less (suc count) number (x ∷ xs) [] h k lt =
    let le : number_with (number * 256 + 0) count 1 [] ≤ number_with (number * 256 + x) count 1 (x ∷ xs) = least count 1 (number * 256 + 0) (number * 256 + x) (x ∷ xs) (omega arith) in
    absurd (omega (arith, lt, le))
number_less (suc count) number (x ∷ xs) (y ∷ ys) h k lt = go (number_less count (number * 256 + x) xs ys (λ i. h (suc i)) (λ i. k (suc i))) (nat_cmp x y) refl (ranked x y (nat_cmp x y) refl)
  where
    go : (number_with (number * 256 + x) count 0 xs < number_with (number * 256 + x) count 0 ys → slice_cmp nat_cmp xs ys ≡ Less) → (r : Ordering) → nat_cmp x y ≡ r → MatchOrdering r (x < y) (x ≡ y) (y < x) → ordering_then (nat_cmp x y) (slice_cmp nat_cmp xs ys) ≡ Less
    go rest Less e at = ap (λ r. ordering_then r (slice_cmp nat_cmp xs ys)) e
    go rest Equal e at =
        let here : number_with (number * 256 + x) count 1 (x ∷ xs) ≡ number_with (number * 256 + x) count 0 xs = behind_first (number * 256 + x) count 0 x xs in
        let there : number_with (number * 256 + y) count 1 (y ∷ ys) ≡ number_with (number * 256 + x) count 0 ys = behind_first (number * 256 + y) count 0 y ys ∙ ap (λ n. number_with (number * 256 + n) count 0 ys) (sym at) in
        ap (λ r. ordering_then r (slice_cmp nat_cmp xs ys)) e ∙ rest (omega (arith, lt, here, there))
    go rest Greater e at =
        let over : number_with (number * 256 + y) count 1 (y ∷ ys) < number_with (number * 256 + x) count 1 (x ∷ xs) = rises count 1 (number * 256 + y) (number * 256 + x) (y ∷ ys) (x ∷ xs) k (omega (arith, at)) in
        absurd (omega (arith, lt, over))

-- how much bytes behind a number differ does not hang on the number
differ_alike : (count place a b c d : ℕ) (xs ys : Bytes) → a + d ≡ c + b → number_with a count place xs + number_with d count place ys ≡ number_with c count place xs + number_with b count place ys
differ_alike zero place a b c d xs ys e = e
differ_alike (suc count) place a b c d xs ys e =
    let x : ℕ = slice_index_or xs place 0 in
    let y : ℕ = slice_index_or ys place 0 in
    differ_alike count (suc place) (a * 256 + x) (b * 256 + y) (c * 256 + x) (d * 256 + y) xs ys (omega (arith, e))

-- a key with a lesser first number is less
first_less : (a b : HeadedKey) → IsHeaded a → IsHeaded b → a.first < b.first → slice_cmp nat_cmp a.key.now b.key.now ≡ Less
first_less a b h k lt = number_less 16 0 a.key.now b.key.now h.bytes k.bytes (rises 8 8 (number_with 0 8 0 a.key.now) (number_with 0 8 0 b.key.now) a.key.now b.key.now h.bytes (omega (arith, lt, h.first, k.first)))

-- and so is one with the same first number and a lesser second one
second_less : (a b : HeadedKey) → IsHeaded a → IsHeaded b → a.first ≡ b.first → a.second < b.second → slice_cmp nat_cmp a.key.now b.key.now ≡ Less
second_less a b h k same lt =
    let f : ℕ = number_with 0 8 0 a.key.now in
    let g : ℕ = number_with 0 8 0 b.key.now in
    let alike : number_with f 8 8 a.key.now + number_with 0 8 8 b.key.now ≡ number_with 0 8 8 a.key.now + number_with g 8 8 b.key.now = differ_alike 8 8 f g 0 0 a.key.now b.key.now (omega (arith, same, h.first, k.first)) in
    let less : number_with f 8 8 a.key.now < number_with g 8 8 b.key.now = omega (arith, lt, alike, h.second, k.second) in
    number_less 16 0 a.key.now b.key.now h.bytes k.bytes less

-- the order in which headed keys are sorted
abbrev pub headed_cmp : HeadedKey → HeadedKey → Ordering
headed_cmp a b = ordering_then (nat_cmp a.first b.first) (ordering_then (nat_cmp a.second b.second) (slice_cmp nat_cmp a.key.now b.key.now))

over : (xs ys : Bytes) → slice_cmp nat_cmp ys xs ≡ Less → is_lt (slice_cmp nat_cmp xs ys) ≡ false
over xs ys less = ap is_lt (nat_list_cmp_total.antisymm xs ys ∙ ap ordering_reverse less)

by_second : (a b : HeadedKey) → IsHeaded a → IsHeaded b → a.first ≡ b.first → is_lt (ordering_then (nat_cmp a.second b.second) (slice_cmp nat_cmp a.key.now b.key.now)) ≡ false → is_lt (slice_cmp nat_cmp a.key.now b.key.now) ≡ false
by_second a b h k same up = go (nat_cmp a.second b.second) refl (ranked a.second b.second (nat_cmp a.second b.second) refl)
  where
    go : (r : Ordering) → nat_cmp a.second b.second ≡ r → MatchOrdering r (a.second < b.second) (a.second ≡ b.second) (b.second < a.second) → is_lt (slice_cmp nat_cmp a.key.now b.key.now) ≡ false
    go Less e at = absurd (false≢true (sym up ∙ ap (λ r. is_lt (ordering_then r (slice_cmp nat_cmp a.key.now b.key.now))) e))
    go Equal e at = sym (ap (λ r. is_lt (ordering_then r (slice_cmp nat_cmp a.key.now b.key.now))) e) ∙ up
    go Greater e at = over a.key.now b.key.now (second_less b a k h (sym same) at)

-- what is not less in that order is not less in byte order
pub not_less_by_key : (a b : HeadedKey) → IsHeaded a → IsHeaded b → is_lt (headed_cmp a b) ≡ false → is_lt (slice_cmp nat_cmp a.key.now b.key.now) ≡ false
not_less_by_key a b h k up = go (nat_cmp a.first b.first) refl (ranked a.first b.first (nat_cmp a.first b.first) refl)
  where
    rest : Ordering
    rest = ordering_then (nat_cmp a.second b.second) (slice_cmp nat_cmp a.key.now b.key.now)

    go : (r : Ordering) → nat_cmp a.first b.first ≡ r → MatchOrdering r (a.first < b.first) (a.first ≡ b.first) (b.first < a.first) → is_lt (slice_cmp nat_cmp a.key.now b.key.now) ≡ false
    go Less e at = absurd (false≢true (sym up ∙ ap (λ r. is_lt (ordering_then r rest)) e))
    go Equal e at = by_second a b h k at (sym (ap (λ r. is_lt (ordering_then r rest)) e) ∙ up)
    go Greater e at = over a.key.now b.key.now (first_less b a k h at)
