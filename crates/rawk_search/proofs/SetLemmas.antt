-- Sets of bytes by a test.
use Rattle.std.proofs.Common.{◌≡◌, ℕ, zero, suc, ◌+◌, ◌-◌, ◌*◌, ◌/◌, ◌%◌, ◌^◌, ◌<◌, inl, inr, Bool, true, false, length, get_or, refl, sym, ap, ◌∙◌, subst, arith}
use Rattle.std.specs.Prelude.{◌↔◌, if◌then◌else◌}
use Rattle.std.specs.Int.{bit_at}
use Rattle.std.proofs.lemmas.Bool.{cases_lt}
use Rattle.std.proofs.lemmas.Nat.Bits.{bit_at_cat_low, bit_at_cat_high}
use Rattle.std.proofs.Math.Nat.{pow-suc}
use Rattle.rawk_ere_tree.specs.ByteSets.{IsSetOf}
use Rattle.rawk_search.specs.Expressions.{word_of, set_of}

abbrev bit_of : Bool → ℕ
bit_of b = if b then 1 else 0

bit_low : (b : Bool) → bit_at (bit_of b) 0 ≡ bit_of b
bit_low true = refl
bit_low false = refl

-- one more bit above those of the word
with_bit : (b : Bool) (top word : ℕ) → word < top → bit_of b * top + word < top * 2
with_bit true top word lt = omega arith
with_bit false top word lt = omega arith

word_below : (test : ℕ → Bool) (from n : ℕ) → word_of test from n < 2 ^ n
unfolding word_of
word_below test from zero = omega arith
word_below test from (suc n) =
    subst (λ top. word_of test from (suc n) < top) (sym (pow-suc 2 n)) (with_bit (test (from + n)) (2 ^ n) (word_of test from n) (word_below test from n))

word_bit : (test : ℕ → Bool) (from n k : ℕ) → k < n → bit_at (word_of test from n) k ≡ bit_of (test (from + k))
unfolding word_of
word_bit test from zero k lt = absurd (omega arith)
word_bit test from (suc n) k lt = elim (cases_lt k n) [
  | inl before ↦ bit_at_cat_low (bit_of (test (from + n))) n (word_of test from n) k before ∙ word_bit test from n k before
  | inr ge ↦
      let here : k ≡ n = omega arith in
      let lowest : k - n ≡ 0 = omega arith in
      bit_at_cat_high (bit_of (test (from + n))) n (word_of test from n) k (word_below test from n) ge ∙ ap (bit_at (bit_of (test (from + n)))) lowest ∙ bit_low (test (from + n)) ∙ ap (λ x. bit_of (test (from + x))) (sym here)
]

word_at : (test : ℕ → Bool) (q : ℕ) → q < 4 → get_or (set_of test) q 0 ≡ word_of test (q * 64) 64
unfolding set_of
word_at test zero lt = refl
word_at test (suc zero) lt = refl
word_at test (suc (suc zero)) lt = refl
word_at test (suc (suc (suc zero))) lt = refl
word_at test (suc (suc (suc (suc q)))) lt = absurd (omega arith)

set_fits : (test : ℕ → Bool) (i : ℕ) → get_or (set_of test) i 0 < 2 ^ 64
unfolding set_of
set_fits test zero = word_below test 0 64
set_fits test (suc zero) = word_below test 64 64
set_fits test (suc (suc zero)) = word_below test 128 64
set_fits test (suc (suc (suc zero))) = word_below test 192 64
set_fits test (suc (suc (suc (suc i)))) = omega arith

set_words : (test : ℕ → Bool) → length (set_of test) ≡ 4
unfolding set_of
set_words test = refl

bit_is : (b : Bool) → bit_of b ≡ 1 → b ≡ true
bit_is true h = refl
bit_is false h = absurd (omega arith)

in_set : (test : ℕ → Bool) (b : ℕ) → b < 256 → bit_at (get_or (set_of test) (b / 64) 0) (b % 64) ≡ bit_of (test b)
in_set test b lt =
    let same : b / 64 * 64 + b % 64 ≡ b = omega arith in
    ap (λ w. bit_at w (b % 64)) (word_at test (b / 64) (omega arith)) ∙ word_bit test (b / 64 * 64) 64 (b % 64) (omega arith) ∙ ap (λ x. bit_of (test x)) same

-- the set of a test that decides P is the set of P
pub set_is : (test : ℕ → Bool) (P : ℕ → Type 0) → ((b : ℕ) → (test b ≡ true) ↔ P b) → IsSetOf P (set_of test)
set_is test P e = record {
  words = set_words test;
  fits = set_fits test;
  by = λ b lt. (λ h. (e b).0 (bit_is (test b) (sym (in_set test b lt) ∙ h)), λ p. in_set test b lt ∙ ap bit_of ((e b).1 p));
}
