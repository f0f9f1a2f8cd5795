-- What the operations on vectors of 32 bytes hold at each lane.
use Rattle.std.proofs.Common.{◌≡◌, ℕ, ◌+◌, ◌*◌, ◌/◌, ◌%◌, ◌<◌, List, Bool, true, false, cond, length, get_or, map, replicate, refl, sym, ap, ◌∙◌, arith, w8, inl, inr}
use Rattle.std.specs.Int.{bit_at}
use Rattle.std.specs.Simd.Lanes.{zip2, mask_l}
use Rattle.std.proofs.lemmas.Bool.{cases_lt, false≢true}
use Rattle.std.proofs.lemmas.Simd.{length-zip2, get_or-zip2, get_or-replicate, length-swz_l, get_or-swz_l_below, swz_l, SwzOk, SwzOk-from_below, Each1-from_get_or, bit_mask_l}
use Rattle.std.proofs.lemmas.List.{get_or_past, length-map, get_or-map}
use Rattle.rawk_ere_begins.specs.Lanes.{HasLanes}

-- an operator on two vectors
pub HasLanes-zip2 : (f : ℕ → ℕ → ℕ) (a b : List ℕ) → length a ≡ 32 → length b ≡ 32 → HasLanes (zip2 f a b) (λ k. f (get_or a k 0) (get_or b k 0))
HasLanes-zip2 f a b p q = record {
  long = length-zip2 f a b (p ∙ sym q) ∙ p;
  each = λ k l. get_or-zip2 f a b k 0 0 0 (omega arith) (omega arith);
}

-- an operator on a vector and a splat
pub HasLanes-splat : (f : ℕ → ℕ → ℕ) (a : List ℕ) (x : ℕ) → length a ≡ 32 → HasLanes (zip2 f a (replicate 32 x)) (λ k. f (get_or a k 0) x)
HasLanes-splat f a x p =
    let h = HasLanes-zip2 f a (replicate 32 x) p refl in
    record { long = h.long; each = λ k l. h.each k l ∙ ap (f (get_or a k 0)) (get_or-replicate 32 k x 0 l) }

module _ (js : List ℕ) (f : ℕ → ℕ) (h : HasLanes js f) (small : (k : ℕ) → k < 32 → f k < 16) where
  -- positions below 16 may be looked up
  pub SwzOk-below : SwzOk w8 16 32 0 js
  SwzOk-below =
      let long = h.long in
      SwzOk-from_below w8 16 2 32 0 js refl (omega arith) (Each1-from_get_or (λ j. j < 16) js 0 (λ i l. omega (arith, h.each i (omega arith), small i (omega arith))))

  HasLanes-swz_l : (table : List ℕ) → HasLanes (swz_l w8 16 table 0 js) (λ k. get_or table (16 * (k / 16) + f k) 0)
  HasLanes-swz_l table =
      let long = h.long in
      record {
        long = length-swz_l w8 16 table 0 js ∙ long;
        each = λ k l.
            let e = h.each k l in
            get_or-swz_l_below w8 16 table 0 js k (omega arith) (omega (arith, small k l)) ∙ ap (λ j. get_or table j 0) (omega arith);
      }

  -- what the look-up gives, in a vector that holds the table twice
  pub HasLanes-look_up : {wide : List ℕ} (table : List ℕ) → HasLanes wide (λ k. get_or table (k % 16) 0) → HasLanes (swz_l w8 16 wide 0 js) (λ k. get_or table (f k) 0)
  HasLanes-look_up {wide} table twice =
      let got = HasLanes-swz_l wide in
      record {
        long = got.long;
        each = λ k l.
            let below = small k l in
            got.each k l ∙ twice.each (16 * (k / 16) + f k) (omega arith) ∙ ap (λ j. get_or table j 0) (omega arith);
      }

-- a bit of the mask of a test of each lane
pub mask_has : (p : ℕ → Bool) (v : List ℕ) (k : ℕ) → k < length v → p (get_or v k 0) ≡ true → bit_at (mask_l (map p v)) k ≡ 1
mask_has p v k lt h = bit_mask_l (map p v) k ∙ ap (λ b. cond {A = ℕ} b 1 0) (get_or-map p v k 0 false lt ∙ h)

as_one : (b : Bool) → cond {A = ℕ} b 1 0 ≡ 1 → b ≡ true
as_one true h = refl
as_one false h = absurd (omega (arith, h))

pub mask_only : (p : ℕ → Bool) (v : List ℕ) (k : ℕ) → bit_at (mask_l (map p v)) k ≡ 1 → k < length v → p (get_or v k 0) ≡ true
mask_only p v k h lt = sym (get_or-map p v k 0 false lt) ∙ as_one _ (sym (bit_mask_l (map p v) k) ∙ h)

pub mask_within : (p : ℕ → Bool) (v : List ℕ) (k : ℕ) → bit_at (mask_l (map p v)) k ≡ 1 → k < length v
mask_within p v k h = elim (cases_lt k (length v)) [
  | inl lt ↦ lt
  | inr ge ↦ absurd (false≢true (sym (get_or_past (map p v) k false (omega (arith, length-map v p, ge))) ∙ as_one _ (sym (bit_mask_l (map p v) k) ∙ h)))
]
