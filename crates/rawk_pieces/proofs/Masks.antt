-- Masks of 32 bytes.
use Rattle.std.proofs.Common.{◌≡◌, ◌≢◌, ℕ, zero, suc, ◌+◌, ◌-◌, ◌<◌, ◌≤◌, ◌/◌, ◌%◌, ◌^◌, Bool, true, false, cond, ◌&&◌, ◌||◌, ◌⊎◌, inl, inr, List, [], ◌∷◌, length, ◌++◌, drop, take, replicate, get_or, map, refl, sym, ap, ◌∙◌, arith, bit_or, shr-shr}
use Rattle.std.specs.Int.{bit_at}
use Rattle.std.proofs.lemmas.Bool.{cases_eq, cases_lt, false≢true}
use Rattle.std.proofs.lemmas.Nat.Bits.{bit_at_or, bit_at-lt, bit_at-zero}
use Rattle.std.specs.Simd.Lanes.{mask_l, chunk}
use Rattle.std.proofs.lemmas.Simd.{bit_mask_l, get_or-chunk}
use Rattle.std.proofs.lemmas.List.{get_or-map, length-map, get_or-append_right, get_or-drop, get_or-replicate, get_or-take}
use Rattle.rawk_pieces.specs.Masks.{IsMaskOf, IsMaskFrom}

abbrev as_bit : Bool → ℕ
as_bit b = cond b 1 0

is_set : (b : Bool) → as_bit b ≡ 1 → b ≡ true
is_set true h = refl
is_set false h = absurd (omega (arith, h))

past : {T : Type 0} (xs : List T) (k : ℕ) (d : T) → length xs ≤ k → get_or xs k d ≡ d
past [] k d h = refl
past (x ∷ xs) zero d h = absurd (omega arith)
past (x ∷ xs) (suc k) d h = past xs k d (omega arith)

-- the mask of a comparison of each lane
pub IsMaskOf-mask_l : (p : ℕ → Bool) (block : List ℕ) → length block ≡ 32 → IsMaskOf p block (mask_l (map p block))
IsMaskOf-mask_l p block size = record { marks = λ k h. one k h (cases_lt k 32); all = λ k l h. bit k ∙ ap as_bit (lane k l ∙ h) }
  where
    bit : (k : ℕ) → bit_at (mask_l (map p block)) k ≡ as_bit (get_or (map p block) k false)
    bit k = bit_mask_l (map p block) k

    lane : (k : ℕ) → k < 32 → get_or (map p block) k false ≡ p (get_or block k 0)
    lane k l = get_or-map p block k 0 false (omega (arith, size))

    one : (k : ℕ) → bit_at (mask_l (map p block)) k ≡ 1 → (k < 32) ⊎ (32 ≤ k) → (k < 32) × (p (get_or block k 0) ≡ true)
    one k h (inl l) = (l, sym (lane k l) ∙ is_set _ (sym (bit k) ∙ h))
    one k h (inr g) = absurd (false≢true (sym (past (map p block) k false (omega (arith, size, length-map block p))) ∙ is_set _ (sym (bit k) ∙ h)))

or_left : (a b : Bool) → a ≡ true → (a || b) ≡ true
or_left true b h = refl
or_left false b h = absurd (false≢true h)

or_right : (a b : Bool) → b ≡ true → (a || b) ≡ true
or_right true b h = refl
or_right false b h = h

or_cases : (a b : Bool) → (a || b) ≡ true → (a ≡ true) ⊎ (b ≡ true)
or_cases true b h = inl refl
or_cases false b h = inr h

-- the bits of two masks
pub IsMaskOf-or : (p q : ℕ → Bool) (block : List ℕ) (m n : ℕ) → IsMaskOf p block m → IsMaskOf q block n → IsMaskOf (λ b. p b || q b) block (bit_or m n)
IsMaskOf-or p q block m n a b = record {
  marks = λ k h.
      elim (cases_eq (bit_at m k) 1) [
        | inl e ↦ ((a.marks k e).0, or_left _ _ (a.marks k e).1)
        | inr d ↦
            let e : bit_at n k ≡ 1 = omega (arith, bit_at_or m n k, bit_at-lt m k, bit_at-lt n k) in
            ((b.marks k e).0, or_right _ _ (b.marks k e).1)
      ];
  all = λ k l h.
      elim (or_cases (p (get_or block k 0)) (q (get_or block k 0)) h) [
        | inl e ↦ omega (arith, bit_at_or m n k, bit_at-lt m k, bit_at-lt n k, a.all k l e)
        | inr e ↦ omega (arith, bit_at_or m n k, bit_at-lt m k, bit_at-lt n k, b.all k l e)
      ];
}

pub IsMaskOf-none : (p : ℕ → Bool) (block : List ℕ) → ((k : ℕ) → k < 32 → p (get_or block k 0) ≡ false) → IsMaskOf p block 0
IsMaskOf-none p block h = record {
  marks = λ k e. absurd (omega (arith, bit_at-zero k));
  all = λ k l e. absurd (false≢true (sym (h k l) ∙ e));
}

-- a block at the place where the bits begin
pub IsMaskFrom-block : (p : ℕ → Bool) (text : List ℕ) (at mask : ℕ) → at + 32 ≤ length text → IsMaskOf p (chunk at 32 text) mask → IsMaskFrom p text at at mask
IsMaskFrom-block p text at mask room m = record {
  marks = λ k h. let r = m.marks k h in (r.0, omega (arith, r.0), omega arith, ap p (sym (get_or-chunk at 32 text k 0 r.0)) ∙ r.1);
  all = λ k l inside low h. m.all k l (ap p (get_or-chunk at 32 text k 0 l) ∙ h);
}

-- the last block, shifted to the place where the bits begin
pub IsMaskFrom-last : (p : ℕ → Bool) (text : List ℕ) (last at mask : ℕ) → last + 32 ≡ length text → last ≤ at → IsMaskOf p (chunk last 32 text) mask → IsMaskFrom p text at at (mask / 2 ^ (at - last))
IsMaskFrom-last p text last at mask room low m = record {
  marks = λ k h.
      let r = m.marks (at - last + k) (sym (bit k) ∙ h) in
      (omega (arith, r.0), omega (arith, r.0), omega arith, ap (λ n. p (get_or text n 0)) (sym (place k)) ∙ (ap p (sym (get_or-chunk last 32 text (at - last + k) 0 r.0)) ∙ r.1));
  all = λ k l inside from h.
      let l' : at - last + k < 32 = omega arith in
      bit k ∙ m.all (at - last + k) l' (ap p (get_or-chunk last 32 text (at - last + k) 0 l') ∙ (ap (λ n. p (get_or text n 0)) (place k) ∙ h));
}
  where
    bit : (k : ℕ) → bit_at (mask / 2 ^ (at - last)) k ≡ bit_at mask (at - last + k)
    bit k = ap (λ x. x % 2) (shr-shr mask (at - last) k)

    place : (k : ℕ) → last + (at - last + k) ≡ at + k
    place k = omega arith

-- a block that begins with a short text, and has no byte that passes behind it
pub IsMaskFrom-short : (p : ℕ → Bool) (block text : List ℕ) (byte mask : ℕ) → take (length text) block ≡ text → ((k : ℕ) → length text ≤ k → k < 32 → get_or block k 0 ≡ byte) → p byte ≡ false → IsMaskOf p block mask → IsMaskFrom p text 0 0 mask
IsMaskFrom-short p block text byte mask front rest none m = record {
  marks = λ k h.
      let r = m.marks k h in
      elim (cases_lt k (length text)) [
        | inl l ↦ (r.0, omega (arith, l), omega arith, ap p (here k l) ∙ r.1)
        | inr g ↦ absurd (false≢true (sym (ap p (rest k g r.0) ∙ none) ∙ r.1))
      ];
  all = λ k l inside low h. m.all k l (ap p (sym (here k (omega (arith, inside)))) ∙ h);
}
  where
    here : (k : ℕ) → k < length text → get_or text (0 + k) 0 ≡ get_or block k 0
    here k l =
        let e : 0 + k ≡ k = omega arith in
        ap (λ j. get_or text j 0) e ∙ (ap (λ (xs : List ℕ). get_or xs k 0) (sym front) ∙ get_or-take (length text) block k 0 l)

-- what stands behind a front, where it was filled with one byte
pub get_padding : (front all : List ℕ) (byte n k : ℕ) → all ≡ replicate 32 byte → length front ≡ n → n ≤ k → k < 32 → get_or (front ++ drop n all) k 0 ≡ byte
get_padding front all byte n k same size low high =
    let e : n + (k - n) ≡ k = omega arith in
    get_or-append_right front (drop n all) n k 0 size low
    ∙ (get_or-drop n all (k - n) 0 ∙ (ap (λ j. get_or all j 0) e ∙ (ap (λ (xs : List ℕ). get_or xs k 0) same ∙ get_or-replicate 32 k byte 0 high)))

-- after the lowest bit
pub IsMaskFrom-next : (p : ℕ → Bool) (text : List ℕ) (at from mask rest bit : ℕ) → IsMaskFrom p text at from mask →
    ((k : ℕ) → k < bit → bit_at mask k ≡ 0) → bit_at rest bit ≡ 0 → ((k : ℕ) → k < 64 → k ≢ bit → bit_at rest k ≡ bit_at mask k) → ((k : ℕ) → bit_at rest k ≡ 1 → bit_at mask k ≡ 1) →
    from ≤ at + bit → IsMaskFrom p text at (at + bit + 1) rest
IsMaskFrom-next p text at from mask rest bit m below cleared kept none_new low = record {
  marks = λ k h.
      let r = m.marks k (none_new k h) in
      (r.0, r.1, above k h (cases_eq k bit) (cases_lt k bit), r.3);
  all = λ k l inside after h.
      let other : k ≢ bit = omega arith in
      kept k (omega arith) other ∙ m.all k l inside (omega arith) h;
}
  where
    above : (k : ℕ) → bit_at rest k ≡ 1 → (k ≡ bit) ⊎ (k ≢ bit) → (k < bit) ⊎ (bit ≤ k) → at + bit + 1 ≤ at + k
    above k h (inl e) c = absurd (omega (arith, cleared, sym (ap (bit_at rest) e) ∙ h))
    above k h (inr d) (inl l) = absurd (omega (arith, below k l, none_new k h))
    above k h (inr d) (inr g) = omega arith

pub IsMaskOf-only_if : (b : Bool) (p : ℕ → Bool) (block : List ℕ) (mask : ℕ) → IsMaskOf p block mask → IsMaskOf (λ x. b && p x) block (cond b mask 0)
IsMaskOf-only_if true p block mask m = m
IsMaskOf-only_if false p block mask m = IsMaskOf-none (λ x. false) block (λ k l. refl)
