-- Sets of bytes.
use Rattle.std.proofs.Common.{◌≡◌, ℕ, ◌+◌, ◌*◌, ◌/◌, ◌%◌, ◌^◌, ◌<◌, ◌≤◌, ◌⊎◌, inl, inr, List, [], ◌∷◌, length, get_or, set, refl, sym, ap, ◌∙◌, subst, arith, length-set, get_or-set_same, get_or-set_other}
use Rattle.std.specs.Prelude.{◌↔◌, slice_set, bit_or}
use Rattle.std.specs.Int.{bit_at, w64}
use Rattle.std.proofs.lemmas.Bool.{cases_eq}
use Rattle.std.proofs.lemmas.List.{ext_get_or}
use Rattle.std.proofs.lemmas.Nat.{or_lt}
use Rattle.std.proofs.lemmas.Nat.Bits.{bit_at_set_same, bit_at_set_other, bit_at-lt, same_from_bits_below}
use Rattle.rawk_ere_tree.specs.ByteSets.{IsIn, HasAlso, IsSetOf, IsInRanges}

-- the word of a byte with its bit
abbrev word_with : ℕ → ℕ → ℕ
word_with n k = bit_or n (1 * 2 ^ k % 2 ^ 64)

pub byte_added : (old : List ℕ) (byte : ℕ) → length old ≡ 4 → byte < 256 → HasAlso old (slice_set old (byte / 64) (word_with (get_or old (byte / 64) 0) (byte % 64))) (λ b. b ≡ byte)
byte_added old byte l lt =
    let n = get_or old (byte / 64) 0 in
    let k = byte % 64 in
    let new = slice_set old (byte / 64) (word_with n k) in
    let within : byte / 64 < length old = omega arith in
    let small : k < 64 = omega arith in
    let here : get_or new (byte / 64) 0 ≡ word_with n k = get_or-set_same old (byte / 64) (word_with n k) 0 within in
    record {
      words = length-set old (byte / 64) (word_with n k);
      fits = λ f i. elim (cases_eq i (byte / 64)) as (λ _. get_or new i 0 < 2 ^ 64) [
        | inl same ↦ subst (λ w. w < 2 ^ 64) (sym (ap (λ x. get_or new x 0) same ∙ here)) (or_lt 64 n (1 * 2 ^ k % 2 ^ 64) (f (byte / 64)) (omega arith))
        | inr other ↦ subst (λ w. w < 2 ^ 64) (sym (get_or-set_other old (byte / 64) i (word_with n k) 0 other)) (f i)
      ];
      by = λ b lb. elim (cases_eq (b / 64) (byte / 64)) as (λ _. IsIn b new ↔ (IsIn b old ⊎ (b ≡ byte))) [
        | inl same ↦
            let word : get_or new (b / 64) 0 ≡ word_with n k = ap (λ i. get_or new i 0) same ∙ here in
            let old_word : get_or old (b / 64) 0 ≡ n = ap (λ i. get_or old i 0) same in
            elim (cases_eq (b % 64) k) as (λ _. IsIn b new ↔ (IsIn b old ⊎ (b ≡ byte))) [
              | inl bit ↦
                  let is : b ≡ byte = omega arith in
                  let on : bit_at (get_or new (b / 64) 0) (b % 64) ≡ 1 = ap (λ w. bit_at w (b % 64)) word ∙ ap (λ i. bit_at (word_with n k) i) bit ∙ bit_at_set_same w64 n k small in
                  (λ h. inr is, λ h. on)
              | inr other ↦
                  let same_bit : bit_at (get_or new (b / 64) 0) (b % 64) ≡ bit_at (get_or old (b / 64) 0) (b % 64) =
                  ap (λ w. bit_at w (b % 64)) word ∙ bit_at_set_other w64 n k small (b % 64) other ∙ sym (ap (λ w. bit_at w (b % 64)) old_word) in
                  (λ h. inl (sym same_bit ∙ h), λ h. elim h [ inl x ↦ same_bit ∙ x | inr e ↦ absurd (other (ap (λ x. x % 64) e)) ])
            ]
        | inr other ↦
            let same_word : get_or new (b / 64) 0 ≡ get_or old (b / 64) 0 = get_or-set_other old (byte / 64) (b / 64) (word_with n k) 0 other in
            let same_bit : bit_at (get_or new (b / 64) 0) (b % 64) ≡ bit_at (get_or old (b / 64) 0) (b % 64) = ap (λ w. bit_at w (b % 64)) same_word in
            (λ h. inl (sym same_bit ∙ h), λ h. elim h [ inl x ↦ same_bit ∙ x | inr e ↦ absurd (other (ap (λ x. x / 64) e)) ])
      ];
    }

bit_cases : (x y : ℕ) → x < 2 → y < 2 → (x ≡ 1 → y ≡ 1) → (y ≡ 1 → x ≡ 1) → x ≡ y
bit_cases x y lx ly f g = elim (cases_eq x 1) [
  | inl one ↦ one ∙ sym (f one)
  | inr other ↦ elim (cases_eq y 1) [
    | inl one ↦ g one ∙ sym one
    | inr none ↦ (let o : x ≡ 1 → ⊥ = other in let n : y ≡ 1 → ⊥ = none in omega (arith, o, n))
  ]
]

word_same : (P : ℕ → Type 0) (a b : List ℕ) → IsSetOf P a → IsSetOf P b → (i : ℕ) → i < 4 → get_or a i 0 ≡ get_or b i 0
word_same P a b sa sb i lt =
    same_from_bits_below 64 (get_or a i 0) (get_or b i 0) (sa.fits i) (sb.fits i) (λ k lk.
    let byte = i * 64 + k in
    let w : byte / 64 ≡ i = omega arith in
    let m : byte % 64 ≡ k = omega arith in
    let lb : byte < 256 = omega arith in
    let pa : bit_at (get_or a (byte / 64) 0) (byte % 64) ≡ bit_at (get_or a i 0) k = ap (λ x. bit_at (get_or a x 0) (byte % 64)) w ∙ ap (λ x. bit_at (get_or a i 0) x) m in
    let pb : bit_at (get_or b (byte / 64) 0) (byte % 64) ≡ bit_at (get_or b i 0) k = ap (λ x. bit_at (get_or b x 0) (byte % 64)) w ∙ ap (λ x. bit_at (get_or b i 0) x) m in
    bit_cases (bit_at (get_or a i 0) k) (bit_at (get_or b i 0) k) (bit_at-lt (get_or a i 0) k) (bit_at-lt (get_or b i 0) k)
    (λ h. sym pb ∙ (sb.by byte lb).1 ((sa.by byte lb).0 (pa ∙ h)))
    (λ h. sym pa ∙ (sa.by byte lb).1 ((sb.by byte lb).0 (pb ∙ h))))

-- a set is known by its bytes
pub set_same : (P : ℕ → Type 0) (a b : List ℕ) → IsSetOf P a → IsSetOf P b → a ≡ b
set_same P a b sa sb = ext_get_or 0 a b (sa.words ∙ sym sb.words) (λ i lt. word_same P a b sa sb i (omega (arith, sa.words)))

pub set_with : (P Q : ℕ → Type 0) (old new : List ℕ) → IsSetOf P old → HasAlso old new Q → IsSetOf (λ b. P b ⊎ Q b) new
set_with P Q old new s h = record {
  words = h.words ∙ s.words;
  fits = h.fits s.fits;
  by = λ b lt. (λ x. elim ((h.by b lt).0 x) [ inl o ↦ inl ((s.by b lt).0 o) | inr q ↦ inr q ], λ x. (h.by b lt).1 (elim x as (λ _. IsIn b old ⊎ Q b) [ inl o ↦ inl ((s.by b lt).1 o) | inr q ↦ inr q ]));
}

pub set_where : (P Q : ℕ → Type 0) (set : List ℕ) → ((b : ℕ) → b < 256 → P b ↔ Q b) → IsSetOf P set → IsSetOf Q set
set_where P Q set e s = record { words = s.words; fits = s.fits; by = λ b lt. (λ x. (e b lt).0 ((s.by b lt).0 x), λ x. (s.by b lt).1 ((e b lt).1 x)) }

pub also_none : (set : List ℕ) (P : ℕ → Type 0) → ((b : ℕ) → P b → ⊥) → HasAlso set set P
also_none set P n = record { words = refl; fits = λ f. f; by = λ b lt. (λ x. inl x, λ x. elim x [ inl o ↦ o | inr p ↦ absurd (n b p) ]) }

pub also_both : (a b c : List ℕ) (P Q R : ℕ → Type 0) → ((k : ℕ) → (P k ⊎ Q k) ↔ R k) → HasAlso a b P → HasAlso b c Q → HasAlso a c R
also_both a b c P Q R e x y = record {
  words = y.words ∙ x.words;
  fits = λ f. y.fits (x.fits f);
  by = λ k lt. (
    λ h. elim ((y.by k lt).0 h) as (λ _. IsIn k a ⊎ R k) [ inl o ↦ elim ((x.by k lt).0 o) [ inl z ↦ inl z | inr p ↦ inr ((e k).0 (inl p)) ] | inr q ↦ inr ((e k).0 (inr q)) ],
    λ h. (y.by k lt).1 (elim h as (λ _. IsIn k b ⊎ Q k) [ inl o ↦ inl ((x.by k lt).1 (inl o)) | inr r ↦ elim ((e k).1 r) [ inl p ↦ inl ((x.by k lt).1 (inr p)) | inr q ↦ inr q ] ]),
  );
}

pub also_where : (a b : List ℕ) (P Q : ℕ → Type 0) → ((k : ℕ) → P k ↔ Q k) → HasAlso a b P → HasAlso a b Q
also_where a b P Q e x = record {
  words = x.words;
  fits = x.fits;
  by = λ k lt. (λ h. elim ((x.by k lt).0 h) [ inl o ↦ inl o | inr p ↦ inr ((e k).0 p) ], λ h. (x.by k lt).1 (elim h as (λ _. IsIn k a ⊎ P k) [ inl o ↦ inl o | inr q ↦ inr ((e k).1 q) ]));
}

pub also_range : (a b : List ℕ) (low high : ℕ) → HasAlso a b (λ k. (low ≤ k) × (k ≤ high)) → HasAlso a b (λ k. IsInRanges k ((low, high) ∷ []))
also_range a b low high h = also_where a b (λ k. (low ≤ k) × (k ≤ high)) (λ k. IsInRanges k ((low, high) ∷ [])) (λ k. (λ x. inl x, λ x. elim x [ inl y ↦ y | inr n ↦ absurd n ])) h

pub also_ranges : (a b c : List ℕ) (low high : ℕ) (more : List (ℕ × ℕ)) → HasAlso a b (λ k. (low ≤ k) × (k ≤ high)) → HasAlso b c (λ k. IsInRanges k more) → HasAlso a c (λ k. IsInRanges k ((low, high) ∷ more))
also_ranges a b c low high more x y = also_both a b c (λ k. (low ≤ k) × (k ≤ high)) (λ k. IsInRanges k more) (λ k. IsInRanges k ((low, high) ∷ more)) (λ k. (λ h. h, λ h. h)) x y
