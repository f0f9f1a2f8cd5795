-- Lemmas on digits and on what is added in pieces.
use Rattle.std.proofs.Common.{◌≡◌, sym, ap, ◌∙◌, ℕ, ◌+◌, ◌/◌, ◌%◌, ◌^◌, ◌<◌, ◌≤◌, [], ◌∷◌, ◌++◌, length, map, drop, set, append_assoc, lt_of_lt_of_le}
use Rattle.std.specs.Int.Digits.{digits_of}
use Rattle.std.proofs.Math.Nat.{pow-le-pow_left}
use Rattle.std.proofs.lemmas.Int.Digits.{digits_of_step, length-digits_of-le}
use Rattle.std.proofs.lemmas.List.{map-append, drop-set}
use Rattle.rawk_value.specs.Values.{Bytes}

pub digits_bound : (b n : ℕ) → 2 ≤ b → n < 2 ^ 64 → length (digits_of b n) ≤ 64
digits_bound b n h m =
    let p : 2 ^ 64 ≤ b ^ 64 = pow-le-pow_left h 64 in
    length-digits_of-le b 64 n h (lt_of_lt_of_le m p)

-- a digit written before those that were written
pub digit_written : (g : ℕ → ℕ) (b left at k v : ℕ) (whole buffer : Bytes) → at ≡ k + 1 → 2 ≤ b → 0 < left → k < length buffer → v ≡ g (left % b) → whole ≡ map g (digits_of b left) ++ drop at buffer
    → whole ≡ map g (digits_of b (left / b)) ++ drop k (set buffer k v)
digit_written g b left at k v whole buffer is h p room e so =
    let ds = digits_of b (left / b) in
    so ∙ ap (λ i. map g (digits_of b left) ++ drop i buffer) is
    ∙ ap (λ t. map g t ++ drop (k + 1) buffer) (digits_of_step b left h p)
    ∙ ap (λ t. t ++ drop (k + 1) buffer) (map-append g ds (left % b ∷ []))
    ∙ append_assoc (map g ds) (g (left % b) ∷ []) (drop (k + 1) buffer)
    ∙ ap (λ d. map g ds ++ (d ∷ drop (k + 1) buffer)) (sym e)
    ∙ ap (λ t. map g ds ++ t) (sym (drop-set buffer k v room))
