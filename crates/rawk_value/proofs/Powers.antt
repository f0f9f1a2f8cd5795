-- Lemmas on powers.
use Rattle.std.proofs.Common.{◌≡◌, refl, sym, ap, ◌∙◌, ℕ, ◌+◌, ◌*◌, ◌%◌, ◌<◌, ◌≤◌, ◌^◌, zero, suc, Bool, true, false, not, cond, ◌==◌, arith, add-one, mul-zero, zero-mul, le_trans, Result, Ok, Err, Option, Some, None}
use Rattle.std.specs.Prelude.{ℤ, pos, negsuc, ◌*ℤ◌, neg_ℤ, int_lt, unsigned_abs}
use Rattle.std.specs.Option.{SomeIff, ok_or}
use Rattle.std.specs.Int.{int_pow, w64}
use Rattle.std.specs.Int.RustNames.{FitsSigned}
use Rattle.std.proofs.Math.Nat.{pow-zero, pow-succ', pow-le-pow_left, pow-le-pow_right}
use Rattle.std.proofs.lemmas.Bool.Decides.{nat_tests}
use Rattle.rawk_value.specs.Values.{power, checked, fits, is_odd, powered, inverse_power}
use Rattle.rawk_value.specs.declared.fault.Fault.{Fault}
use Rattle.rawk_value.specs.declared.fault.Fault.TheVariants.{Overflow}

power_pos : (a n : ℕ) → power (pos a) n ≡ pos (a ^ n)
power_pos a zero = ap pos (sym (pow-zero a))
power_pos a (suc n) = ap (λ z. pos a *ℤ z) (power_pos a n) ∙ ap pos (sym (pow-succ' a n))

less_times : (a k : ℕ) → negsuc a *ℤ neg_ℤ (pos k) ≡ pos (suc a * k)
less_times a zero = rw mul-zero refl
less_times a (suc k) = refl

-- a product with a number below 0 has the other sign
turned : (b : Bool) (a k : ℕ) → negsuc a *ℤ cond b (pos k) (neg_ℤ (pos k)) ≡ cond (not b) (pos (suc a * k)) (neg_ℤ (pos (suc a * k)))
turned true a k = refl
turned false a k = less_times a k

other_parity : (n : ℕ) → (suc n % 2 == 0) ≡ not (n % 2 == 0)
other_parity n = grind (arith, nat_tests)

power_less : (a n : ℕ) → power (negsuc a) n ≡ cond (n % 2 == 0) (pos (suc a ^ n)) (neg_ℤ (pos (suc a ^ n)))
power_less a zero = ap pos (sym (pow-zero (suc a)))
power_less a (suc n) =
    ap (λ z. negsuc a *ℤ z) (power_less a n) ∙ turned (n % 2 == 0) a (suc a ^ n)
    ∙ ap (λ k. cond (not (n % 2 == 0)) (pos k) (neg_ℤ (pos k))) (sym (pow-succ' (suc a) n))
    ∙ ap (λ b. cond b (pos (suc a ^ suc n)) (neg_ℤ (pos (suc a ^ suc n)))) (sym (other_parity n))

-- the power is std's
pub power_is : (x : ℤ) (n : ℕ) → power x n ≡ int_pow x n
power_is (pos a) n = power_pos a n
power_is (negsuc a) n = power_less a n

odd_next : (n : ℕ) → is_odd (suc n) ≡ not (is_odd n)
odd_next n = grind (arith, nat_tests)

power_one : (n : ℕ) → power (pos 1) n ≡ pos 1
power_one zero = refl
power_one (suc n) = ap (λ z. pos 1 *ℤ z) (power_one n)

minus_turned : (b : Bool) → negsuc 0 *ℤ cond b (negsuc 0) (pos 1) ≡ cond (not b) (negsuc 0) (pos 1)
minus_turned true = refl
minus_turned false = refl

power_minus_one : (n : ℕ) → power (negsuc 0) n ≡ cond (is_odd n) (negsuc 0) (pos 1)
power_minus_one zero = refl
power_minus_one (suc n) = ap (λ z. negsuc 0 *ℤ z) (power_minus_one n) ∙ minus_turned (is_odd n) ∙ ap (λ b. cond b (negsuc 0) (pos 1)) (sym (odd_next n))

power_zero : (n : ℕ) → 0 < n → power (pos 0) n ≡ pos 0
power_zero zero h = absurd (omega arith)
power_zero (suc n) h = ap (λ z. pos 0 *ℤ z) (power_pos 0 n) ∙ ap pos (zero-mul (0 ^ n))

-- an odd power of 0, 1 or -1
pub unit_odd : (x : ℤ) (n : ℕ) → unsigned_abs x < 2 → is_odd n ≡ true → checked (power x n) ≡ Ok x
unit_odd (pos zero) n h o = let p : 0 < n = grind (arith, nat_tests) in ap checked (power_zero n p)
unit_odd (pos (suc zero)) n h o = ap checked (power_one n)
unit_odd (pos (suc (suc a))) n h o = absurd (omega arith)
unit_odd (negsuc zero) n h o = ap checked (power_minus_one n ∙ ap (λ b. cond b (negsuc 0) (pos 1)) o)
unit_odd (negsuc (suc a)) n h o = absurd (omega arith)

-- an even one
pub unit_even : (x : ℤ) (n : ℕ) → unsigned_abs x < 2 → 0 < n → is_odd n ≡ false → checked (power x n) ≡ Ok (pos (unsigned_abs x))
unit_even (pos zero) n h p o = ap checked (power_zero n p)
unit_even (pos (suc zero)) n h p o = ap checked (power_one n)
unit_even (pos (suc (suc a))) n h p o = absurd (omega arith)
unit_even (negsuc zero) n h p o = ap checked (power_minus_one n ∙ ap (λ b. cond b (negsuc 0) (pos 1)) o)
unit_even (negsuc (suc a)) n h p o = absurd (omega arith)

too_large : (b : Bool) (k : ℕ) → 2 ^ 64 ≤ k → checked (cond b (pos k) (neg_ℤ (pos k))) ≡ Err Overflow
too_large true k h = grind (arith, nat_tests)
too_large false zero h = absurd (omega arith)
too_large false (suc k) h = grind (arith, nat_tests)

great : (a n : ℕ) → 2 ≤ a → 64 ≤ n → 2 ^ 64 ≤ a ^ n
great a n h m =
    let base : 0 < 2 = omega arith in
    let p : 2 ^ 64 ≤ 2 ^ n = pow-le-pow_right base m in
    let q : 2 ^ n ≤ a ^ n = pow-le-pow_left h n in
    le_trans p q

-- a power of 64 or more is too large where the base is none of 0, 1 and -1
pub power_great : (x : ℤ) (n : ℕ) → 2 ≤ unsigned_abs x → 64 ≤ n → checked (power x n) ≡ Err Overflow
power_great (pos a) n h m = ap checked (power_pos a n) ∙ too_large true (a ^ n) (great a n h m)
power_great (negsuc a) n h m = ap checked (power_less a n) ∙ too_large (n % 2 == 0) (suc a ^ n) (great (suc a) n h m)

pub powered_below : (x y : ℤ) (size : ℕ) (r : Result ℤ Fault) → int_lt y (pos 0) ≡ true → size ≡ unsigned_abs y → ((n : ℕ) → is_odd size ≡ is_odd n → r ≡ inverse_power x n) → r ≡ powered x y
powered_below x (pos n) size r h e f = absurd (grind (arith, nat_tests))
powered_below x (negsuc n) size r h e f = f (n + 1) (ap is_odd (e ∙ sym (add-one n)))

fits_yes : (z : ℤ) → FitsSigned w64 z → fits z ≡ true
fits_yes (pos n) h = let l : n < 2 ^ 63 = h.sfits in grind (arith, nat_tests)
fits_yes (negsuc n) h = let l : n < 2 ^ 63 = h.sfits in grind (arith, nat_tests)

fits_from : (z : ℤ) → fits z ≡ true → FitsSigned w64 z
fits_from (pos n) h = record { sfits = grind (arith, nat_tests) }
fits_from (negsuc n) h = record { sfits = grind (arith, nat_tests) }

unfit : (z : ℤ) (b : Bool) → fits z ≡ b → ¬ FitsSigned w64 z → cond b (Ok z) (Err Overflow) ≡ Err Overflow
unfit z true e h = absurd (h (fits_from z e))
unfit z false e h = refl

-- a number that is given where it fits
pub checked_from : (r : Option ℤ) (z : ℤ) → SomeIff r (FitsSigned w64 z) z → ok_or r Overflow ≡ checked z
checked_from None z h = sym (unfit z (fits z) refl h)
checked_from (Some v) z h = ap Ok h.1 ∙ ap (λ b. cond b (Ok z) (Err Overflow)) (sym (fits_yes z h.0))
