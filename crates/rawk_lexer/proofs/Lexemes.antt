-- How far numbers, strings and symbols go that stand at the front of a text.
use Rattle.std.proofs.Common.{◌≡◌, ◌≢◌, ℕ, zero, suc, ◌+◌, ◌≤◌, Bool, true, false, not, ◌&&◌, ◌||◌, cond, ◌==◌, ◌⊎◌, inl, inr, List, [], ◌∷◌, ◌++◌, length, take, drop, Some, None, refl, sym, ap, subst, ◌∙◌, append_assoc, append-nil, length-append, arith, rules}
use Rattle.std.specs.Prelude.{slice_index}
use Rattle.std.proofs.Math.Seq.{take-add, drop-append_seam}
use Rattle.rawk_keywords.specs.declared.class.Class.{Class}
use Rattle.rawk_keywords.specs.declared.class.Class.TheVariants as class
use Rattle.rawk_keywords.specs.declared.token.Kind.{Kind}
use Rattle.rawk_keywords.specs.declared.token.Kind.TheVariants as k
use Rattle.rawk_keywords.specs.Classes.{is_in}
use Rattle.rawk_lexer.specs.Lex.{run, fraction_len, sign_len, power_len, exponent_len, mantissa_len, number_len, begins_number, closing, singles, doubles, among, among_pairs, single, double}
use Rattle.rawk_lexer.specs.Token.{Run, no_more, more, Mantissa, whole, pointed, fraction, Sign, no_sign, plus, minus, Exponent, no_exponent, power, Inside, close, byte, escaped}

-- ---- tests

and_left : (a b : Bool) → (a && b) ≡ true → a ≡ true
and_left true b h = refl
and_left false b h = h

and_right : (a b : Bool) → (a && b) ≡ true → b ≡ true
and_right true b h = h
and_right false b h = cc

pub is_same : (a b : ℕ) → (a == b) ≡ true → a ≡ b
is_same a b h = search (rules, h)

pub is_other : (a b : ℕ) → (a == b) ≡ false → a ≢ b
is_other a b h e = let q : (a == b) ≡ true = search (rules, e) in cc

pub other_test : (a b : ℕ) → a ≢ b → (a == b) ≡ false
other_test a b h = search (rules, h)

-- a test that holds of b and not of n tells them apart
pub apart : (p : ℕ → Bool) (b n : ℕ) → p b ≡ true → p n ≡ false → (b == n) ≡ false
apart p b n h g = other_test b n (λ e. let q = ap p e in cc)

-- ---- runs

pub drop_one : (n b : ℕ) (z : List ℕ) → drop (1 + n) (b ∷ z) ≡ drop n z
drop_one n b z = let e : 1 + n ≡ suc n = omega arith in ap (λ m. drop m (b ∷ z)) e

pub take_one : (n b : ℕ) (z : List ℕ) → take (1 + n) (b ∷ z) ≡ b ∷ take n z
take_one n b z = let e : 1 + n ≡ suc n = omega arith in ap (λ m. take m (b ∷ z)) e

pub run_take : (c : Class) (z : List ℕ) → Run c (take (run c z) z)
run_take c [] = no_more
run_take c (b ∷ z) = go (is_in c b) refl (run_take c z)
  where
    go : (s : Bool) → is_in c b ≡ s → Run c (take (run c z) z) → Run c (take (cond s (1 + run c z) 0) (b ∷ z))
    go true e r = rw (take_one (run c z) b z) (more e r)
    go false e r = no_more

pub run_front : (c : Class) (v u : List ℕ) → Run c v → length v ≤ run c (v ++ u)
run_front c [] u no_more = omega arith
run_front c (b ∷ v) u (more h r) = let e = run_front c v u r in rw h (omega arith)

pub run_exact : (c : Class) (v : List ℕ) (x : ℕ) (u : List ℕ) → Run c v → is_in c x ≡ false → run c (v ++ x ∷ u) ≡ length v
run_exact c [] x u no_more h = rw h refl
run_exact c (b ∷ v) x u (more g r) h = let e = run_exact c v x u r h in rw g (omega arith)

-- ---- numbers: what the functions take is one

fraction_mantissa : (b : ℕ) (d r : List ℕ) → Run class.Digit (b ∷ d) → Mantissa (b ∷ d ++ take (fraction_len r) r)
fraction_mantissa b d [] h = rw append-nil (whole h)
fraction_mantissa b d (x ∷ r) h = go (x == 46) refl
  where
    go : (s : Bool) → (x == 46) ≡ s → Mantissa (b ∷ d ++ take (cond s (1 + run class.Digit r) 0) (x ∷ r))
    go true e = rw (take_one (run class.Digit r) x r, is_same x 46 e) (pointed h (run_take class.Digit r))
    go false e = rw append-nil (whole h)

digit_mantissa : (b : ℕ) (z : List ℕ) → is_in class.Digit b ≡ true → Mantissa (take (mantissa_len (b ∷ z)) (b ∷ z))
digit_mantissa b z h =
    let n : ℕ = run class.Digit z in
    let first : run class.Digit (b ∷ z) ≡ 1 + n = rw h refl in
    let digits : Run class.Digit (b ∷ take n z) = more h (run_take class.Digit z) in
    let r : List ℕ = drop n z in
    let split : take ((1 + n) + fraction_len r) (b ∷ z) ≡ b ∷ take n z ++ take (fraction_len r) r = rw (take-add (1 + n) (fraction_len r) (b ∷ z), take_one n b z, drop_one n b z) refl in
    rw (first, drop_one n b z, split) (fraction_mantissa b (take n z) r digits)

point_mantissa : (z : List ℕ) → is_in class.Digit (slice_index z 0) ≡ true → Mantissa (take (mantissa_len (46 ∷ z)) (46 ∷ z))
point_mantissa [] h = cc
point_mantissa (b ∷ z) h =
    let n : ℕ = run class.Digit z in
    let first : run class.Digit (b ∷ z) ≡ 1 + n = rw h refl in
    let digits : Run class.Digit (b ∷ take n z) = more h (run_take class.Digit z) in
    let len : mantissa_len (46 ∷ b ∷ z) ≡ 1 + (1 + n) = rw first (omega arith) in
    rw (len, take_one (1 + n) 46 (b ∷ z), take_one n b z) (fraction digits)

mantissa_take : (b : ℕ) (z : List ℕ) → begins_number b (slice_index z 0) ≡ true → Mantissa (take (mantissa_len (b ∷ z)) (b ∷ z))
mantissa_take b z h = go (is_in class.Digit b) (b == 46) refl refl h
  where
    go : (s t : Bool) → is_in class.Digit b ≡ s → (b == 46) ≡ t → (s || (t && is_in class.Digit (slice_index z 0))) ≡ true → Mantissa (take (mantissa_len (b ∷ z)) (b ∷ z))
    go true t d p h = digit_mantissa b z d
    go false true d p h =
        let P : ℕ → Type 0 = λ x. Mantissa (take (mantissa_len (x ∷ z)) (x ∷ z)) in
        subst P (sym (is_same b 46 p)) (point_mantissa z h)
    go false false d p h = cc

sign_take : (z : List ℕ) → Sign (take (sign_len z) z)
sign_take [] = no_sign
sign_take (b ∷ z) = go (b == 43) (b == 45) refl refl
  where
    go : (s t : Bool) → (b == 43) ≡ s → (b == 45) ≡ t → Sign (take (cond (s || t) 1 0) (b ∷ z))
    go true t p q = rw (is_same b 43 p) plus
    go false true p q = rw (is_same b 45 q) minus
    go false false p q = no_sign

digits_exponent : (x : ℕ) (s r : List ℕ) (m : ℕ) → (x ≡ 101) ⊎ (x ≡ 69) → Sign s → run class.Digit r ≡ suc m → Exponent (x ∷ s ++ take (suc m) r)
digits_exponent x s [] m h g e = absurd (omega (arith, e))
digits_exponent x s (b ∷ r) m h g e = go (is_in class.Digit b) refl e
  where
    go : (t : Bool) → is_in class.Digit b ≡ t → cond t (1 + run class.Digit r) 0 ≡ suc m → Exponent (x ∷ s ++ take (suc m) (b ∷ r))
    go true d e =
        let n : run class.Digit r ≡ m = omega (arith, e) in
        let P : ℕ → Type 0 = λ n. Run class.Digit (take n r) in
        power h g (more d (subst P n (run_take class.Digit r)))
    go false d e = absurd (omega (arith, e))

power_take : (x : ℕ) (z : List ℕ) (n : ℕ) → (x ≡ 101) ⊎ (x ≡ 69) → run class.Digit (drop (sign_len z) z) ≡ n → Exponent (take (power_len (sign_len z) n) (x ∷ z))
power_take x z zero h e = no_exponent
power_take x z (suc m) h e =
    let len : power_len (sign_len z) (suc m) ≡ 1 + (sign_len z + suc m) = search rules in
    rw (len, take_one (sign_len z + suc m) x z, take-add (sign_len z) (suc m) z) (digits_exponent x (take (sign_len z) z) (drop (sign_len z) z) m h (sign_take z) e)

letter : (x : ℕ) → (x == 101 || x == 69) ≡ true → (x ≡ 101) ⊎ (x ≡ 69)
letter x h = go (x == 101) (x == 69) refl refl h
  where
    go : (s t : Bool) → (x == 101) ≡ s → (x == 69) ≡ t → (s || t) ≡ true → (x ≡ 101) ⊎ (x ≡ 69)
    go true t p q h = inl (is_same x 101 p)
    go false true p q h = inr (is_same x 69 q)
    go false false p q h = cc

exponent_take : (z : List ℕ) → Exponent (take (exponent_len z) z)
exponent_take [] = no_exponent
exponent_take (x ∷ z) = go (x == 101 || x == 69) refl
  where
    go : (s : Bool) → (x == 101 || x == 69) ≡ s → Exponent (take (cond s (power_len (sign_len z) (run class.Digit (drop (sign_len z) z))) 0) (x ∷ z))
    go true e = power_take x z (run class.Digit (drop (sign_len z) z)) (letter x e) refl
    go false e = no_exponent

-- a text that begins as a number does splits there
pub record NumberFront (z : List ℕ) : Type 0 where
  pub mantissa : List ℕ
  pub exponent : List ℕ
  pub is_mantissa : Mantissa mantissa
  pub is_exponent : Exponent exponent
  pub is_front : take (number_len z) z ≡ mantissa ++ exponent

pub number_take : (b : ℕ) (z : List ℕ) → begins_number b (slice_index z 0) ≡ true → NumberFront (b ∷ z)
number_take b z h =
    record {
      mantissa = take (mantissa_len (b ∷ z)) (b ∷ z);
      exponent = take (exponent_len (drop (mantissa_len (b ∷ z)) (b ∷ z))) (drop (mantissa_len (b ∷ z)) (b ∷ z));
      is_mantissa = mantissa_take b z h;
      is_exponent = exponent_take (drop (mantissa_len (b ∷ z)) (b ∷ z));
      is_front = take-add (mantissa_len (b ∷ z)) (exponent_len (drop (mantissa_len (b ∷ z)) (b ∷ z))) (b ∷ z);
    }

-- ---- numbers: one that stands at the front is within what the functions take

digits_power : (s : ℕ) (b : ℕ) (d u : List ℕ) → Run class.Digit (b ∷ d) → length (b ∷ d) + 1 + s ≤ power_len s (run class.Digit ((b ∷ d) ++ u))
digits_power s b d u h =
    let e = run_front class.Digit (b ∷ d) u h in
    let some : (run class.Digit ((b ∷ d) ++ u) == 0) ≡ false = other_test (run class.Digit ((b ∷ d) ++ u)) 0 (λ q. omega (arith, e, q)) in
    rw some (omega (arith, e))

power_front : (x : ℕ) (s : List ℕ) (b : ℕ) (d u : List ℕ) → (x == 101 || x == 69) ≡ true → Sign s → Run class.Digit (b ∷ d) → length (x ∷ s ++ b ∷ d) ≤ exponent_len ((x ∷ s ++ b ∷ d) ++ u)
power_front x s b d u h no_sign (more f r) =
    let plus : (b == 43) ≡ false = apart (is_in class.Digit) b 43 f refl in
    let minus : (b == 45) ≡ false = apart (is_in class.Digit) b 45 f refl in
    let e = digits_power 0 b d u (more f r) in
    rw (h, plus, minus) (omega (arith, e))
power_front x s b d u h plus r = let e = digits_power 1 b d u r in rw h (omega (arith, e))
power_front x s b d u h minus r = let e = digits_power 1 b d u r in rw h (omega (arith, e))

letter_test : (x : ℕ) → (x ≡ 101) ⊎ (x ≡ 69) → (x == 101 || x == 69) ≡ true
letter_test x (inl e) = ap (λ y. y == 101 || y == 69) e
letter_test x (inr e) = ap (λ y. y == 101 || y == 69) e

exponent_front : (e u : List ℕ) → Exponent e → length e ≤ exponent_len (e ++ u)
exponent_front e u no_exponent = omega arith
exponent_front e u (power {x} {b} {s} {d} h g r) = power_front x s b d u (letter_test x h) g r

-- a point behind digits, and digits
pointed_len : (d : List ℕ) (r : List ℕ) → Run class.Digit d → mantissa_len (d ++ 46 ∷ r) ≡ length d + (1 + run class.Digit r)
pointed_len d r h =
    let e = run_exact class.Digit d 46 r h refl in
    rw (e, drop-append_seam d (46 ∷ r)) refl

mantissa_front : (m r : List ℕ) → Mantissa m → length m ≤ mantissa_len (m ++ r)
mantissa_front m r (whole {b} {d} h) = let e = run_front class.Digit (b ∷ d) r h in omega (arith, e)
mantissa_front m r (pointed {b} {d} {e} h g) =
    let f = run_front class.Digit e r g in
    let l = pointed_len (b ∷ d) (e ++ r) h in
    let n = length-append (b ∷ d) (46 ∷ e) in
    let a : mantissa_len (b ∷ d ++ 46 ∷ e ++ r) ≡ length (b ∷ d) + (1 + run class.Digit (e ++ r)) = ap mantissa_len (append_assoc (b ∷ d) (46 ∷ e) r) ∙ l in
    rw a (omega (arith, f, n))
mantissa_front m r (fraction {b} {e} h) = let f = run_front class.Digit (b ∷ e) r h in omega (arith, f)

-- the same, where an exponent's letter comes next
mantissa_exact : (m : List ℕ) (x : ℕ) (r : List ℕ) → Mantissa m → is_in class.Digit x ≡ false → (x == 46) ≡ false → mantissa_len (m ++ x ∷ r) ≡ length m
mantissa_exact m x r (whole {b} {d} h) f g =
    let e = run_exact class.Digit (b ∷ d) x r h f in
    rw (e, drop-append_seam (b ∷ d) (x ∷ r), g) (omega arith)
mantissa_exact m x r (pointed {b} {d} {e} h j) f g =
    let n = length-append (b ∷ d) (46 ∷ e) in
    let l = pointed_len (b ∷ d) (e ++ x ∷ r) h in
    let a : mantissa_len (b ∷ d ++ 46 ∷ e ++ x ∷ r) ≡ length (b ∷ d) + (1 + run class.Digit (e ++ x ∷ r)) = ap mantissa_len (append_assoc (b ∷ d) (46 ∷ e) (x ∷ r)) ∙ l in
    let t : length (b ∷ d) + (1 + run class.Digit (e ++ x ∷ r)) ≡ length (b ∷ d ++ 46 ∷ e) = rw (run_exact class.Digit e x r j f) (omega (arith, n)) in
    a ∙ t
mantissa_exact m x r (fraction {b} {e} h) f g =
    let n = run_exact class.Digit (b ∷ e) x r h f in omega (arith, n)

letter_is_no_digit : (x : ℕ) → (x ≡ 101) ⊎ (x ≡ 69) → is_in class.Digit x ≡ false
letter_is_no_digit x (inl e) = ap (is_in class.Digit) e
letter_is_no_digit x (inr e) = ap (is_in class.Digit) e

letter_is_no_point : (x : ℕ) → (x ≡ 101) ⊎ (x ≡ 69) → (x == 46) ≡ false
letter_is_no_point x (inl e) = ap (λ y. y == 46) e
letter_is_no_point x (inr e) = ap (λ y. y == 46) e

split_front : (m e u : List ℕ) → mantissa_len (m ++ e ++ u) ≡ length m → length e ≤ exponent_len (e ++ u) → length (m ++ e) ≤ number_len (m ++ e ++ u)
split_front m e u h g =
    let n = length-append m e in
    let r : drop (mantissa_len (m ++ e ++ u)) (m ++ e ++ u) ≡ e ++ u = rw (h, append_assoc m e u) (drop-append_seam m (e ++ u)) in
    rw r (omega (arith, n, g, h))

pub number_front : (m e u : List ℕ) → Mantissa m → Exponent e → length (m ++ e) ≤ number_len (m ++ e ++ u)
number_front m e u h no_exponent =
    let f = mantissa_front m u h in
    rw append-nil (omega (arith, f))
number_front m e u h (power {x} {b} {s} {d} g i r) =
    let exact = mantissa_exact m x (s ++ b ∷ d ++ u) h (letter_is_no_digit x g) (letter_is_no_point x g) in
    let same : m ++ (x ∷ s ++ b ∷ d) ++ u ≡ m ++ x ∷ (s ++ b ∷ d ++ u) = append_assoc m (x ∷ s ++ b ∷ d) u in
    split_front m (x ∷ s ++ b ∷ d) u (rw same exact) (exponent_front (x ∷ s ++ b ∷ d) u (power g i r))

-- a text begins as a number does
abbrev pub begins_as_number : List ℕ → Bool
begins_as_number [] = false
begins_as_number (b ∷ z) = begins_number b (slice_index z 0)

pub number_begins : (m r : List ℕ) → Mantissa m → begins_as_number (m ++ r) ≡ true
number_begins m r (whole {b} {d} (more h g)) = rw h refl
number_begins m r (pointed {b} {d} {e} (more h g) f) = rw h refl
number_begins m r (fraction {b} {e} (more h g)) = h

-- ---- strings

-- an inside that ends at a place
abbrev pub EndsAt : ℕ → ℕ → List ℕ → Type 0
EndsAt at end z = (n : ℕ) × (end ≡ at + n) × (n ≤ length z) × Inside (take n z)

after_one : (at end b : ℕ) (z : List ℕ) → b ≢ 34 → b ≢ 10 → b ≢ 92 → EndsAt (at + 1) end z → EndsAt at end (b ∷ z)
after_one at end b z q l s h =
    let e = h.1 in
    let n = h.2 in
    (1 + h.0, omega (arith, e), omega (arith, n), rw (take_one h.0 b z) (byte q l s h.3))

after_two : (at end b c : ℕ) (z : List ℕ) → b ≡ 92 → EndsAt (at + 1 + 1) end z → EndsAt at end (b ∷ c ∷ z)
after_two at end b c z s h =
    let e = h.1 in
    let n = h.2 in
    (1 + (1 + h.0), omega (arith, e), omega (arith, n), rw (take_one (1 + h.0) b (c ∷ z), take_one h.0 c z, s) (escaped h.3))

pub inside_take : (at end : ℕ) (z : List ℕ) → closing false at z ≡ Some end → EndsAt at end z
inside_take at end [] h = cc
inside_take at end (b ∷ []) h = go (b == 34) (b == 10) (b == 92) refl h
  where
    go : (s t u : Bool) → (b == 34) ≡ s → cond s (Some (at + 1)) (cond t None (closing u (at + 1) [])) ≡ Some end → EndsAt at end (b ∷ [])
    go true t u e h = (1, cc, omega arith, rw (is_same b 34 e) close)
    go false true u e h = cc
    go false false true e h = cc
    go false false false e h = cc
inside_take at end (b ∷ c ∷ z) h = go (b == 34) (b == 10) (b == 92) refl refl refl h (inside_take (at + 1) end (c ∷ z)) (inside_take (at + 1 + 1) end z)
  where
    go : (s t u : Bool) → (b == 34) ≡ s → (b == 10) ≡ t → (b == 92) ≡ u → cond s (Some (at + 1)) (cond t None (closing u (at + 1) (c ∷ z))) ≡ Some end → (closing false (at + 1) (c ∷ z) ≡ Some end → EndsAt (at + 1) end (c ∷ z)) → (closing false (at + 1 + 1) z ≡ Some end → EndsAt (at + 1 + 1) end z) → EndsAt at end (b ∷ c ∷ z)
    go true t u e f g h one two = (1, cc, omega arith, rw (is_same b 34 e) close)
    go false true u e f g h one two = cc
    go false false true e f g h one two = after_two at end b c z (is_same b 92 g) (two h)
    go false false false e f g h one two = after_one at end b (c ∷ z) (is_other b 34 e) (is_other b 10 f) (is_other b 92 g) (one h)

pub inside_front : (at : ℕ) (v u : List ℕ) → Inside v → closing false at (v ++ u) ≡ Some (at + length v)
inside_front at v u close = refl
inside_front at v u (byte {b} {z} q l s h) =
    let r = inside_front (at + 1) z u h in
    let e : at + 1 + length z ≡ at + length (b ∷ z) = omega arith in
    rw (other_test b 34 q, other_test b 10 l, other_test b 92 s) (r ∙ ap Some e)
inside_front at v u (escaped {b} {z} h) =
    let r = inside_front (at + 1 + 1) z u h in
    let e : at + 1 + 1 + length z ≡ at + length (92 ∷ b ∷ z) = omega arith in
    r ∙ ap Some e

-- ---- symbols

-- a byte that begins no blank, number, word or string
abbrev pub is_symbol : ℕ → Bool
is_symbol b = not (is_in class.Word b) && (not (b == 34) && (not (b == 46) && (not (is_in class.Blank b) && (not (b == 35) && not (b == 92)))))

abbrev pub all_singles : (ℕ → Kind → Bool) → List (ℕ × Kind) → Bool
all_singles p [] = true
all_singles p (s ∷ ss) = p s.0 s.1 && all_singles p ss

abbrev pub all_doubles : (ℕ → ℕ → Kind → Bool) → List (ℕ × ℕ × Kind) → Bool
all_doubles p [] = true
all_doubles p (s ∷ ss) = p s.0 s.1 s.2 && all_doubles p ss

among_holds : (p : ℕ → Kind → Bool) (ss : List (ℕ × Kind)) (b : ℕ) → all_singles p ss ≡ true → among ss b ≢ k.BadToken → p b (among ss b) ≡ true
among_holds p [] b h g = absurd (g refl)
among_holds p (s ∷ ss) b h g = go (b == s.0) refl g (among_holds p ss b (and_right (p s.0 s.1) (all_singles p ss) h))
  where
    go : (t : Bool) → (b == s.0) ≡ t → cond t s.1 (among ss b) ≢ k.BadToken → (among ss b ≢ k.BadToken → p b (among ss b) ≡ true) → p b (cond t s.1 (among ss b)) ≡ true
    go true e g r = ap (λ x. p x s.1) (is_same b s.0 e) ∙ and_left (p s.0 s.1) (all_singles p ss) h
    go false e g r = r g

among_pairs_holds : (p : ℕ → ℕ → Kind → Bool) (ss : List (ℕ × ℕ × Kind)) (b c : ℕ) (kind : Kind) → all_doubles p ss ≡ true → among_pairs ss b c ≡ Some kind → p b c kind ≡ true
among_pairs_holds p [] b c kind h g = cc
among_pairs_holds p (s ∷ ss) b c kind h g = go (b == s.0) (c == s.1) refl refl g (among_pairs_holds p ss b c kind (and_right (p s.0 s.1 s.2) (all_doubles p ss) h))
  where
    go : (t u : Bool) → (b == s.0) ≡ t → (c == s.1) ≡ u → cond (t && u) (Some s.2) (among_pairs ss b c) ≡ Some kind → (among_pairs ss b c ≡ Some kind → p b c kind ≡ true) → p b c kind ≡ true
    go true true e f g r =
        let same : s.2 ≡ kind = cc in
        ap (λ x. p x c kind) (is_same b s.0 e) ∙ ap (λ x. p s.0 x kind) (is_same c s.1 f) ∙ ap (λ x. p s.0 s.1 x) (sym same) ∙ and_left (p s.0 s.1 s.2) (all_doubles p ss) h
    go true false e f g r = r g
    go false u e f g r = r g

-- what holds of each symbol of one byte
pub single_holds : (p : ℕ → Kind → Bool) (b : ℕ) → all_singles p singles ≡ true → single b ≢ k.BadToken → p b (single b) ≡ true
unfolding single
single_holds p b h g = among_holds p singles b h g

-- what holds of each symbol of two bytes
pub double_holds : (p : ℕ → ℕ → Kind → Bool) (b c : ℕ) (kind : Kind) → all_doubles p doubles ≡ true → double b c ≡ Some kind → p b c kind ≡ true
unfolding double
double_holds p b c kind h g = among_pairs_holds p doubles b c kind h g

-- a symbol's first byte is apart from what begins other tokens and blanks
pub single_byte : (b : ℕ) → single b ≢ k.BadToken → is_symbol b ≡ true
single_byte b h = single_holds (λ x y. is_symbol x) b refl h

pub double_byte : (b c : ℕ) (kind : Kind) → double b c ≡ Some kind → is_symbol b ≡ true
double_byte b c kind h = double_holds (λ x y z. is_symbol x) b c kind refl h
