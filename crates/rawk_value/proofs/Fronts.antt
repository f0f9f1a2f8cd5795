-- Lemmas on digits and on the numeric front.
use Rattle.std.proofs.Common.{◌≡◌, refl, sym, ℕ, ◌+◌, ◌-◌, ◌*◌, ◌<◌, ◌≤◌, Bool, true, false, cond, nat_lt, ◌∙◌, one-add, Some, None, ◌&&◌, List, [], ◌∷◌, not, ◌||◌, ◌==◌, length, take, drop, get_or, ap, arith}
use Rattle.std.specs.Char.{digit_value}
use Rattle.std.specs.List.{prefix_len, take_while, list_any, list_all}
use Rattle.std.specs.Str.Parse.{digits_value, digits_value_after}
use Rattle.std.proofs.lemmas.Bool.Decides.{nat_tests}
use Rattle.std.proofs.lemmas.Int.Digits.{digits_value_more}
use Rattle.std.proofs.lemmas.List.Sums.{prefix_len_is}
use Rattle.rawk_value.specs.Scans.{held, point_size, part_of}
use Rattle.rawk_value.specs.Values.{Bytes, is_digit, is_blank, Front, front, sign_size, exponent_size, begins}

pub digit_value_is : (b : ℕ) → is_digit b ≡ true → digit_value b ≡ b - 48
digit_value_is b h = grind (arith, nat_tests)

pub digits_value_step : (text : List ℕ) (i : ℕ) → i < length text → is_digit (get_or text i 0) ≡ true → digits_value 10 (take (i + 1) text) ≡ digits_value 10 (take i text) * 10 + (get_or text i 0 - 48)
digits_value_step text i h d = rw (digits_value_more 10 text i h, digit_value_is (get_or text i 0) d) refl

-- a run of digits ends at the first byte that is none
pub digits_end : (text : List ℕ) (n : ℕ) → n ≤ length text → ((k : ℕ) → k < n → is_digit (get_or text k 0) ≡ true) → (n < length text → is_digit (get_or text n 0) ≡ false) → n ≡ prefix_len is_digit text
digits_end text n h passed stops = sym (prefix_len_is is_digit text n 0 h passed stops)

-- and its size is that of the digits passed
pub size_end : (text : List ℕ) (n size : ℕ) → n ≡ prefix_len is_digit text → size ≡ held (digits_value 10 (take n text)) → size ≡ held (digits_value 10 (take_while is_digit text))
size_end text n size e h = rw e at h

-- a front's parts, from its exponent on, its point on, its digits on, and its sign on
abbrev pub from_exponent : Bool → Bytes → Bytes → Bytes → Front
from_exponent negative whole part text = record { negative = negative; whole = whole; part = part; exponent = nat_lt 0 (exponent_size text); rest = drop (exponent_size text) text }

abbrev pub from_point : Bool → Bytes → Bytes → Front
from_point negative whole text = from_exponent negative whole (part_of text) (drop (point_size text + length (part_of text)) text)

abbrev pub from_digits : Bool → Bytes → Front
from_digits negative text = from_point negative (take_while is_digit text) (drop (length (take_while is_digit text)) text)

abbrev pub from_sign : Bytes → Front
from_sign text = from_digits (begins (λ b. b == 45) text) (drop (sign_size text) text)

pub front_is : (text : Bytes) → front text ≡ from_sign (drop (prefix_len is_blank text) text)
front_is text = refl

pub from_sign_at : (s t u v w : Bytes) → t ≡ drop (sign_size s) s → u ≡ drop (length (take_while is_digit t)) t → v ≡ drop (point_size u + length (part_of u)) u → w ≡ drop (exponent_size v) v
    → from_sign s ≡ record { negative = begins (λ b. b == 45) s; whole = take_while is_digit t; part = part_of u; exponent = nat_lt 0 (exponent_size v); rest = w }
from_sign_at s t u v w et eu ev ew =
    ap (from_digits (begins (λ b. b == 45) s)) (sym et) ∙ ap (from_point (begins (λ b. b == 45) s) (take_while is_digit t)) (sym eu)
    ∙ ap (from_exponent (begins (λ b. b == 45) s) (take_while is_digit t) (part_of u)) (sym ev)
    ∙ ap (λ r. record { negative = begins (λ b. b == 45) s; whole = take_while is_digit t; part = part_of u; exponent = nat_lt 0 (exponent_size v); rest = r }) (sym ew)

-- the digits that a text begins with are digits
taken_step : {X : Type 0} (p : X → Bool) (x : X) (xs : List X) (b : Bool) → p x ≡ b → list_all p (take_while p xs) ≡ true → list_all p (take (cond b (1 + prefix_len p xs) 0) (x ∷ xs)) ≡ true
taken_step p x xs true e h = rw (one-add, e) h
taken_step p x xs false e h = refl

all_taken : {X : Type 0} (p : X → Bool) (xs : List X) → list_all p (take_while p xs) ≡ true
all_taken p [] = refl
all_taken p (x ∷ xs) = taken_step p x xs (p x) refl (all_taken p xs)

both : (a b : Bool) → (a && b) ≡ true → (a ≡ true) × (b ≡ true)
both true b h = (refl, h)
both false b h = absurd (cc)

nonzero_step : (n d : ℕ) → is_digit d ≡ true → not (n * 10 + digit_value d == 0) ≡ (not (n == 0) || not (d == 48))
nonzero_step n d h = rw (digit_value_is d h) (grind (arith, nat_tests))

or_assoc : (a b c : Bool) → ((a || b) || c) ≡ (a || (b || c))
or_assoc true b c = refl
or_assoc false b c = refl

-- digits have a value above 0 where one of them is not `0`
value_any : (n : ℕ) (ds : Bytes) → list_all is_digit ds ≡ true → not (digits_value_after 10 n ds == 0) ≡ (not (n == 0) || list_any (λ b. not (b == 48)) ds)
value_any n [] h = grind (arith, nat_tests)
value_any n (d ∷ ds) h =
    let digits = both (is_digit d) (list_all is_digit ds) h in
    value_any (n * 10 + digit_value d) ds digits.1
    ∙ ap (λ b. b || list_any (λ b. not (b == 48)) ds) (nonzero_step n d digits.0)
    ∙ or_assoc (not (n == 0)) (not (d == 48)) (list_any (λ b. not (b == 48)) ds)

held_zero : (n : ℕ) → (held n == 0) ≡ (n == 0)
held_zero n = grind (arith, nat_tests)

all_part : (text : Bytes) → list_all is_digit (part_of text) ≡ true
all_part text = elim (point_size text == 0) as (λ b. list_all is_digit (cond b [] (take_while is_digit (drop 1 text))) ≡ true) [ true ↦ refl | false ↦ all_taken is_digit (drop 1 text) ]

pub part_any : (text : Bytes) (size : ℕ) → size ≡ held (digits_value 10 (part_of text)) → not (size == 0) ≡ list_any (λ b. not (b == 48)) (part_of text)
part_any text size e = ap (λ n. not (n == 0)) e ∙ ap not (held_zero (digits_value 10 (part_of text))) ∙ value_any 0 (part_of text) (all_part text)

pub when_true : {A : Type 0} (b : Bool) (x y : A) → b ≡ true → x ≡ cond b x y
when_true true x y h = refl
when_true false x y h = absurd (cc)

pub when_false : {A : Type 0} (b : Bool) (x y : A) → b ≡ false → y ≡ cond b x y
when_false true x y h = absurd (cc)
when_false false x y h = refl

-- two values that were given are those of the tests
pub both_given : {A B : Type 0} (b d : Bool) (n m x y : A) (k : A → A → B) (other : B) → cond b (Some n) None ≡ Some x → cond d (Some m) None ≡ Some y → k x y ≡ cond (b && d) (k n m) other
both_given true true n m x y k other e f = cc
both_given true false n m x y k other e f = absurd (cc)
both_given false d n m x y k other e f = absurd (cc)
