-- Values: their numbers, texts and truth, comparison and arithmetic, after POSIX.1-2017, utility awk, section `Expressions
-- in awk`. Numbers are whole and of any size here; one that does not fit 64 bits with a sign is a fault.
use Rattle.std.specs.Prelude.{ℕ, zero, suc, ◌+◌, ◌%◌, ◌^◌, ℤ, pos, negsuc, ◌+ℤ◌, ◌-ℤ◌, ◌*ℤ◌, neg_ℤ, int_lt, int_div, int_rem, Bool, true, false, not, ◌&&◌, ◌||◌, ◌==◌, nat_lt, nat_le, if◌then◌else◌, List, [], ◌∷◌, length, drop, map, Result, Ok, Err}
use Rattle.std.specs.List.{prefix_len, take_while, list_any, list_all}
use Rattle.std.specs.Int.Digits.{digits_of}
use Rattle.std.specs.Str.Parse.{digits_value}
use Rattle.std.specs.declared.cmp.Ordering.{Ordering}
use Rattle.std.specs.declared.cmp.Ordering.TheVariants.{Less, Equal, Greater}
use Rattle.std.specs.Ordering.{is_lt, is_le, is_eq, is_ne, is_gt, is_ge, nat_cmp}
use Rattle.std.specs.Cmp.Lexicographic.{slice_cmp}
use Rattle.rawk_value.specs.declared.operator.Arithmetic.{Arithmetic}
use Rattle.rawk_value.specs.declared.operator.Arithmetic.TheVariants.{Add, Sub, Mul, Div, Rem, Pow}
use Rattle.rawk_value.specs.declared.operator.Comparison.{Comparison}
use Rattle.rawk_value.specs.declared.operator.Comparison.TheVariants as comparison
use Rattle.rawk_value.specs.declared.value.Value.{Value}
use Rattle.rawk_value.specs.declared.value.Value.TheVariants.{Uninitialized, Number, String, Input}
use Rattle.rawk_value.specs.declared.fault.Fault.{Fault}
use Rattle.rawk_value.specs.declared.fault.Fault.TheVariants.{Overflow, Fraction, ZeroDivisor}

-- a text: any bytes
abbrev pub Bytes : Type 0
Bytes = List ℕ

-- goes on with what was found, unless that is a fault
abbrev pub next_ok : {A B : Type 0} → Result A Fault → (A → Result B Fault) → Result B Fault
next_ok (Ok v) next = next v
next_ok (Err fault) next = Err fault

-- blanks in values are space, tab and newline
abbrev pub is_blank : ℕ → Bool
is_blank b = b == 32 || b == 9 || b == 10

-- `0` to `9`
abbrev pub is_digit : ℕ → Bool
is_digit b = nat_le 48 b && nat_le b 57

-- whether the text begins with such a byte
abbrev pub begins : (ℕ → Bool) → Bytes → Bool
begins is [] = false
begins is (b ∷ bs) = is b

-- how long the sign is that a text begins with: 1 for `+` and `-`, else 0
abbrev pub sign_size : Bytes → ℕ
sign_size text = if begins (λ b. b == 43 || b == 45) text then 1 else 0

-- how long the exponent is that a text begins with, as `e-3`, and 0 where it has no digits
abbrev pub exponent_size : Bytes → ℕ
exponent_size text =
    let before = 1 + sign_size (drop 1 text) in
    let digits = prefix_len is_digit (drop before text) in
    if begins (λ b. b == 69 || b == 101) text && nat_lt 0 digits then before + digits else 0

-- a numeric front: its sign, the digits before and after its point, whether an exponent follows, and what comes after it
pub record Front : Type 0 where
  pub negative : Bool
  pub whole : Bytes
  pub part : Bytes
  pub exponent : Bool
  pub rest : Bytes

-- the numeric front of a text, as C's `strtod` finds it: blanks, a sign, digits with a point, an exponent where one stands there whole
abbrev pub front : Bytes → Front
front text =
    let at_sign = drop (prefix_len is_blank text) text in
    let at_digits = drop (sign_size at_sign) at_sign in
    let whole = take_while is_digit at_digits in
    let at_point = drop (length whole) at_digits in
    let point = if begins (λ b. b == 46) at_point then 1 else 0 in
    let part = if point == 0 then [] else take_while is_digit (drop 1 at_point) in
    let at_exponent = drop (point + length part) at_point in
    let size = exponent_size at_exponent in
    record { negative = begins (λ b. b == 45) at_sign; whole = whole; part = part; exponent = nat_lt 0 size; rest = drop size at_exponent }

-- a front without digits is none
abbrev pub has_digits : Front → Bool
has_digits f = nat_lt 0 (length f.whole + length f.part)

-- whether a number fits 64 bits with a sign
abbrev pub fits : ℤ → Bool
fits z = int_lt (negsuc (2 ^ 63)) z && int_lt z (pos (2 ^ 63))

-- a number that fits, else `Overflow`
abbrev pub checked : ℤ → Result ℤ Fault
checked z = if fits z then Ok z else Err Overflow

-- the number of the digits before the point, with the sign
abbrev pub whole_number : Front → ℤ
whole_number f = if f.negative then neg_ℤ (pos (digits_value 10 f.whole)) else pos (digits_value 10 f.whole)

-- the number of a front: 0 without digits, `Fraction` with an exponent or a digit after the point that is not 0, `Overflow` where it is too large
abbrev pub front_number : Front → Result ℤ Fault
front_number f =
    if not (has_digits f) then Ok (pos 0)
    else if f.exponent || list_any (λ b. not (b == 48)) f.part then Err Fraction
    else checked (whole_number f)

-- the number of a value: an uninitialized one is 0, and a text has the number of its front
abbrev pub number_of : Value → Result ℤ Fault
number_of Uninitialized = Ok (pos 0)
number_of (Number n) = Ok n
number_of (String text) = front_number (front text)
number_of (Input text) = front_number (front text)

-- the number of a front for `int` (Arithmetic Functions): a fraction loses its digits after the point
abbrev pub int_front : Front → Result ℤ Fault
int_front f = if not (has_digits f) then Ok (pos 0) else if f.exponent then Err Fraction else checked (whole_number f)

-- what `int` makes of a value
abbrev pub int_of : Value → Result ℤ Fault
int_of Uninitialized = Ok (pos 0)
int_of (Number n) = Ok n
int_of (String text) = int_front (front text)
int_of (Input text) = int_front (front text)

-- a number's decimal digits, the first one no 0
abbrev pub decimal : ℕ → Bytes
decimal n = if n == 0 then 48 ∷ [] else map (λ d. 48 + d) (digits_of 10 n)

-- a number's text: its digits, after `-` where it is below 0, whatever CONVFMT and OFMT hold
abbrev pub int_text : ℤ → Bytes
int_text (pos n) = decimal n
int_text (negsuc n) = 45 ∷ decimal (n + 1)

-- a value's text: an uninitialized one is empty
abbrev pub text_of : Value → Bytes
text_of Uninitialized = []
text_of (Number n) = int_text n
text_of (String text) = text
text_of (Input text) = text

-- an input text is a numeric string where its front has digits and nothing but blanks follows it
abbrev pub is_numeric : Bytes → Bool
is_numeric text = has_digits (front text) && list_all is_blank (front text).rest

-- whether a value counts as a number: numbers, numeric strings and uninitialized values do
abbrev pub counts : Value → Bool
counts Uninitialized = true
counts (Number n) = true
counts (String text) = false
counts (Input text) = is_numeric text

-- whether a number is 0
abbrev pub is_zero : ℤ → Bool
is_zero z = int_lt z (pos 1) && int_lt (negsuc 0) z

-- whether a text has no bytes
abbrev pub is_empty : Bytes → Bool
is_empty text = length text == 0

-- truth: of a value that counts as a number, that it is not 0; of another, that its text is not empty
abbrev pub truth_of : Value → Result Bool Fault
truth_of v = if counts v then next_ok (number_of v) (λ n. Ok (not (is_zero n))) else Ok (not (is_empty (text_of v)))

-- the truth of an input text
abbrev pub input_truth : Bytes → Result Bool Fault
input_truth text = if is_numeric text then next_ok (front_number (front text)) (λ n. Ok (not (is_zero n))) else Ok (not (is_empty text))

-- the value of a comparison or of a logical operator
abbrev pub flag : Bool → Value
flag true = Number (pos 1)
flag false = Number (pos 0)

-- the order of two numbers
abbrev pub int_order : ℤ → ℤ → Ordering
int_order x y = if int_lt x y then Less else if int_lt y x then Greater else Equal

-- the order of two values: by their numbers where both count as numbers, else by the bytes of their texts
abbrev pub order_of : Value → Value → Result Ordering Fault
order_of v w =
    if counts v && counts w then next_ok (number_of v) (λ x. next_ok (number_of w) (λ y. Ok (int_order x y)))
    else Ok (slice_cmp nat_cmp (text_of v) (text_of w))

-- whether a comparison holds at an order
abbrev pub holds : Comparison → Ordering → Bool
holds comparison.Less o = is_lt o
holds comparison.LessEqual o = is_le o
holds comparison.Equal o = is_eq o
holds comparison.NotEqual o = is_ne o
holds comparison.Greater o = is_gt o
holds comparison.GreaterEqual o = is_ge o

-- a number times itself, n times: the power 0 is 1
abbrev pub power : ℤ → ℕ → ℤ
power x zero = pos 1
power x (suc n) = x *ℤ power x n

-- whether a number is odd
abbrev pub is_odd : ℕ → Bool
is_odd n = n % 2 == 1

-- a number to a power below 0 of this size: exact for 1 and -1, `ZeroDivisor` for 0, and else `Fraction`
abbrev pub inverse_power : ℤ → ℕ → Result ℤ Fault
inverse_power x n =
    if is_zero x then Err ZeroDivisor
    else if is_zero (x -ℤ pos 1) then Ok (pos 1)
    else if is_zero (x +ℤ pos 1) then Ok (if is_odd n then negsuc 0 else pos 1)
    else Err Fraction

-- `x ^ y`
abbrev pub powered : ℤ → ℤ → Result ℤ Fault
powered x (pos n) = checked (power x n)
powered x (negsuc n) = inverse_power x (n + 1)

-- `x / y`: it has to leave no remainder, else it is `Fraction`
abbrev pub divided : ℤ → ℤ → Result ℤ Fault
divided x y = if is_zero y then Err ZeroDivisor else if is_zero (int_rem x y) then checked (int_div x y) else Err Fraction

-- `x % y`: it has the dividend's sign, as C's `fmod` has
abbrev pub remainder : ℤ → ℤ → Result ℤ Fault
remainder x y = if is_zero y then Err ZeroDivisor else Ok (int_rem x y)

-- what an operator makes of two numbers
abbrev pub combined : Arithmetic → ℤ → ℤ → Result ℤ Fault
combined Add x y = checked (x +ℤ y)
combined Sub x y = checked (x -ℤ y)
combined Mul x y = checked (x *ℤ y)
combined Div x y = divided x y
combined Rem x y = remainder x y
combined Pow x y = powered x y
