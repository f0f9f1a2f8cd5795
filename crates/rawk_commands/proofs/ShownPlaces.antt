-- What is shown of a place reads as the place, and of a number as the constant.
use Rattle.std.proofs.Common.{◌≡◌, refl, sym, ap, ◌∙◌, ℕ, suc, ◌+◌, ◌<◌, ◌≤◌, ◌^◌, true, false, ◌==◌, [], ◌∷◌, ◌++◌, length, take, drop, Some, arith, append_assoc, append-nil, add-one}
use Rattle.rawk_limits.specs.declared.TheConstants.{LAST_FIELD}
use Rattle.std.specs.Prelude.{ℤ, pos, negsuc, All}
use Rattle.std.specs.List.{list_all, prefix_len, AllByRecursion}
use Rattle.std.specs.Char.{is_ascii_digit}
use Rattle.std.specs.Int.RustNames.{FitsSigned}
use Rattle.std.specs.Int.{w64}
use Rattle.std.proofs.lemmas.Bool.Decides.{nat_tests}
use Rattle.std.proofs.lemmas.List.Elements.{recursion_from_All}
use Rattle.std.proofs.Math.Seq.{take-append_seam, drop-append_seam, take-length, drop-length}
use Rattle.rawk_value.specs.Values.{Bytes, decimal, int_text}
use Rattle.rawk_commands.specs.declared.command.Constant.TheVariants.{Number, Text}
use Rattle.rawk_commands.specs.declared.command.Place.{Place}
use Rattle.rawk_commands.specs.declared.command.Place.TheVariants.{Name, Element, Field}
use Rattle.rawk_commands.specs.Reading.{number_below, number_of, number_size, number_front, constant_of, field_front, named, keyed, place_front, place_of, whole}
use Rattle.rawk_commands.specs.Texts.{shown_text, shown_element, shown_place, IsPlace}
use Rattle.rawk_keywords.specs.Name.{begins_name, has_name_form, is_in_name}
use Rattle.rawk_commands.proofs.Shown.{constant_shown}
use Rattle.rawk_commands.proofs.ShownNumbers.{and_first, and_second, prefix_all, Writes, writes, number_written}

-- ---- fields

digits_size : (ds : Bytes) → list_all is_ascii_digit ds ≡ true → prefix_len is_ascii_digit ds ≡ length ds
digits_size ds h = ap (prefix_len is_ascii_digit) (sym (append-nil ds)) ∙ prefix_all is_ascii_digit ds [] h refl

field_of_digits : (n : ℕ) (ds : Bytes) → Writes n ds → n ≤ LAST_FIELD → whole (field_front ds) ≡ Some (Field n)
field_of_digits n ds w h =
    rw (digits_size ds w.digits, take-length ds, drop-length ds, number_written (LAST_FIELD + 1) n ds w (omega arith)) refl

-- ---- names

pub not_dollar : (b : ℕ) → begins_name b ≡ true → (b == 36) ≡ false
not_dollar b h = grind (arith, nat_tests)

pub letter_is_word : (b : ℕ) → begins_name b ≡ true → is_in_name b ≡ true
letter_is_word b h = grind (arith, nat_tests)

-- a name, behind which no more of it comes
pub place_named : (name after : Bytes) → has_name_form name ≡ true → prefix_len is_in_name after ≡ 0 → place_front (name ++ after) ≡ named name after
place_named [] after h e = cc
place_named (b ∷ bs) after h e =
    let letter : begins_name b ≡ true = and_first (begins_name b) (list_all is_in_name bs) h in
    let others : list_all is_in_name bs ≡ true = and_second (begins_name b) (list_all is_in_name bs) h in
    let all : list_all is_in_name (b ∷ bs) ≡ true = rw (letter_is_word b letter, others) refl in
    let size : prefix_len is_in_name (b ∷ (bs ++ after)) ≡ length (b ∷ bs) = prefix_all is_in_name (b ∷ bs) after all e in
    let front : take (prefix_len is_in_name (b ∷ (bs ++ after))) (b ∷ (bs ++ after)) ≡ b ∷ bs =
    ap (λ k. take k (b ∷ (bs ++ after))) size ∙ take-append_seam (b ∷ bs) after in
    let rest : drop (prefix_len is_in_name (b ∷ (bs ++ after))) (b ∷ (bs ++ after)) ≡ after =
    ap (λ k. drop k (b ∷ (bs ++ after))) size ∙ drop-append_seam (b ∷ bs) after in
    rw (not_dollar b letter, letter, front, rest) refl

-- ---- places

pub element_joined : (name key : Bytes) → shown_element name key ≡ name ++ (91 ∷ (shown_text key ++ 93 ∷ []))
element_joined name key = append_assoc (name ++ 91 ∷ []) (shown_text key) (93 ∷ []) ∙ append_assoc name (91 ∷ []) (shown_text key ++ 93 ∷ [])

key_named : (name key : Bytes) → AllByRecursion (λ b. b < 256) key → named name (91 ∷ (shown_text key ++ 93 ∷ [])) ≡ Some (Element name key, [])
key_named name key h = ap (keyed name) (constant_shown key (93 ∷ []) h)

pub place_shown : (place : Place) → IsPlace place → place_of (shown_place place) ≡ Some place
place_shown (Name name) h = ap place_of (sym (append-nil name)) ∙ ap whole (place_named name [] h refl)
place_shown (Element name key) h =
    let bytes = recursion_from_All (λ b. b < 256) key h.1 in
    ap place_of (element_joined name key)
    ∙ ap whole (place_named name (91 ∷ (shown_text key ++ 93 ∷ [])) h.0 refl ∙ key_named name key bytes)
place_shown (Field number) h = field_of_digits number (decimal number) (writes number (omega arith)) h

-- ---- constants

pub text_shown : (text : Bytes) → All (λ b. b < 256) text → constant_of (shown_text text) ≡ Some (Text text)
text_shown text h = ap constant_of (sym (append-nil (shown_text text))) ∙ ap whole (constant_shown text [] (recursion_from_All (λ b. b < 256) text h))

digit_first : (b : ℕ) → is_ascii_digit b ≡ true → ((b == 34) ≡ false) × ((b == 43) ≡ false) × ((b == 45) ≡ false)
digit_first b h = (grind (arith, nat_tests), grind (arith, nat_tests), grind (arith, nat_tests))

number_whole : (text : Bytes) (z : ℤ) → number_size text ≡ length text → number_of text ≡ Some z → number_front text ≡ Some (z, [])
number_whole text z size number = rw (size, take-length text, drop-length text, number) refl

-- digits without a sign
positive : (n : ℕ) (ds : Bytes) → Writes n ds → n < 2 ^ 63 → constant_of ds ≡ Some (Number (pos n))
positive n [] w h = let z = w.some in absurd (omega arith)
positive n (d ∷ ds) w h =
    let digit : is_ascii_digit d ≡ true = and_first (is_ascii_digit d) (list_all is_ascii_digit ds) w.digits in
    let others : list_all is_ascii_digit ds ≡ true = and_second (is_ascii_digit d) (list_all is_ascii_digit ds) w.digits in
    let f = digit_first d digit in
    let size : number_size (d ∷ ds) ≡ length (d ∷ ds) = rw (f.1, f.2, digit, digits_size ds others) (omega arith) in
    let number : number_of (d ∷ ds) ≡ Some (pos n) = rw (f.1, f.2, number_written (2 ^ 63) n (d ∷ ds) w h) refl in
    let front = number_whole (d ∷ ds) (pos n) size number in
    rw (f.0, front) refl

-- digits behind a minus
negative : (n : ℕ) (ds : Bytes) → Writes (n + 1) ds → n < 2 ^ 63 → constant_of (45 ∷ ds) ≡ Some (Number (negsuc n))
negative n ds w h =
    let size : number_size (45 ∷ ds) ≡ length (45 ∷ ds) = rw (digits_size ds w.digits) (omega arith) in
    let below : number_below (2 ^ 63 + 1) ds ≡ Some (suc n) = number_written (2 ^ 63 + 1) (n + 1) ds w (omega arith) ∙ ap Some (add-one n) in
    let number : number_of (45 ∷ ds) ≡ Some (negsuc n) = rw below refl in
    let front = number_whole (45 ∷ ds) (negsuc n) size number in
    rw front refl

pub number_shown : (n : ℤ) → FitsSigned w64 n → constant_of (int_text n) ≡ Some (Number n)
number_shown (pos n) h = positive n (decimal n) (writes n (omega (arith, h.sfits))) (omega (arith, h.sfits))
number_shown (negsuc n) h = negative n (decimal (n + 1)) (writes (n + 1) (omega (arith, h.sfits))) (omega (arith, h.sfits))
