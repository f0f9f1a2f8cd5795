-- What a line of bytes asks for is a command that there can be.
use Rattle.std.proofs.Common.{◌≡◌, refl, ap, subst, ◌∙◌, ℕ, zero, suc, ◌+◌, ◌-◌, ◌*◌, ◌%◌, ◌<◌, ◌≤◌, ◌^◌, Bool, true, false, not, ◌&&◌, cond, ◌==◌, [], ◌∷◌, ◌++◌, take, drop, Option, Some, None, Result, Ok, Err, arith, reverse, lit<}
use Rattle.rawk_limits.specs.declared.TheConstants.{LAST_FIELD}
use Rattle.std.specs.Prelude.{All, ℤ, pos, negsuc, neg_ℤ, nat_lt, IfSome, slice_index}
use Rattle.std.specs.Char.{is_ascii_digit}
use Rattle.std.specs.Int.RustNames.{FitsSigned}
use Rattle.std.specs.Int.{w64}
use Rattle.std.specs.List.{list_all, position_or_len, prefix_len, AllByRecursion}
use Rattle.std.specs.Option.{option_map, option_to_list}
use Rattle.std.specs.Str.Parse.{digits_value}
use Rattle.std.proofs.lemmas.Bool.Decides.{nat_tests}
use Rattle.std.proofs.lemmas.List.{reverse-append}
use Rattle.std.proofs.lemmas.List.Elements.{All-from_recursion, recursion_from_All}
use Rattle.rawk_value.specs.Values.{Bytes, decimal}
use Rattle.rawk_lexer.specs.Lex.{blank_len, skip, skip_from, kind, spelling, next}
use Rattle.rawk_lexer.specs.Escape.{is_octal, octal, named as named_byte, number_or_name, escape, unescaped_from, unescaped_of, unquoted}
use Rattle.rawk_commands.specs.declared.command.C.{C}
use Rattle.rawk_commands.specs.declared.command.Command.{Command}
use Rattle.rawk_commands.specs.declared.command.Command.TheVariants as command
use Rattle.rawk_commands.specs.declared.command.Constant.{Constant}
use Rattle.rawk_commands.specs.declared.command.Constant.TheVariants.{Number, Text}
use Rattle.rawk_commands.specs.declared.command.Place.{Place}
use Rattle.rawk_commands.specs.declared.command.Place.TheVariants.{Field}
use Rattle.rawk_commands.specs.declared.command.Spot.TheVariants.{Line, Function}
use Rattle.rawk_commands.specs.declared.verb.Verb.{Verb}
use Rattle.rawk_commands.specs.declared.verb.Verb.TheVariants as verb
use Rattle.rawk_commands.specs.Lines.{IsCommand, IsConstant, IsSpot}
use Rattle.rawk_commands.specs.Reading.{is_text, alone, asked_by, asked_on, assigned, command_of, constant_front, constant_of, count_of, ended, field_front, key_closed, key_of, keyed, named, number_below, number_front, number_of, number_size, or_bad_argument, place_front, place_of, reading, setting, spot_of, string_front, whole}
use Rattle.rawk_commands.specs.Texts.{IsPlace}
use Rattle.rawk_keywords.specs.Name.{begins_name, has_name_form, is_in_name}
use Rattle.rawk_commands.specs.Words.{is_blank, without_front, trimmed, verb_of}
use Rattle.rawk_commands.proofs.ShownNumbers.{and_first, and_second, writes}
use Rattle.rawk_commands.proofs.ShownPlaces.{letter_is_word}

-- each number is a byte
abbrev pub AreBytes : Bytes → Type 0
AreBytes = AllByRecursion (λ b. b < 256)

either : {A : Type 0} (P : A → Type 0) (t : Bool) (x y : A) → P x → P y → P (cond t x y)
either P true x y a b = a
either P false x y a b = b

dropped : (n : ℕ) (xs : Bytes) → AreBytes xs → AreBytes (drop n xs)
dropped zero xs h = h
dropped (suc n) [] h = h
dropped (suc n) (x ∷ xs) h = dropped n xs h.1

taken : (n : ℕ) (xs : Bytes) → AreBytes xs → AreBytes (take n xs)
taken zero xs h = tt
taken (suc n) [] h = h
taken (suc n) (x ∷ xs) h = (h.0, taken n xs h.1)

joined : (xs ys : Bytes) → AreBytes xs → AreBytes ys → AreBytes (xs ++ ys)
joined [] ys h k = k
joined (x ∷ xs) ys h k = (h.0, joined xs ys h.1 k)

reversed : (xs : Bytes) → AreBytes xs → AreBytes (reverse xs)
reversed [] h = tt
reversed (x ∷ xs) h = rw (reverse-append (x ∷ []) xs) (joined (reverse xs) (x ∷ []) (reversed xs h.1) (h.0, tt))

-- ---- blanks

front_gone : (xs : Bytes) → AreBytes xs → AreBytes (without_front xs)
front_gone [] h = h
front_gone (b ∷ bs) h = either AreBytes (is_blank b) (without_front bs) (b ∷ bs) (front_gone bs h.1) h

pub trimmed_bytes : (xs : Bytes) → AreBytes xs → AreBytes (trimmed xs)
trimmed_bytes xs h = reversed _ (front_gone _ (reversed _ (front_gone xs h)))

-- ---- strings

skip_from_bytes : (n : ℕ) (z : Bytes) → AreBytes z → AreBytes (skip_from n z)
skip_from_bytes n [] h = h
skip_from_bytes (suc n) (b ∷ z) h = skip_from_bytes n z h.1
skip_from_bytes zero (b ∷ z) h =
    either AreBytes (blank_len (b ∷ z) == 0) (b ∷ z) (skip_from (blank_len (b ∷ z) - 1) z) h (skip_from_bytes (blank_len (b ∷ z) - 1) z h.1)

spelling_bytes : (z : Bytes) → AreBytes z → AreBytes (spelling z)
unfolding spelling skip
spelling_bytes z h = taken _ _ (skip_from_bytes 0 z h)

next_bytes : (z : Bytes) → AreBytes z → AreBytes (next z)
unfolding next skip
next_bytes z h = dropped _ _ (skip_from_bytes 0 z h)

unquoted_bytes : (z : Bytes) → AreBytes z → AreBytes (unquoted z)
unquoted_bytes z h = taken _ _ (dropped 1 z h)

small : (t : Bool) (x y : ℕ) → x < 256 → y < 256 → cond t x y < 256
small t x y a b = either (λ n. n < 256) t x y a b

named_small : (b : ℕ) → b < 256 → named_byte b < 256
named_small b h =
    small (b == 97) _ _ (omega arith) (small (b == 98) _ _ (omega arith) (small (b == 116) _ _ (omega arith) (small (b == 110) _ _ (omega arith)
    (small (b == 118) _ _ (omega arith) (small (b == 102) _ _ (omega arith) (small (b == 114) _ _ (omega arith) h))))))

octal_by : (s t u : Bool) (a b c : ℕ) → is_octal a ≡ s → is_octal b ≡ t → a < 256 → IfSome {T = ℕ × ℕ}
    (cond (not s) None (cond (not t) (Some (a - 48, 1)) (cond (not u) (Some ((a - 48) * 8 + (b - 48), 2)) (Some (((a - 48) * 64 + (b - 48) * 8 + (c - 48)) % 256, 3)))))
    (λ n. n.0 < 256)
octal_by false t u a b c e f h = tt
octal_by true false u a b c e f h = omega arith
octal_by true true false a b c e f h = let x : a ≤ 55 = grind (arith, nat_tests) in let y : b ≤ 55 = grind (arith, nat_tests) in omega arith
octal_by true true true a b c e f h = omega arith

octal_small : (a b c : ℕ) → a < 256 → IfSome (octal a b c) (λ n. n.0 < 256)
octal_small a b c h = octal_by (is_octal a) (is_octal b) (is_octal c) a b c refl refl h

escaped_bytes : (b : ℕ) (o : Option (ℕ × ℕ)) → b < 256 → IfSome o (λ n. n.0 < 256) → AreBytes (option_to_list (number_or_name b o).0)
escaped_bytes b (Some n) h k = (k, tt)
escaped_bytes b None h k = go (b == 10)
  where
    go : (t : Bool) → AreBytes (option_to_list (cond {A = Option ℕ × ℕ} t (None, 1) (Some (named_byte b), 1)).0)
    go true = tt
    go false = (named_small b h, tt)

escape_bytes : (z : Bytes) → AreBytes z → AreBytes (option_to_list (escape z).0)
escape_bytes [] h = (lit< tt, tt)
escape_bytes (b ∷ z) h = escaped_bytes b (octal b (slice_index z 0) (slice_index z 1)) h.0 (octal_small b (slice_index z 0) (slice_index z 1) h.0)

unescaped_from_bytes : (n : ℕ) (z : Bytes) → AreBytes z → AreBytes (unescaped_from n z)
unescaped_from_bytes n [] h = h
unescaped_from_bytes (suc n) (b ∷ z) h = unescaped_from_bytes n z h.1
unescaped_from_bytes zero (b ∷ z) h =
    either AreBytes (b == 92) (option_to_list (escape z).0 ++ unescaped_from (escape z).1 z) (b ∷ unescaped_from 0 z)
    (joined _ _ (escape_bytes z h.1) (unescaped_from_bytes (escape z).1 z h.1)) (h.0, unescaped_from_bytes 0 z h.1)

-- ---- numbers

mapped : {A B : Type 0} (P : B → Type 0) (f : A → B) (o : Option A) → IfSome o (λ x. P (f x)) → IfSome (option_map f o) P
mapped P f None h = tt
mapped P f (Some x) h = h

weaker : {A : Type 0} (P Q : A → Type 0) (o : Option A) → IfSome o P → ((x : A) → P x → Q x) → IfSome o Q
weaker P Q None h f = tt
weaker P Q (Some x) h f = f x h

cased : {A : Type 0} (P : A → Type 0) (t : Bool) (x y : Option A) → IfSome x P → IfSome y P → IfSome (cond t x y) P
cased P true x y h k = h
cased P false x y h k = k

number_small : (limit : ℕ) (ds : Bytes) → IfSome (number_below limit ds) (λ n. n < limit)
number_small limit [] = tt
number_small limit (d ∷ ds) = go (list_all is_ascii_digit (d ∷ ds)) (nat_lt (digits_value 10 (d ∷ ds)) limit) refl
  where
    go : (s t : Bool) → nat_lt (digits_value 10 (d ∷ ds)) limit ≡ t → IfSome (cond (s && t) (Some (digits_value 10 (d ∷ ds))) None) (λ n. n < limit)
    go false t e = tt
    go true false e = tt
    go true true e = grind (arith, nat_tests)

negative_fits : (n : ℕ) → n < 2 ^ 63 + 1 → FitsSigned w64 (neg_ℤ (pos n))
negative_fits zero h = record { sfits = lit< tt }
negative_fits (suc n) h = record { sfits = omega arith }

number_fits : (text : Bytes) → IfSome (number_of text) (FitsSigned w64)
number_fits [] = tt
number_fits (b ∷ bs) =
    either (λ o. IfSome o (FitsSigned w64)) (b == 45) _ _
    (mapped (FitsSigned w64) _ (number_below (2 ^ 63 + 1) bs) (weaker (λ n. n < 2 ^ 63 + 1) _ _ (number_small (2 ^ 63 + 1) bs) negative_fits))
    (either (λ o. IfSome o (FitsSigned w64)) (b == 43) _ _
    (mapped (FitsSigned w64) _ (number_below (2 ^ 63) bs) (weaker (λ n. n < 2 ^ 63) _ _ (number_small (2 ^ 63) bs) positive_fits))
    (mapped (FitsSigned w64) _ (number_below (2 ^ 63) (b ∷ bs)) (weaker (λ n. n < 2 ^ 63) _ _ (number_small (2 ^ 63) (b ∷ bs)) positive_fits)))
  where
    positive_fits : (n : ℕ) → n < 2 ^ 63 → FitsSigned w64 (pos n)
    positive_fits n h = record { sfits = omega arith }

-- ---- constants

-- what is found, with bytes after it
abbrev pub TextFound : Bytes × Bytes → Type 0
TextFound f = AreBytes f.0 × AreBytes f.1

abbrev pub NumberFound : ℤ × Bytes → Type 0
NumberFound f = FitsSigned w64 f.0 × AreBytes f.1

abbrev pub ConstantFound : Constant × Bytes → Type 0
ConstantFound f = IsConstant f.0 × AreBytes f.1

abbrev pub PlaceFound : Place × Bytes → Type 0
PlaceFound f = IsPlace f.0 × AreBytes f.1

string_bytes : (text : Bytes) → AreBytes text → IfSome (string_front text) TextFound
string_bytes text h =
    cased TextFound (is_text (kind text)) (Some (unquoted (spelling text), next text)) None (unquoted_bytes (spelling text) (spelling_bytes text h), next_bytes text h) tt

number_found : (text : Bytes) → AreBytes text → IfSome (number_front text) NumberFound
number_found text h =
    let rest = drop (number_size text) text in
    mapped NumberFound (λ (x : ℤ). (x, rest)) (number_of (take (number_size text) text))
    (weaker (FitsSigned w64) (λ x. FitsSigned w64 x × AreBytes rest) _ (number_fits (take (number_size text) text)) (λ z f. (f, dropped (number_size text) text h)))

constant_found : (text : Bytes) → AreBytes text → IfSome (constant_front text) ConstantFound
constant_found [] h = tt
constant_found (b ∷ bs) h =
    cased ConstantFound (b == 34) _ _
    (mapped ConstantFound (λ (f : Bytes × Bytes). (Text (unescaped_of f.0), f.1)) (string_front (b ∷ bs))
    (weaker TextFound (λ f. All (λ c. c < 256) (unescaped_of f.0) × AreBytes f.1) _ (string_bytes (b ∷ bs) h)
    (λ f k. (All-from_recursion (λ c. c < 256) (unescaped_of f.0) (unescaped_from_bytes 0 f.0 k.0), k.1))))
    (mapped ConstantFound (λ (f : ℤ × Bytes). (Number f.0, f.1)) (number_front (b ∷ bs)) (number_found (b ∷ bs) h))

digits_bytes : (ds : Bytes) → list_all is_ascii_digit ds ≡ true → AreBytes ds
digits_bytes [] h = tt
digits_bytes (d ∷ ds) h =
    let digit = and_first (is_ascii_digit d) (list_all is_ascii_digit ds) h in
    (digit_byte d digit, digits_bytes ds (and_second (is_ascii_digit d) (list_all is_ascii_digit ds) h))
  where
    digit_byte : (b : ℕ) → is_ascii_digit b ≡ true → b < 256
    digit_byte b e = grind (arith, nat_tests)

key_bytes : (key : Constant) → IsConstant key → All (λ b. b < 256) (key_of key)
key_bytes (Number (pos n)) h =
    let w = writes n (omega (arith, h.sfits)) in All-from_recursion (λ b. b < 256) (decimal n) (digits_bytes (decimal n) w.digits)
key_bytes (Number (negsuc n)) h =
    let w = writes (n + 1) (omega (arith, h.sfits)) in
    All-from_recursion (λ b. b < 256) (45 ∷ decimal (n + 1)) (lit< tt, digits_bytes (decimal (n + 1)) w.digits)
key_bytes (Text text) h = h

-- ---- places

key_found : (name : Bytes) (key : Constant) (rest : Bytes) → has_name_form name ≡ true → IsConstant key → AreBytes rest → IfSome (key_closed name key rest) PlaceFound
key_found name key [] n k h = tt
key_found name key (b ∷ bs) n k h = cased PlaceFound (b == 93) _ None ((n, key_bytes key k), h.1) tt

keyed_found : (name : Bytes) (o : Option (Constant × Bytes)) → has_name_form name ≡ true → IfSome o ConstantFound → IfSome (keyed name o) PlaceFound
keyed_found name None n h = tt
keyed_found name (Some f) n h = key_found name f.0 f.1 n h.0 h.1

named_found : (name text : Bytes) → has_name_form name ≡ true → AreBytes text → IfSome (named name text) PlaceFound
named_found name [] n h = (n, tt)
named_found name (b ∷ bs) n h = cased PlaceFound (b == 91) _ _ (keyed_found name (constant_front bs) n (constant_found bs h.1)) (n, h)

one_taken : (p : ℕ → Bool) (x : ℕ) (xs : Bytes) (k : ℕ) → list_all p (take k xs) ≡ true → p x ≡ true → list_all p (take (1 + k) (x ∷ xs)) ≡ true
one_taken p x xs k r e = let s : 1 + k ≡ suc k = omega arith in rw (s, e, r) refl

all_taken : (p : ℕ → Bool) (xs : Bytes) → list_all p (take (prefix_len p xs) xs) ≡ true
all_taken p [] = refl
all_taken p (x ∷ xs) = go (p x) refl (all_taken p xs)
  where
    go : (t : Bool) → p x ≡ t → list_all p (take (prefix_len p xs) xs) ≡ true → list_all p (take (cond t (1 + prefix_len p xs) 0) (x ∷ xs)) ≡ true
    go true e r = one_taken p x xs (prefix_len p xs) r e
    go false e r = refl

-- the name that a text begins with
name_taken : (b : ℕ) (bs : Bytes) → begins_name b ≡ true → has_name_form (take (prefix_len is_in_name (b ∷ bs)) (b ∷ bs)) ≡ true
name_taken b bs h =
    let size : prefix_len is_in_name (b ∷ bs) ≡ suc (prefix_len is_in_name bs) = rw (letter_is_word b h) (omega arith) in
    ap (λ k. has_name_form (take k (b ∷ bs))) size ∙ rw (h, all_taken is_in_name bs) refl

field_found : (text : Bytes) → AreBytes text → IfSome (field_front text) PlaceFound
field_found text h =
    let n = prefix_len is_ascii_digit text in
    let rest = drop n text in
    mapped PlaceFound (λ (x : Place). (x, rest)) (option_map (λ f. Field f) (number_below (LAST_FIELD + 1) (take n text)))
    (mapped (λ x. IsPlace x × AreBytes rest) (λ f. Field f) (number_below (LAST_FIELD + 1) (take n text))
    (weaker (λ f. f < LAST_FIELD + 1) (λ f. (f ≤ LAST_FIELD) × AreBytes rest) _ (number_small (LAST_FIELD + 1) (take n text)) (λ f k. (omega arith, dropped n text h))))

place_found : (text : Bytes) → AreBytes text → IfSome (place_front text) PlaceFound
place_found [] h = tt
place_found (b ∷ bs) h =
    let n = prefix_len is_in_name (b ∷ bs) in
    cased PlaceFound (b == 36) _ _ (field_found bs h.1)
    (letter (begins_name b) refl)
  where
    letter : (t : Bool) → begins_name b ≡ t
        → IfSome (cond t (named (take (prefix_len is_in_name (b ∷ bs)) (b ∷ bs)) (drop (prefix_len is_in_name (b ∷ bs)) (b ∷ bs))) None) PlaceFound
    letter false e = tt
    letter true e = named_found _ _ (name_taken b bs e) (dropped (prefix_len is_in_name (b ∷ bs)) (b ∷ bs) h)

-- ---- arguments

ended_found : {A : Type 0} (P : A → Type 0) (x : A) (rest : Bytes) → P x → IfSome (ended x rest) P
ended_found P x [] h = h
ended_found P x (b ∷ bs) h = tt

place_alone : (text : Bytes) → AreBytes text → IfSome (place_of text) IsPlace
place_alone text h = go (place_front text) (place_found text h)
  where
    go : (o : Option (Place × Bytes)) → IfSome o PlaceFound → IfSome (whole o) IsPlace
    go None k = tt
    go (Some f) k = ended_found IsPlace f.0 f.1 k.0

constant_alone : (text : Bytes) → AreBytes text → IfSome (constant_of text) IsConstant
constant_alone text h = go (constant_front text) (constant_found text h)
  where
    go : (o : Option (Constant × Bytes)) → IfSome o ConstantFound → IfSome (whole o) IsConstant
    go None k = tt
    go (Some f) k = ended_found IsConstant f.0 f.1 k.0

count_found : (text : Bytes) → IfSome (count_of text) (λ n. n < 2 ^ 63)
count_found text = number_small (2 ^ 63) text

spot_found : (text : Bytes) → IfSome (spot_of text) IsSpot
spot_found [] = tt
spot_found (b ∷ bs) =
    cased IsSpot (is_ascii_digit b) _ _ (mapped IsSpot (λ n. Line n) (count_of (b ∷ bs)) (count_found (b ∷ bs))) (function (has_name_form (b ∷ bs)) refl)
  where
    function : (t : Bool) → has_name_form (b ∷ bs) ≡ t → IfSome (cond t (Some (Function (b ∷ bs))) None) IsSpot
    function true e = e
    function false e = tt

assigned_found : (place : Place) (text : Bytes) → IsPlace place → AreBytes text → IfSome (assigned place text) IsCommand
assigned_found place [] p h = tt
assigned_found place (b ∷ bs) p h =
    cased IsCommand (b == 61) _ None
    (mapped IsCommand (command.Set place) (constant_of (without_front bs))
    (weaker IsConstant (λ c. IsPlace place × IsConstant c) _ (constant_alone (without_front bs) (front_gone bs h.1)) (λ c k. (p, k)))) tt

setting_found : (o : Option (Place × Bytes)) → IfSome o PlaceFound → IfSome (setting o) IsCommand
setting_found None h = tt
setting_found (Some f) h = assigned_found f.0 (without_front f.1) h.0 (front_gone f.1 h.1)

alone_found : (asked : Command) (text : Bytes) → IsCommand asked → IfSome (alone asked text) IsCommand
alone_found asked [] h = h
alone_found asked (b ∷ bs) h = tt

-- ---- commands

command_found : (word : Verb) (text : Bytes) → AreBytes text → IfSome (command_of word text) IsCommand
command_found verb.Break text h = mapped IsCommand command.Break (spot_of text) (spot_found text)
command_found verb.Watch text h = mapped IsCommand command.Watch (place_of text) (place_alone text h)
command_found verb.Delete text h = mapped IsCommand command.Delete (count_of text) (count_found text)
command_found verb.Unwatch text h = mapped IsCommand command.Unwatch (count_of text) (count_found text)
command_found (verb.Move way goal) text h = alone_found (command.Move way goal) text tt
command_found verb.Run text h = alone_found command.Run text tt
command_found verb.Print text h = mapped IsCommand command.Print (place_of text) (place_alone text h)
command_found verb.Set text h = setting_found (place_front text) (place_found text h)
command_found verb.ReverseSet text h = alone_found command.ReverseSet text tt
command_found verb.Backtrace text h = alone_found command.Backtrace text tt
command_found verb.Quit text h = alone_found command.Quit text tt

-- a reading that asks for a command that there can be, or for none
abbrev pub IsPossible : Result (Option Command) C → Type 0
IsPossible (Ok None) = Unit {0}
IsPossible (Ok (Some asked)) = IsCommand asked
IsPossible (Err reason) = Unit {0}

possible_argument : (o : Option Command) → IfSome o IsCommand → IsPossible (or_bad_argument o)
possible_argument None h = tt
possible_argument (Some asked) h = h

possible_by : (o : Option Verb) (text : Bytes) → AreBytes text → IsPossible (asked_by o text)
possible_by None text h = tt
possible_by (Some word) text h = possible_argument (command_of word text) (command_found word text h)

possible_on : (line : Bytes) → AreBytes line → IsPossible (asked_on line)
possible_on [] h = tt
possible_on (b ∷ bs) h =
    let n = position_or_len is_blank (b ∷ bs) in
    either IsPossible (b == 35) (Ok None) (asked_by (verb_of (take n (b ∷ bs))) (without_front (drop n (b ∷ bs)))) tt
    (possible_by (verb_of (take n (b ∷ bs))) (without_front (drop n (b ∷ bs))) (front_gone (drop n (b ∷ bs)) (dropped n (b ∷ bs) h)))

pub possible_reading : (line : Bytes) (asked : Command) → All (λ b. b < 256) line → reading line ≡ Ok (Some asked) → IsCommand asked
unfolding reading
possible_reading line asked h e = subst IsPossible e (possible_on (trimmed line) (trimmed_bytes line (recursion_from_All (λ b. b < 256) line h)))
