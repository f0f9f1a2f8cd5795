-- What is shown of a text is a string of the program's language that stands for the text. A byte's digits: 48 is `0`.
use Rattle.std.proofs.Common.{◌≡◌, refl, sym, ap, ◌∙◌, ℕ, ◌+◌, ◌-◌, ◌*◌, ◌/◌, ◌%◌, ◌<◌, ◌≤◌, Bool, true, false, ◌&&◌, ◌||◌, cond, ◌==◌, [], ◌∷◌, ◌++◌, length, take, drop, Some, None, arith, append_assoc, length-append}
use Rattle.std.specs.Prelude.{All, IsTrue, nat_le}
use Rattle.std.specs.List.{flat_map, list_all, AllByRecursion}
use Rattle.std.proofs.lemmas.Bool.Decides.{nat_tests}
use Rattle.std.proofs.lemmas.List.Elements.{recursion_from_All}
use Rattle.std.proofs.lemmas.List.Folds.{list_all-append}
use Rattle.std.proofs.Math.Seq.{take-append_seam, drop-append_seam}
use Rattle.std.proofs.Math.Nat.{div-div-eq-div-mul}
use Rattle.rawk_value.specs.Values.{Bytes}
use Rattle.rawk_keywords.specs.declared.token.Kind.TheVariants as lexeme
use Rattle.rawk_lexer.specs.Lex.{closing, closed, token, skip, kind, spelling, next}
use Rattle.rawk_lexer.specs.Escape.{is_octal, unescaped_from, unescaped_of, unquoted}
use Rattle.rawk_commands.specs.declared.command.Constant.TheVariants.{Text}
use Rattle.rawk_commands.specs.Reading.{constant_front, string_front}
use Rattle.rawk_commands.specs.Texts.{is_visible, octal, shown_byte, shown_text}

-- how a byte is shown
pub data IsShown : ℕ → Bytes → Type 0 where
  quote : IsShown 34 (92 ∷ 34 ∷ [])
  backslash : IsShown 92 (92 ∷ 92 ∷ [])
  newline : IsShown 10 (92 ∷ 110 ∷ [])
  tab : IsShown 9 (92 ∷ 116 ∷ [])
  plain : {b : ℕ} → (b == 34) ≡ false → (b == 92) ≡ false → (b == 10) ≡ false → 32 ≤ b → b ≤ 126 → IsShown b (b ∷ [])
  digits : {b : ℕ} → IsShown b (92 ∷ octal b)

shown_by : (b : ℕ) (s t n m v : Bool) → (b == 34) ≡ s → (b == 92) ≡ t → (b == 10) ≡ n → (b == 9) ≡ m → (nat_le 32 b && nat_le b 126) ≡ v
    → IsShown b (cond (s || t) (92 ∷ b ∷ []) (cond n (92 ∷ 110 ∷ []) (cond m (92 ∷ 116 ∷ []) (cond v (b ∷ []) (92 ∷ octal b)))))
shown_by b true t n m v es et en em ev = let e : b ≡ 34 = grind (arith, nat_tests) in rw e quote
shown_by b false true n m v es et en em ev = let e : b ≡ 92 = grind (arith, nat_tests) in rw e backslash
shown_by b false false true m v es et en em ev = let e : b ≡ 10 = grind (arith, nat_tests) in rw e newline
shown_by b false false false true v es et en em ev = let e : b ≡ 9 = grind (arith, nat_tests) in rw e tab
shown_by b false false false false true es et en em ev = plain es et en (grind (arith, nat_tests)) (grind (arith, nat_tests))
shown_by b false false false false false es et en em ev = digits

pub is_shown : (b : ℕ) → IsShown b (shown_byte b)
is_shown b = shown_by b (b == 34) (b == 92) (b == 10) (b == 9) (nat_le 32 b && nat_le b 126) refl refl refl refl refl

-- ---- the closing quote

passes_digit : (d at : ℕ) (z : Bytes) → d < 8 → closing false at ((48 + d) ∷ z) ≡ closing false (at + 1) z
passes_digit d at z h =
    let q : ((48 + d) == 34) ≡ false = grind (arith, nat_tests) in
    let n : ((48 + d) == 10) ≡ false = grind (arith, nat_tests) in
    let e : ((48 + d) == 92) ≡ false = grind (arith, nat_tests) in
    rw (q, n, e) refl

passes : (b : ℕ) (s : Bytes) → IsShown b s → (at : ℕ) (z : Bytes) → closing false at (s ++ z) ≡ closing false (at + length s) z
passes _ _ quote at z = ap (λ n. closing false n z) (omega arith)
passes _ _ backslash at z = ap (λ n. closing false n z) (omega arith)
passes _ _ newline at z = ap (λ n. closing false n z) (omega arith)
passes _ _ tab at z = ap (λ n. closing false n z) (omega arith)
passes b _ (plain q e n low high) at z = rw (q, n, e) refl
passes b _ digits at z =
    passes_digit (b / 8 % 8) (at + 1 + 1) ((48 + b % 8) ∷ z) (omega arith)
    ∙ passes_digit (b % 8) (at + 1 + 1 + 1) z (omega arith)
    ∙ ap (λ n. closing false n z) (omega arith)

-- the quote that closes what is shown is its last byte
pub closing_shown : (text : Bytes) (at : ℕ) → closing false at (flat_map shown_byte text ++ 34 ∷ []) ≡ Some (at + length (flat_map shown_byte text) + 1)
closing_shown [] at = ap Some (omega arith)
closing_shown (b ∷ bs) at =
    let rest = flat_map shown_byte bs in
    ap (closing false at) (append_assoc (shown_byte b) rest (34 ∷ []))
    ∙ passes b (shown_byte b) (is_shown b) at (rest ++ 34 ∷ [])
    ∙ closing_shown bs (at + length (shown_byte b))
    ∙ ap Some (omega (arith, length-append (shown_byte b) rest))

-- ---- the bytes that it stands for

octal_digit : (d : ℕ) → d < 8 → is_octal (48 + d) ≡ true
octal_digit d h = grind (arith, nat_tests)

octal_is : (b : ℕ) → b < 256 → ((48 + b / 64 - 48) * 64 + (48 + b / 8 % 8 - 48) * 8 + (48 + b % 8 - 48)) % 256 ≡ b
octal_is b h = let e = div-div-eq-div-mul b 8 8 in let f : b / 64 ≡ b / 8 / 8 = sym e in omega (arith, f)

stands_digits : (b : ℕ) (z : Bytes) → b < 256 → unescaped_from 0 (92 ∷ octal b ++ z) ≡ b ∷ unescaped_from 0 z
stands_digits b z h =
    let x : is_octal (48 + b / 64) ≡ true = octal_digit (b / 64) (omega arith) in
    let y : is_octal (48 + b / 8 % 8) ≡ true = octal_digit (b / 8 % 8) (omega arith) in
    let w : is_octal (48 + b % 8) ≡ true = octal_digit (b % 8) (omega arith) in
    rw (x, y, w, octal_is b h) refl

stands : (b : ℕ) (s : Bytes) → IsShown b s → b < 256 → (z : Bytes) → unescaped_from 0 (s ++ z) ≡ b ∷ unescaped_from 0 z
stands _ _ quote h z = refl
stands _ _ backslash h z = refl
stands _ _ newline h z = refl
stands _ _ tab h z = refl
stands b _ (plain q e n low high) h z = rw e refl
stands b _ digits h z = stands_digits b z h

-- what is shown stands for the text
pub unescaped-shown : (text : Bytes) → AllByRecursion (λ b. b < 256) text → unescaped_of (flat_map shown_byte text) ≡ text
unescaped-shown [] h = refl
unescaped-shown (b ∷ bs) h = stands b (shown_byte b) (is_shown b) h.0 (flat_map shown_byte bs) ∙ ap (λ z. b ∷ z) (unescaped-shown bs h.1)

-- ---- the constant

token_closed : (z : Bytes) (n : ℕ) → closing false 1 z ≡ Some n → token (34 ∷ z) ≡ (lexeme.Text, n)
unfolding token
token_closed z n h = ap closed h

skip_quote : (z : Bytes) → skip (34 ∷ z) ≡ 34 ∷ z
unfolding skip
skip_quote z = refl

kind_closed : (z : Bytes) (n : ℕ) → closing false 1 z ≡ Some n → kind (34 ∷ z) ≡ lexeme.Text
unfolding kind
kind_closed z n h = ap (λ s. (token s).0) (skip_quote z) ∙ ap (λ t. t.0) (token_closed z n h)

spelling_closed : (z : Bytes) (n : ℕ) → closing false 1 z ≡ Some n → spelling (34 ∷ z) ≡ take n (34 ∷ z)
unfolding spelling
spelling_closed z n h = ap (λ s. take (token s).1 s) (skip_quote z) ∙ ap (λ t. take t.1 (34 ∷ z)) (token_closed z n h)

next_closed : (z : Bytes) (n : ℕ) → closing false 1 z ≡ Some n → next (34 ∷ z) ≡ drop n (34 ∷ z)
unfolding next
next_closed z n h = ap (λ s. drop (token s).1 s) (skip_quote z) ∙ ap (λ t. drop t.1 (34 ∷ z)) (token_closed z n h)

string_closed : (z : Bytes) (n : ℕ) → closing false 1 z ≡ Some n → string_front (34 ∷ z) ≡ Some (unquoted (take n (34 ∷ z)), drop n (34 ∷ z))
string_closed z n h = rw (kind_closed z n h, spelling_closed z n h, next_closed z n h) refl

-- the quote that closes comes before what is after it
closing_before : (z after : Bytes) (is_escaped : Bool) (at n : ℕ) → closing is_escaped at z ≡ Some n → closing is_escaped at (z ++ after) ≡ Some n
closing_before [] after is_escaped at n h = cc
closing_before (b ∷ z) after true at n h = closing_before z after false (at + 1) n h
closing_before (b ∷ z) after false at n h = go (b == 34) (b == 10) h (closing_before z after (b == 92) (at + 1) n)
  where
    go : (s t : Bool) → cond s (Some (at + 1)) (cond t None (closing (b == 92) (at + 1) z)) ≡ Some n
        → (closing (b == 92) (at + 1) z ≡ Some n → closing (b == 92) (at + 1) (z ++ after) ≡ Some n)
        → cond s (Some (at + 1)) (cond t None (closing (b == 92) (at + 1) (z ++ after))) ≡ Some n
    go true t g r = g
    go false true g r = cc
    go false false g r = r g

-- what is shown is a string, and its inside what is between the quotes
pub string_shown : (text after : Bytes) → string_front (shown_text text ++ after) ≡ Some (flat_map shown_byte text, after)
string_shown text after =
    let inside = flat_map shown_byte text in
    let z = inside ++ 34 ∷ [] ++ after in
    let n = 1 + length inside + 1 in
    let h : closing false 1 z ≡ Some n = closing_before (inside ++ 34 ∷ []) after false 1 n (closing_shown text 1) in
    let size : length (34 ∷ (inside ++ 34 ∷ [])) ≡ n = omega (arith, length-append inside (34 ∷ [])) in
    let front : take n (34 ∷ z) ≡ 34 ∷ (inside ++ 34 ∷ []) = ap (λ k. take k (34 ∷ z)) (sym size) ∙ take-append_seam (34 ∷ (inside ++ 34 ∷ [])) after in
    let rest : drop n (34 ∷ z) ≡ after = ap (λ k. drop k (34 ∷ z)) (sym size) ∙ drop-append_seam (34 ∷ (inside ++ 34 ∷ [])) after in
    let middle : unquoted (34 ∷ (inside ++ 34 ∷ [])) ≡ inside =
    ap (λ k. take k (inside ++ 34 ∷ [])) (omega (arith, length-append inside (34 ∷ []))) ∙ take-append_seam inside (34 ∷ []) in
    string_closed z n h ∙ rw (front, rest, middle) refl

-- a text that is shown reads as a constant, which is the text
pub constant_shown : (text after : Bytes) → AllByRecursion (λ b. b < 256) text → constant_front (shown_text text ++ after) ≡ Some (Text text, after)
constant_shown text after h = rw (string_shown text after, unescaped-shown text h) refl

-- ---- its bytes

digit_visible : (d : ℕ) → d < 8 → is_visible (48 + d) ≡ true
digit_visible d h = grind (arith, nat_tests)

visible : (b : ℕ) (s : Bytes) → IsShown b s → b < 256 → list_all is_visible s ≡ true
visible _ _ quote h = refl
visible _ _ backslash h = refl
visible _ _ newline h = refl
visible _ _ tab h = refl
visible b _ (plain q e n low high) h = let v : is_visible b ≡ true = grind (arith, nat_tests) in rw v refl
visible b _ digits h =
    let r = div-div-eq-div-mul b 8 8 in
    let f : b / 64 ≡ b / 8 / 8 = sym r in
    let x : is_visible (48 + b / 64) ≡ true = digit_visible (b / 64) (omega (arith, f)) in
    let y : is_visible (48 + b / 8 % 8) ≡ true = digit_visible (b / 8 % 8) (omega arith) in
    let z : is_visible (48 + b % 8) ≡ true = digit_visible (b % 8) (omega arith) in
    rw (x, y, z) refl

inside_visible : (text : Bytes) → AllByRecursion (λ b. b < 256) text → list_all is_visible (flat_map shown_byte text) ≡ true
inside_visible [] h = refl
inside_visible (b ∷ bs) h =
    list_all-append is_visible (shown_byte b) (flat_map shown_byte bs) ∙ rw (visible b (shown_byte b) (is_shown b) h.0, inside_visible bs h.1) refl

-- all that is shown of a text is visible
pub text_visible : (text : Bytes) → All (λ b. b < 256) text → IsTrue (list_all is_visible (shown_text text))
text_visible text h =
    list_all-append is_visible (flat_map shown_byte text) (34 ∷ []) ∙ rw (inside_visible text (recursion_from_All (λ b. b < 256) text h)) refl
