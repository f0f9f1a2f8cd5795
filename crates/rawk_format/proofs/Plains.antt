-- Lemmas on the plain conversions, and on runs of bytes that stand for themselves.
use Rattle.std.proofs.Common.{◌≡◌, refl, sym, ap, ◌∙◌, subst, ℕ, suc, ◌+◌, ◌-◌, ◌<◌, ◌≤◌, lit≤, ℤ, pos, negsuc, List, [], ◌∷◌, ◌++◌, Bool, true, false, cond, length, map, take, drop, replicate, arith, append_assoc, append-nil, None, Result, Ok, Err, le_refl}
use Rattle.std.specs.Prelude.{not, ◌==◌, unsigned_abs, int_lt, if◌then◌else◌}
use Rattle.std.specs.Fmt.{digit_glyph}
use Rattle.std.specs.List.{prefix_len, AllByRecursion}
use Rattle.std.specs.Int.Digits.{digits_of}
use Rattle.std.proofs.lemmas.Int.Digits.{length-digits_of_step, all_below_base_digits_of}
use Rattle.std.proofs.lemmas.Bool.Decides.{nat_tests}
use Rattle.rawk_value.specs.Values.{Bytes, decimal, int_text, number_of, next_ok}
use Rattle.rawk_value.specs.declared.value.Value.{Value}
use Rattle.rawk_value.specs.declared.fault.Fault.{Fault}
use Rattle.rawk_format.specs.declared.specification.Conversion.{Conversion}
use Rattle.rawk_format.specs.declared.specification.Conversion.TheVariants.{Decimal}
use Rattle.rawk_format.specs.declared.layout.Layout.{Layout}
use Rattle.rawk_format.specs.declared.layout.Head.TheVariants.{Nothing, Minus}
use Rattle.rawk_format.specs.Format.{Item, item, item_after, percent_item, is_percent, digits_text, head_text, number_text, padded, prefixed, IsSoFar}
use Rattle.rawk_format.specs.Grown.{is_plain}
use Rattle.rawk_format.proofs.Formats.{so_far_next}

-- ---- runs

pub run_from : (whole : Result Bytes Fault) (before : Bytes) (b : ℕ) (text : Bytes) (values : List Value) (t : Bool) → is_percent b ≡ t → IsSoFar whole before (b ∷ text) values
    → ((start : Bytes) → IsSoFar whole start text values → IsSoFar whole (start ++ take (prefix_len is_plain text) text) (drop (prefix_len is_plain text) text) values)
    → IsSoFar whole (before ++ take (cond (not t) (1 + prefix_len is_plain text) 0) (b ∷ text)) (drop (cond (not t) (1 + prefix_len is_plain text) 0) (b ∷ text)) values
run_from whole before b text values true e far next =
    let P : Bytes → Type 0 = λ x. IsSoFar whole x (b ∷ text) values in
    subst P (sym (append-nil before)) far
run_from whole before b text values false e far next =
    let n = prefix_len is_plain text in
    let one : item b text values ≡ Ok (record { text = b ∷ []; rest = text; values = values }) = rw e in
    let step : IsSoFar whole (before ++ b ∷ []) text values = so_far_next whole before (before ++ b ∷ []) b text text values values far (sym (ap (item_after before) one)) (le_refl (length text)) in
    let same : 1 + n ≡ suc n = omega arith in
    let P : ℕ → Type 0 = λ k. IsSoFar whole (before ++ take k (b ∷ text)) (drop k (b ∷ text)) values in
    let Q : Bytes → Type 0 = λ x. IsSoFar whole x (drop n text) values in
    subst P (sym same) (subst Q (append_assoc before (b ∷ []) (take n text)) (next (before ++ b ∷ []) step))

pub so_far_run : (whole : Result Bytes Fault) (before rest : Bytes) (values : List Value) → IsSoFar whole before rest values → IsSoFar whole (before ++ take (prefix_len is_plain rest) rest) (drop (prefix_len is_plain rest) rest) values
so_far_run whole before [] values far =
    let P : Bytes → Type 0 = λ x. IsSoFar whole x [] values in
    subst P (sym (append-nil before)) far
so_far_run whole before (b ∷ text) values far = run_from whole before b text values (is_percent b) refl far (λ start f. so_far_run whole start text values f)

pub run_next : (whole : Result Bytes Fault) (before after rest from : Bytes) (values : List Value) (n : ℕ)
    → IsSoFar whole before rest values → n ≡ prefix_len is_plain rest → after ≡ before ++ take (prefix_len is_plain rest) rest → from ≡ drop n rest → IsSoFar whole after from values
run_next whole before after rest from values n far is e d =
    let P : Bytes → Type 0 = λ x. IsSoFar whole x from values in
    let Q : Bytes → Type 0 = λ x. IsSoFar whole (before ++ take (prefix_len is_plain rest) rest) x values in
    subst P (sym e) (subst Q (sym (d ∙ ap (λ k. drop k rest) is)) (so_far_run whole before rest values far))

-- what follows a run begins with a percent sign
pub after_from : (b : ℕ) (text : Bytes) (x : ℕ) (xs : Bytes) (t : Bool) → is_percent b ≡ t → (drop (prefix_len is_plain text) text ≡ x ∷ xs → is_percent x ≡ true)
    → drop (cond (not t) (1 + prefix_len is_plain text) 0) (b ∷ text) ≡ x ∷ xs → is_percent x ≡ true
after_from b text x xs true e next d =
    let same : b ≡ x = cc in
    ap is_percent (sym same) ∙ e
after_from b text x xs false e next d =
    let n = prefix_len is_plain text in
    let same : 1 + n ≡ suc n = omega arith in
    next (ap (λ k. drop k (b ∷ text)) (sym same) ∙ d)

pub after_run : (rest : Bytes) (x : ℕ) (xs : Bytes) → drop (prefix_len is_plain rest) rest ≡ x ∷ xs → is_percent x ≡ true
after_run [] x xs d = absurd (cc)
after_run (b ∷ text) x xs d = after_from b text x xs (is_percent b) refl (after_run text x xs) d

-- ---- plain conversions

padded_nothing : (head body : Bytes) → padded false false 0 head body ≡ head ++ body
padded_nothing head body =
    let z : 0 - length head - length body ≡ 0 = omega arith in
    ap (λ k. replicate k 32 ++ (head ++ (body ++ []))) z ∙ ap (λ t. head ++ t) (append-nil body)

glyph_small : (d : ℕ) → d < 10 → digit_glyph false d ≡ 48 + d
glyph_small d h = grind (arith, nat_tests)

glyphs_small : (ds : Bytes) → AllByRecursion (λ d. d < 10) ds → map (digit_glyph false) ds ≡ map (λ d. 48 + d) ds
glyphs_small [] h = refl
glyphs_small (d ∷ ds) h = ap (λ k. k ∷ map (digit_glyph false) ds) (glyph_small d h.0) ∙ ap (λ t. (48 + d) ∷ t) (glyphs_small ds h.1)

digits_from : (n : ℕ) (b : Bool) → (n == 0) ≡ b → digits_text 10 false 1 n ≡ decimal n
digits_from n true e =
    let z : n ≡ 0 = grind (arith, nat_tests) in
    let P : ℕ → Type 0 = λ k. digits_text 10 false 1 k ≡ decimal k in
    subst P (sym z) refl
digits_from n false e =
    let above : 0 < n = grind (arith, nat_tests) in
    let ten : 2 ≤ 10 = lit≤ tt in
    let none : 1 - length (digits_of 10 n) ≡ 0 = omega (arith, length-digits_of_step 10 n ten above) in
    let all : AllByRecursion (λ d. d < 10) (digits_of 10 n) = all_below_base_digits_of 10 n ten in
    ap (λ k. replicate k 48 ++ map (digit_glyph false) (digits_of 10 n)) none ∙ glyphs_small (digits_of 10 n) all
    ∙ ap (λ (b : Bool). if b then 48 ∷ [] else map (λ d. 48 + d) (digits_of 10 n)) (sym e)

digits_plain : (n : ℕ) → digits_text 10 false 1 n ≡ decimal n
digits_plain n = digits_from n (n == 0) refl

-- what `%d` asks for
abbrev plain_layout : Conversion → Layout
plain_layout conversion = record { flags = record { minus = false; plus = false; space = false; alternate = false; zero = false }; left = false; width = 0; precision = None; conversion = conversion }

number_plain : (z : ℤ) → number_text (plain_layout Decimal) z ≡ int_text z
number_plain (pos n) =
    let no : int_lt (pos n) (pos 0) ≡ false = grind (arith, nat_tests) in
    let body = digits_text 10 false 1 n ++ [] in
    ap (λ (b : Bool). padded false false 0 (head_text (if b then Minus else Nothing)) body) no ∙ padded_nothing [] body ∙ append-nil (digits_text 10 false 1 n) ∙ digits_plain n
number_plain (negsuc n) =
    let body = digits_text 10 false 1 (unsigned_abs (negsuc n)) ++ [] in
    let same : unsigned_abs (negsuc n) ≡ n + 1 = omega arith in
    padded_nothing (45 ∷ []) body ∙ ap (λ t. 45 ∷ t) (append-nil (digits_text 10 false 1 (unsigned_abs (negsuc n))) ∙ digits_plain (unsigned_abs (negsuc n)) ∙ ap decimal same)

number_item : (rest : Bytes) (v : Value) (vs : List Value) (r : Result ℤ Fault) → number_of v ≡ r
    → percent_item (100 ∷ rest) (v ∷ vs) ≡ next_ok (next_ok r (λ z. Ok (int_text z))) (λ t. Ok (record { text = t; rest = rest; values = vs }))
number_item rest v vs (Ok z) e =
    let shown : Bytes → Result Item Fault = λ t. Ok (record { text = t; rest = rest; values = vs }) in
    let from : Result ℤ Fault → Result Item Fault = λ r. next_ok (next_ok r (λ z. Ok (number_text (plain_layout Decimal) z))) shown in
    ap from e ∙ ap shown (number_plain z)
number_item rest v vs (Err f) e =
    let shown : Bytes → Result Item Fault = λ t. Ok (record { text = t; rest = rest; values = vs }) in
    let from : Result ℤ Fault → Result Item Fault = λ r. next_ok (next_ok r (λ z. Ok (number_text (plain_layout Decimal) z))) shown in
    ap from e

shown_added : (before after rest : Bytes) (vs : List Value) (r : Result Bytes Fault) → Ok after ≡ prefixed before r
    → Ok (record { text = after; rest = rest; values = vs }) ≡ item_after before (next_ok r (λ t. Ok (record { text = t; rest = rest; values = vs })))
shown_added before after rest vs (Ok t) e =
    let same : after ≡ before ++ t = cc in
    let shown : Bytes → Result Item Fault = λ t. Ok (record { text = t; rest = rest; values = vs }) in
    ap shown same
shown_added before after rest vs (Err f) e = absurd (cc)

pub number_added : (before after rest : Bytes) (values : List Value) (v : Value) (vs : List Value) → values ≡ v ∷ vs → Ok after ≡ prefixed before (next_ok (number_of v) (λ z. Ok (int_text z)))
    → Ok (record { text = after; rest = rest; values = vs }) ≡ item_after before (percent_item (100 ∷ rest) values)
number_added before after rest values v vs is e =
    shown_added before after rest vs (next_ok (number_of v) (λ z. Ok (int_text z))) e ∙ ap (item_after before) (sym (number_item rest v vs (number_of v) refl)) ∙ ap (λ xs. item_after before (percent_item (100 ∷ rest) xs)) (sym is)
