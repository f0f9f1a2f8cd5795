-- What a Cursor shows of a text is its next token, and a text has no other.
use Rattle.std.proofs.Common.{◌≡◌, ◌≢◌, ℕ, ◌+◌, ◌<◌, ◌≤◌, Bool, true, false, not, ◌&&◌, ◌||◌, cond, ◌==◌, ◌⊎◌, inl, inr, List, [], ◌∷◌, ◌++◌, length, take, drop, Option, Some, None, refl, sym, ap, subst, ◌∙◌, append_assoc, arith}
use Rattle.std.specs.Prelude.{slice_index}
use Rattle.std.proofs.lemmas.List.{take-append-drop, length-drop, length-take-le, get_or-drop}
use Rattle.std.proofs.lemmas.Bool.{cases_lt}
use Rattle.std.proofs.lemmas.List.Sums.{prefix_len-le-length}
use Rattle.std.proofs.Math.Seq.{take-append_seam, drop-append_seam}
use Rattle.rawk_keywords.specs.declared.class.Class.TheVariants as class
use Rattle.rawk_keywords.specs.declared.token.Kind.{Kind}
use Rattle.rawk_keywords.specs.declared.token.Kind.TheVariants as k
use Rattle.rawk_lexer.proofs.Gaps.{skip_clears, clear_alone, gap_skips, no_gap_clear}
use Rattle.rawk_keywords.specs.Classes.{is_in}
use Rattle.rawk_keywords.specs.Keywords.{keyword}
use Rattle.rawk_lexer.specs.Lex.{Token, run, called, fraction_len, sign_len, exponent_len, mantissa_len, number_len, begins_number, closing, closed, quoted, single, double, two_or_one, symbol, token, blank_len, skip, kind, spelling, next}
use Rattle.rawk_lexer.proofs.Lexemes.{is_same, is_other, other_test, apart, run_take, run_front, take_one, number_take, number_front, begins_as_number, number_begins, inside_take, inside_front, is_symbol, single_holds, double_holds, single_byte, double_byte}
use Rattle.rawk_lexer.specs.Moves.{token_moves}
use Rattle.rawk_lexer.specs.Shown.{Shows}
use Rattle.rawk_lexer.specs.Token.{Gap, Run, more, Lexeme, word, number, text, one, two, IsLongest, HasNone, IsToken, longest, ending, unterminated, bad}

-- ---- the token, by the byte that a text begins with

pick_true : (b : Bool) (s t : Token) → b ≡ true → cond b s t ≡ s
pick_true b s t h = ap (λ x. cond x s t) h

pick_false : (b : Bool) (s t : Token) → b ≡ false → cond b s t ≡ t
pick_false b s t h = ap (λ x. cond x s t) h

begins_no_number : (b next : ℕ) → is_in class.Digit b ≡ false → (b == 46) ≡ false → begins_number b next ≡ false
begins_no_number b next d p = ap (λ x. x || (b == 46 && is_in class.Digit next)) d ∙ ap (λ x. x && is_in class.Digit next) p

token_number : (z : List ℕ) → begins_as_number z ≡ true → token z ≡ (k.Number, number_len z)
unfolding token
token_number [] h = cc
token_number (b ∷ z) h = pick_true (begins_number b (slice_index z 0)) _ _ h

-- a word's token
abbrev pub word_token : List ℕ → Token
word_token z = (called (keyword (take (run class.Word z) z)) (slice_index z (run class.Word z)), run class.Word z)

token_no_number : (b : ℕ) (z : List ℕ) → begins_number b (slice_index z 0) ≡ false → token (b ∷ z) ≡ cond (is_in class.Word b) (word_token (b ∷ z)) (cond (b == 34) (quoted (b ∷ z)) (symbol b (slice_index z 0)))
unfolding token
token_no_number b z h = pick_false (begins_number b (slice_index z 0)) _ _ h

token_word : (b : ℕ) (z : List ℕ) → begins_number b (slice_index z 0) ≡ false → is_in class.Word b ≡ true → token (b ∷ z) ≡ word_token (b ∷ z)
token_word b z h w = token_no_number b z h ∙ pick_true (is_in class.Word b) _ _ w

token_text : (z : List ℕ) → token (34 ∷ z) ≡ quoted (34 ∷ z)
unfolding token
token_text z = refl

token_symbol : (b : ℕ) (z : List ℕ) → begins_number b (slice_index z 0) ≡ false → is_in class.Word b ≡ false → (b == 34) ≡ false → token (b ∷ z) ≡ symbol b (slice_index z 0)
token_symbol b z h w q = token_no_number b z h ∙ pick_false (is_in class.Word b) _ _ w ∙ pick_false (b == 34) _ _ q

digit_is_word : (b : ℕ) → is_in class.Digit b ≡ true → is_in class.Word b ≡ true
digit_is_word b h = rw h refl

no_word_no_digit : (b : ℕ) → is_in class.Word b ≡ false → is_in class.Digit b ≡ false
no_word_no_digit b h = go (is_in class.Digit b) refl
  where
    go : (s : Bool) → is_in class.Digit b ≡ s → is_in class.Digit b ≡ false
    go true e = let x : is_in class.Word b ≡ true = digit_is_word b e in cc
    go false e = e

-- what a symbol's first byte is not
record OnlySymbol (b : ℕ) : Type 0 where
  no_digit : is_in class.Digit b ≡ false
  no_word : is_in class.Word b ≡ false
  no_quote : (b == 34) ≡ false
  no_point : (b == 46) ≡ false

only_symbol : (b : ℕ) → is_symbol b ≡ true → OnlySymbol b
only_symbol b h = go (is_in class.Word b) (b == 34) (b == 46) refl refl refl h
  where
    go : (s t u : Bool) → is_in class.Word b ≡ s → (b == 34) ≡ t → (b == 46) ≡ u → (not s && (not t && (not u && (not (is_in class.Blank b) && (not (b == 35) && not (b == 92)))))) ≡ true → OnlySymbol b
    go true t u e f g h = cc
    go false true u e f g h = cc
    go false false true e f g h = cc
    go false false false e f g h = record { no_digit = no_word_no_digit b e; no_word = e; no_quote = f; no_point = g }

is_symbol_token : (b : ℕ) (z : List ℕ) → is_symbol b ≡ true → token (b ∷ z) ≡ symbol b (slice_index z 0)
is_symbol_token b z h =
    let o = only_symbol b h in
    token_symbol b z (begins_no_number b (slice_index z 0) o.no_digit o.no_point) o.no_word o.no_quote

-- ---- a token at the front is within what is read

word_within : (b : ℕ) (z u : List ℕ) → is_in class.Digit b ≡ false → Run class.Word (b ∷ z) → length (b ∷ z) ≤ (token (b ∷ z ++ u)).1
word_within b z u d (more w r) =
    let e = token_word b (z ++ u) (begins_no_number b (slice_index (z ++ u) 0) d (apart (is_in class.Word) b 46 w refl)) w in
    let f = run_front class.Word (b ∷ z) u (more w r) in
    rw e f

two_within : (b c : ℕ) (kind : Kind) (u : List ℕ) → double b c ≡ Some kind → 2 ≤ (token (b ∷ c ∷ u)).1
unfolding symbol
two_within b c kind u h =
    let e : token (b ∷ c ∷ u) ≡ symbol b c = is_symbol_token b (c ∷ u) (double_byte b c kind h) in
    rw (e, h) (omega arith)

within : (kind : Kind) (v u : List ℕ) → Lexeme kind v → length v ≤ (token (v ++ u)).1
within kind v u (word {b = b} {z = z} d r) = word_within b z u d r
within kind v u (number {m = m} {e = e} h g) =
    let begins : begins_as_number (m ++ e ++ u) ≡ true = rw (append_assoc m e u) (number_begins m (e ++ u) h) in
    rw (token_number (m ++ e ++ u) begins) (number_front m e u h g)
within kind v u (text {z = z} h) =
    let e = inside_front 1 z u h in
    rw (token_text (z ++ u), e) (omega arith)
within kind v u (one {b = b} h) = token_moves b u
within kind v u (two {b = b} {c = c} {kind = x} h) = two_within b c x u h

-- ---- what is read is within the text

fraction_within : (z : List ℕ) → fraction_len z ≤ length z
fraction_within [] = omega arith
fraction_within (b ∷ z) = let e = prefix_len-le-length (is_in class.Digit) z in go (b == 46) e
  where
    go : (s : Bool) → run class.Digit z ≤ length z → cond s (1 + run class.Digit z) 0 ≤ length (b ∷ z)
    go true e = omega arith
    go false e = omega arith

sign_within : (z : List ℕ) → sign_len z ≤ length z
sign_within [] = omega arith
sign_within (b ∷ z) = go (b == 43 || b == 45)
  where
    go : (s : Bool) → cond s 1 0 ≤ length (b ∷ z)
    go true = omega arith
    go false = omega arith

exponent_within : (z : List ℕ) → exponent_len z ≤ length z
exponent_within [] = omega arith
exponent_within (b ∷ z) = go (b == 101 || b == 69) (run class.Digit (drop (sign_len z) z) == 0)
  where
    go : (s t : Bool) → cond s (cond t 0 (1 + sign_len z + run class.Digit (drop (sign_len z) z))) 0 ≤ length (b ∷ z)
    go true true = omega arith
    go true false =
        let e = prefix_len-le-length (is_in class.Digit) (drop (sign_len z) z) in
        let f = sign_within z in
        let g = length-drop (sign_len z) z in
        omega (arith, e, f, g)
    go false t = omega arith

mantissa_within : (z : List ℕ) → mantissa_len z ≤ length z
mantissa_within z =
    let e = prefix_len-le-length (is_in class.Digit) z in
    let f = fraction_within (drop (run class.Digit z) z) in
    let g = length-drop (run class.Digit z) z in
    omega (arith, e, f, g)

number_within : (z : List ℕ) → number_len z ≤ length z
number_within z =
    let e = mantissa_within z in
    let f = exponent_within (drop (mantissa_len z) z) in
    let g = length-drop (mantissa_len z) z in
    omega (arith, e, f, g)

-- ---- no token begins where none is read

head_is : (b x : ℕ) (y z : List ℕ) → b ∷ y ≡ x ∷ z → b ≡ x
head_is b x y z e = cc

tail_is : (b x : ℕ) (y z : List ℕ) → b ∷ y ≡ x ∷ z → y ≡ z
tail_is b x y z e = cc

no_token_unclosed : (z : List ℕ) (kind : Kind) (v u : List ℕ) → closing false 1 z ≡ None → v ++ u ≡ 34 ∷ z → Lexeme kind v → ⊥
no_token_unclosed z kind v u c e (word {b = b} {z = y} d (more w r)) =
    let x : is_in class.Word b ≡ false = ap (is_in class.Word) (head_is b 34 (y ++ u) z e) in cc
no_token_unclosed z kind v u c e (number {m = m} {e = l} h g) =
    let f : m ++ (l ++ u) ≡ 34 ∷ z = sym (append_assoc m l u) ∙ e in
    let x : begins_as_number (m ++ (l ++ u)) ≡ false = ap begins_as_number f in
    let y = number_begins m (l ++ u) h in cc
no_token_unclosed z kind v u c e (text {z = y} h) =
    let f = tail_is 34 34 (y ++ u) z e in
    let x = inside_front 1 y u h in
    let g : closing false 1 (y ++ u) ≡ closing false 1 z = ap (closing false 1) f in cc
no_token_unclosed z kind v u c e (one {b = b} h) =
    let x : is_symbol b ≡ false = ap is_symbol (head_is b 34 u z e) in
    let y = single_byte b h in cc
no_token_unclosed z kind v u c e (two {b = b} {c = n} {kind = s} h) =
    let x : is_symbol b ≡ false = ap is_symbol (head_is b 34 (n ∷ u) z e) in
    let y = double_byte b n s h in cc

no_token_bad : (b : ℕ) (z : List ℕ) (kind : Kind) (v u : List ℕ) → begins_number b (slice_index z 0) ≡ false → is_in class.Word b ≡ false → b ≢ 34 → double b (slice_index z 0) ≡ None → single b ≡ k.BadToken → v ++ u ≡ b ∷ z → Lexeme kind v → ⊥
no_token_bad b z kind v u n w q d s e (word {b = c} {z = y} i (more g r)) =
    let x : is_in class.Word c ≡ is_in class.Word b = ap (is_in class.Word) (head_is c b (y ++ u) z e) in cc
no_token_bad b z kind v u n w q d s e (number {m = m} {e = l} h g) =
    let f : m ++ (l ++ u) ≡ b ∷ z = sym (append_assoc m l u) ∙ e in
    let x : begins_as_number (m ++ (l ++ u)) ≡ begins_as_number (b ∷ z) = ap begins_as_number f in
    let y = number_begins m (l ++ u) h in cc
no_token_bad b z kind v u n w q d s e (text {z = y} h) = q (sym (head_is 34 b (y ++ u) z e))
no_token_bad b z kind v u n w q d s e (one {b = c} h) = h (ap single (head_is c b u z e) ∙ s)
no_token_bad b z kind v u n w q d s e (two {b = c} {c = i} {kind = x} h) =
    let f : i ≡ slice_index z 0 = ap (λ y. slice_index y 0) (tail_is c b (i ∷ u) z e) in
    let g : c ≡ b = head_is c b (i ∷ u) z e in
    let y : double c i ≡ double b (slice_index z 0) = ap (λ p. double p i) g ∙ ap (double b) f in cc

-- ---- each text has a token, or is refused

pub data Cut : List ℕ → Type 0 where
  lexeme : {z : List ℕ} (kind : Kind) (n : ℕ) → n ≤ length z → Lexeme kind (take n z) → token z ≡ (called kind (slice_index (drop n z) 0), n) → Cut z
  unclosed : {z : List ℕ} → HasNone (34 ∷ z) → token (34 ∷ z) ≡ (k.Unterminated, 1) → Cut (34 ∷ z)
  nothing : {b : ℕ} {z : List ℕ} → b ≢ 34 → HasNone (b ∷ z) → token (b ∷ z) ≡ (k.BadToken, 1) → Cut (b ∷ z)

number_cut : (b : ℕ) (z : List ℕ) → begins_number b (slice_index z 0) ≡ true → Cut (b ∷ z)
number_cut b z h =
    let f = number_take b z h in
    let P : List ℕ → Type 0 = Lexeme k.Number in
    lexeme k.Number (number_len (b ∷ z)) (number_within (b ∷ z)) (subst P (sym f.is_front) (number f.is_mantissa f.is_exponent)) (token_number (b ∷ z) h)

no_number_no_digit : (b next : ℕ) → begins_number b next ≡ false → is_in class.Digit b ≡ false
no_number_no_digit b next h = go (is_in class.Digit b) h
  where
    go : (s : Bool) → (s || (b == 46 && is_in class.Digit next)) ≡ false → s ≡ false
    go true h = h
    go false h = refl

slice_after : (n : ℕ) (z : List ℕ) → slice_index z n ≡ slice_index (drop n z) 0
slice_after n z = let e : n ≡ n + 0 = omega arith in ap (slice_index z) e ∙ sym (get_or-drop n z 0 0)

word_cut : (b : ℕ) (z : List ℕ) → begins_number b (slice_index z 0) ≡ false → is_in class.Word b ≡ true → Cut (b ∷ z)
word_cut b z h w =
    let n : ℕ = run class.Word (b ∷ z) in
    let len : run class.Word (b ∷ z) ≡ 1 + run class.Word z = ap (λ t. cond t (1 + run class.Word z) 0) w in
    let front : take n (b ∷ z) ≡ b ∷ take (run class.Word z) z = ap (λ m. take m (b ∷ z)) len ∙ take_one (run class.Word z) b z in
    let P : List ℕ → Type 0 = λ v. Lexeme (keyword v) v in
    let l : Lexeme (keyword (take n (b ∷ z))) (take n (b ∷ z)) = subst P (sym front) (word (no_number_no_digit b (slice_index z 0) h) (more w (run_take class.Word z))) in
    let after = slice_after n (b ∷ z) in
    lexeme (keyword (take n (b ∷ z))) n (prefix_len-le-length (is_in class.Word) (b ∷ z)) l (token_word b z h w ∙ ap (λ x. (called (keyword (take n (b ∷ z))) x, n)) after)

text_cut : (z : List ℕ) → Cut (34 ∷ z)
text_cut z = go (closing false 1 z) refl
  where
    go : (o : Option ℕ) → closing false 1 z ≡ o → Cut (34 ∷ z)
    go None e = unclosed (λ kind v u q l. no_token_unclosed z kind v u e q l) (token_text z ∙ ap closed e)
    go (Some end) e =
        let i = inside_take 1 end z e in
        let m = i.1 in
        let n = i.2 in
        let P : List ℕ → Type 0 = Lexeme k.Text in
        let front : take end (34 ∷ z) ≡ 34 ∷ take i.0 z = ap (λ x. take x (34 ∷ z)) m ∙ take_one i.0 34 z in
        lexeme k.Text end (omega (arith, m, n)) (subst P (sym front) (text i.3)) (token_text z ∙ ap closed e)

is_bad : Kind → Bool
is_bad k.BadToken = true
is_bad _ = false

bad_is : (x : Kind) → is_bad x ≡ true → x ≡ k.BadToken
unfolding is_bad
bad_is k.BadToken h = refl
bad_is _ h = cc

not_bad : (x : Kind) → is_bad x ≡ false → x ≢ k.BadToken
unfolding is_bad
not_bad x h e = let y : is_bad x ≡ true = ap is_bad e in cc

is_no_name : Kind → Bool
is_no_name k.Name = false
is_no_name _ = true

called_symbol : (x : Kind) (next : ℕ) → is_no_name x ≡ true → called x next ≡ x
unfolding is_no_name
called_symbol k.Name next h = cc
called_symbol _ next h = refl

two_cut : (b : ℕ) (z : List ℕ) (kind : Kind) → token (b ∷ z) ≡ symbol b (slice_index z 0) → double b (slice_index z 0) ≡ Some kind → Cut (b ∷ z)
unfolding symbol is_no_name
two_cut b [] kind t h = let x : not (0 == 0) ≡ true = double_holds (λ x y s. not (y == 0)) b 0 kind refl h in cc
two_cut b (c ∷ z) kind t h =
    let name = called_symbol kind (slice_index z 0) (double_holds (λ x y s. is_no_name s) b c kind refl h) in
    lexeme kind 2 (omega arith) (two h) (t ∙ ap (two_or_one b) h ∙ ap (λ x. (x, 2)) (sym name))

one_cut : (b : ℕ) (z : List ℕ) → begins_number b (slice_index z 0) ≡ false → is_in class.Word b ≡ false → (b == 34) ≡ false → double b (slice_index z 0) ≡ None → Cut (b ∷ z)
unfolding symbol is_no_name
one_cut b z n w q d = go (is_bad (single b)) refl
  where
    read : token (b ∷ z) ≡ (single b, 1)
    read = token_symbol b z n w q ∙ ap (two_or_one b) d

    go : (s : Bool) → is_bad (single b) ≡ s → Cut (b ∷ z)
    go true e =
        let s = bad_is (single b) e in
        nothing (is_other b 34 q) (λ kind v u p l. no_token_bad b z kind v u n w (is_other b 34 q) d s p l) (read ∙ ap (λ x. (x, 1)) s)
    go false e =
        let some = not_bad (single b) e in
        let name = called_symbol (single b) (slice_index z 0) (single_holds (λ x s. is_no_name s) b refl some) in
        lexeme (single b) 1 (omega arith) (one some) (read ∙ ap (λ x. (x, 1)) (sym name))

cut : (b : ℕ) (z : List ℕ) → Cut (b ∷ z)
cut b z = go (begins_number b (slice_index z 0)) (is_in class.Word b) (b == 34) (double b (slice_index z 0)) refl refl refl refl
  where
    go : (s t u : Bool) (o : Option Kind) → begins_number b (slice_index z 0) ≡ s → is_in class.Word b ≡ t → (b == 34) ≡ u → double b (slice_index z 0) ≡ o → Cut (b ∷ z)
    go true t u o e f g h = number_cut b z e
    go false true u o e f g h = word_cut b z e f
    go false false true o e f g h = let P : ℕ → Type 0 = λ x. Cut (x ∷ z) in subst P (sym (is_same b 34 g)) (text_cut z)
    go false false false (Some kind) e f g h = two_cut b z kind (token_symbol b z e f g) h
    go false false false None e f g h = one_cut b z e f g h

-- ---- a token has one kind

choose_true : (b : Bool) (s t : Kind) → b ≡ true → cond b s t ≡ s
choose_true b s t h = ap (λ x. cond x s t) h

choose_false : (b : Bool) (s t : Kind) → b ≡ false → cond b s t ≡ t
choose_false b s t h = ap (λ x. cond x s t) h

kind_or_bad : Option Kind → Kind
kind_or_bad None = k.BadToken
kind_or_bad (Some kind) = kind

symbol_kind : ℕ → List ℕ → Kind
symbol_kind b [] = single b
symbol_kind b (c ∷ z) = kind_or_bad (double b c)

kind_of : List ℕ → Kind
kind_of [] = k.EndOfText
kind_of (b ∷ z) = cond (begins_number b (slice_index z 0)) k.Number (cond (is_in class.Word b) (keyword (b ∷ z)) (cond (b == 34) k.Text (symbol_kind b z)))

kind_of_number : (v : List ℕ) → begins_as_number v ≡ true → kind_of v ≡ k.Number
unfolding kind_of
kind_of_number [] h = cc
kind_of_number (b ∷ z) h = choose_true (begins_number b (slice_index z 0)) _ _ h

kind_of_word : (b : ℕ) (z : List ℕ) → is_in class.Digit b ≡ false → is_in class.Word b ≡ true → kind_of (b ∷ z) ≡ keyword (b ∷ z)
unfolding kind_of
kind_of_word b z d w = choose_false (begins_number b (slice_index z 0)) _ _ (begins_no_number b (slice_index z 0) d (apart (is_in class.Word) b 46 w refl)) ∙ choose_true (is_in class.Word b) _ _ w

kind_of_symbol : (b : ℕ) (z : List ℕ) → is_symbol b ≡ true → kind_of (b ∷ z) ≡ symbol_kind b z
unfolding kind_of
kind_of_symbol b z h =
    let o = only_symbol b h in
    choose_false (begins_number b (slice_index z 0)) _ _ (begins_no_number b (slice_index z 0) o.no_digit o.no_point) ∙ choose_false (is_in class.Word b) _ _ o.no_word ∙ choose_false (b == 34) _ _ o.no_quote

kind_is : (kind : Kind) (v : List ℕ) → Lexeme kind v → kind ≡ kind_of v
unfolding kind_of symbol_kind kind_or_bad
kind_is kind v (word {b = b} {z = z} d (more w r)) = sym (kind_of_word b z d w)
kind_is kind v (number {m = m} {e = e} h g) = sym (kind_of_number (m ++ e) (number_begins m e h))
kind_is kind v (text h) = refl
kind_is kind v (one {b = b} h) = sym (kind_of_symbol b [] (single_byte b h))
kind_is kind v (two {b = b} {c = c} {kind = x} h) = sym (kind_of_symbol b (c ∷ []) (double_byte b c x h) ∙ ap kind_or_bad h)

-- ---- the longest token is what is read

reads : (z : List ℕ) (kind : Kind) (v u : List ℕ) → v ++ u ≡ z → Lexeme kind v → IsLongest v u → Cut z → token z ≡ (called kind (slice_index u 0), length v)
reads z kind v u e l far (lexeme other n bound m t) =
    let a : length v ≤ (token z).1 = subst (λ y. length v ≤ (token y).1) e (within kind v u l) in
    let b : (token z).1 ≡ n = ap (λ x. x.1) t in
    let size = length-take-le n z bound in
    let same : n ≡ length v = go (cases_lt (length v) n) size a b in
    let front : take n z ≡ v = ap (λ i. take i z) same ∙ ap (take (length v)) (sym e) ∙ take-append_seam v u in
    let rest : drop n z ≡ u = ap (λ i. drop i z) same ∙ ap (drop (length v)) (sym e) ∙ drop-append_seam v u in
    let kinds : other ≡ kind = kind_is other (take n z) m ∙ ap kind_of front ∙ sym (kind_is kind v l) in
    let kind_same : token z ≡ (called kind (slice_index (drop n z) 0), n) = t ∙ ap (λ x. (called x (slice_index (drop n z) 0), n)) kinds in
    let rest_same : token z ≡ (called kind (slice_index u 0), n) = kind_same ∙ ap (λ x. (called kind (slice_index x 0), n)) rest in
    rest_same ∙ ap (λ x. (called kind (slice_index u 0), x)) same
  where
    go : (length v < n) ⊎ (n ≤ length v) → length (take n z) ≡ n → length v ≤ (token z).1 → (token z).1 ≡ n → n ≡ length v
    go (inl h) size a b = absurd (far other (take n z) (drop n z) (take-append-drop n z ∙ sym e) (omega (arith, h, size)) m)
    go (inr h) size a b = omega (arith, h, a, b)
reads z kind v u e l far (unclosed h t) = absurd (h kind v u e l)
reads z kind v u e l far (nothing q h t) = absurd (h kind v u e l)

-- ---- no blank begins a token

clear_front : (p : ℕ → Bool) (b : ℕ) (z : List ℕ) → p b ≡ true → p 32 ≡ false → p 9 ≡ false → p 35 ≡ false → p 92 ≡ false → blank_len (b ∷ z) ≡ 0
clear_front p b z h space tab hash slash =
    let e = apart p b 32 h space in
    let f = apart p b 9 h tab in
    let g = apart p b 35 h hash in
    let i = apart p b 92 h slash in
    rw (e, f, g, i) refl

number_clear : (z : List ℕ) → begins_as_number z ≡ true → blank_len z ≡ 0
number_clear [] h = refl
number_clear (b ∷ z) h = clear_front (λ x. begins_number x (slice_index z 0)) b z h refl refl refl refl

lexeme_clear : (kind : Kind) (v u : List ℕ) → Lexeme kind v → blank_len (v ++ u) ≡ 0
lexeme_clear kind v u (word {b = b} {z = z} d (more w r)) = clear_front (is_in class.Word) b (z ++ u) w refl refl refl refl
lexeme_clear kind v u (number {m = m} {e = e} h g) = number_clear (m ++ e ++ u) (ap begins_as_number (append_assoc m e u) ∙ number_begins m (e ++ u) h)
lexeme_clear kind v u (text h) = refl
lexeme_clear kind v u (one {b = b} h) = clear_front is_symbol b u (single_byte b h) refl refl refl refl
lexeme_clear kind v u (two {b = b} {c = c} {kind = x} h) = clear_front is_symbol b (c ∷ u) (double_byte b c x h) refl refl refl refl

-- ---- both ways

cut_token : (z i : List ℕ) → Gap i z → blank_len z ≡ 0 → Cut z → IsToken (token z).0 (take (token z).1 z) i (drop (token z).1 z)
cut_token z i g c (lexeme kind n bound l t) =
    let P : Token → Type 0 = λ x. IsToken x.0 (take x.1 z) i (drop x.1 z) in
    let Q : List ℕ → Type 0 = Gap i in
    let size = length-take-le n z bound in
    subst P (sym t) (longest (subst Q (sym (take-append-drop n z)) g) l (λ other v u e h m. go other v u (e ∙ take-append-drop n z) m (omega (arith, h, size))))
  where
    go : (other : Kind) (v u : List ℕ) → v ++ u ≡ z → Lexeme other v → n < length v → ⊥
    go other v u e m h =
        let a : length v ≤ (token z).1 = subst (λ y. length v ≤ (token y).1) e (within other v u m) in
        let b : (token z).1 ≡ n = ap (λ x. x.1) t in
        absurd (omega (arith, a, b, h))
cut_token z i g c (unclosed {z = y} h t) =
    let P : Token → Type 0 = λ x. IsToken x.0 (take x.1 (34 ∷ y)) i (drop x.1 (34 ∷ y)) in
    subst P (sym t) (unterminated g h)
cut_token z i g c (nothing {b = b} {z = y} q h t) =
    let P : Token → Type 0 = λ x. IsToken x.0 (take x.1 (b ∷ y)) i (drop x.1 (b ∷ y)) in
    subst P (sym t) (bad g (λ j f. clear_alone (b ∷ y) j c f) q h)

token_at : (z i : List ℕ) → Gap i z → blank_len z ≡ 0 → IsToken (token z).0 (take (token z).1 z) i (drop (token z).1 z)
unfolding token
token_at [] i g c = ending g
token_at (b ∷ z) i g c = cut_token (b ∷ z) i g c (cut b z)

-- what a Cursor shows is the token that the text begins with
pub shown_is_token : (i : List ℕ) → IsToken (kind i) (spelling i) i (next i)
unfolding kind spelling next
shown_is_token i = let c = skip_clears i in token_at (skip i) i c.0 c.1

shows : (c : Kind) (w i j z : List ℕ) → skip i ≡ z → z ≡ w ++ j → token z ≡ (c, length w) → Shows c w i j
unfolding kind spelling next
shows c w i j z s e t =
    let f : token (skip i) ≡ (c, length w) = ap token s ∙ t in
    let n : (token (skip i)).1 ≡ length w = ap (λ x. x.1) f in
    let r : skip i ≡ w ++ j = s ∙ e in (
      sym (ap (λ x. x.0) f),
      sym (ap (λ m. take m (skip i)) n ∙ ap (take (length w)) r ∙ take-append_seam w j),
      sym (ap (λ m. drop m (skip i)) n ∙ ap (drop (length w)) r ∙ drop-append_seam w j),
    )

nil_front : (v u : List ℕ) → v ++ u ≡ [] → v ≡ []
nil_front [] u e = refl
nil_front (b ∷ v) u e = cc

some_byte : (kind : Kind) (v : List ℕ) → Lexeme kind v → v ≢ []
some_byte kind v (word {b = b} {z = z} d r) q = cc
some_byte kind v (number {m = m} {e = e} h g) q =
    let x : begins_as_number (m ++ e) ≡ false = ap begins_as_number q in
    let y = number_begins m e h in cc
some_byte kind v (text {z = z} h) q = cc
some_byte kind v (one {b = b} h) q = cc
some_byte kind v (two {b = b} {c = c} h) q = cc

reads_all : (z : List ℕ) (kind : Kind) (v u : List ℕ) → v ++ u ≡ z → Lexeme kind v → IsLongest v u → token z ≡ (called kind (slice_index u 0), length v)
reads_all [] kind v u e l far = absurd (some_byte kind v l (nil_front v u e))
reads_all (b ∷ z) kind v u e l far = reads (b ∷ z) kind v u e l far (cut b z)

token_nil : token [] ≡ (k.EndOfText, 0)
unfolding token
token_nil = refl

-- what is read where no token begins
abbrev pub refused : List ℕ → Token
refused [] = (k.EndOfText, 0)
refused (b ∷ z) = cond (b == 34) (k.Unterminated, 1) (k.BadToken, 1)

none_refused : (z : List ℕ) → HasNone z → Cut z → token z ≡ refused z
none_refused z h (lexeme kind n bound l t) = absurd (h kind (take n z) (drop n z) (take-append-drop n z) l)
none_refused z h (unclosed g t) = t
none_refused z h (nothing {b = b} {z = y} q g t) = t ∙ sym (pick_false (b == 34) _ _ (other_test b 34 q))

-- and a text has no other
pub token_is_shown : (c : Kind) (w i j : List ℕ) → IsToken c w i j → Shows c w i j
token_is_shown c w i j (longest {kind = x} g l far) =
    shows (called x (slice_index j 0)) w i j (w ++ j) (gap_skips i (w ++ j) g (lexeme_clear x w j l)) refl (reads_all (w ++ j) x w j refl l far)
token_is_shown c w i j (ending g) = shows k.EndOfText [] i [] [] (gap_skips i [] g refl) refl token_nil
token_is_shown c w i j (unterminated g h) = shows k.Unterminated (34 ∷ []) i j (34 ∷ j) (gap_skips i (34 ∷ j) g refl) refl (none_refused (34 ∷ j) h (cut 34 j))
token_is_shown c w i j (bad {b = b} g f q h) = shows k.BadToken (b ∷ []) i j (b ∷ j) (gap_skips i (b ∷ j) g (no_gap_clear b j f)) refl (none_refused (b ∷ j) h (cut b j) ∙ pick_false (b == 34) _ _ (other_test b 34 q))
