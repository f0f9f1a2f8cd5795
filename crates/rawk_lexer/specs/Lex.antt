-- The token at the front of a text, as a function (POSIX awk, "Lexical Conventions"). Bytes are written by their codes: 9 is a tab,
-- 10 a newline, 32 a space, 34 a quote, 35 `#`, 40 `(`, 43 `+`, 45 `-`, 46 `.`, 47 `/`, 69 `E`, 92 a backslash, 95 `_`, 101 `e`.
use Rattle.std.specs.Prelude.{ℕ, zero, suc, ◌+◌, ◌-◌, Bool, true, false, ◌&&◌, ◌||◌, if◌then◌else◌, ◌==◌, List, [], ◌∷◌, length, take, drop, slice_index, Option, Some, None}
use Rattle.std.specs.List.{prefix_len}
use Rattle.rawk_lexer.specs.declared.ere.Behind.TheVariants.{Outside}
use Rattle.rawk_keywords.specs.declared.class.Class.{Class}
use Rattle.rawk_keywords.specs.declared.class.Class.TheVariants as class
use Rattle.rawk_keywords.specs.declared.token.Kind.{Kind}
use Rattle.rawk_keywords.specs.declared.token.Kind.TheVariants as k
use Rattle.rawk_keywords.specs.Classes.{is_in}
use Rattle.rawk_keywords.specs.Keywords.{keyword}
use Rattle.rawk_lexer.specs.Ere as ere

-- a kind, and a length in bytes
abbrev pub Token : Type 0
Token = Kind × ℕ

-- how many bytes of the class a text begins with
abbrev pub run : Class → List ℕ → ℕ
run c z = prefix_len (is_in c) z

-- ---- words

-- a name is a function's where `(` comes next
abbrev pub called : Kind → ℕ → Kind
called k.Name next = if next == 40 then k.FunctionName else k.Name
called kind next = kind

-- ---- numbers

-- the length of a point and the digits behind it
abbrev pub fraction_len : List ℕ → ℕ
fraction_len [] = 0
fraction_len (b ∷ z) = if b == 46 then 1 + run class.Digit z else 0

-- the length of a sign, if there is one
abbrev pub sign_len : List ℕ → ℕ
sign_len [] = 0
sign_len (b ∷ z) = if b == 43 || b == 45 then 1 else 0

-- an exponent's length, from its letter on; none without digits
abbrev pub power_len : ℕ → ℕ → ℕ
power_len sign digits = if digits == 0 then 0 else 1 + sign + digits

-- the length of an exponent, if one stands there whole
abbrev pub exponent_len : List ℕ → ℕ
exponent_len [] = 0
exponent_len (b ∷ z) = if b == 101 || b == 69 then power_len (sign_len z) (run class.Digit (drop (sign_len z) z)) else 0

-- the length of digits with a point or without
abbrev pub mantissa_len : List ℕ → ℕ
mantissa_len z = run class.Digit z + fraction_len (drop (run class.Digit z) z)

-- the length of a number, with its exponent
abbrev pub number_len : List ℕ → ℕ
number_len z = mantissa_len z + exponent_len (drop (mantissa_len z) z)

-- a number begins with a digit, or with a point and a digit
abbrev pub begins_number : ℕ → ℕ → Bool
begins_number b next = is_in class.Digit b || (b == 46 && is_in class.Digit next)

-- ---- strings

-- the place after the closing quote, for a text that begins at `at`; a newline that is not escaped ends it too early
abbrev pub closing : Bool → ℕ → List ℕ → Option ℕ
closing is_escaped at [] = None
closing true at (b ∷ z) = closing false (at + 1) z
closing false at (b ∷ z) = if b == 34 then Some (at + 1) else (if b == 10 then None else closing (b == 92) (at + 1) z)

-- a string, or a quote that no other closes
abbrev pub closed : Option ℕ → Token
closed None = (k.Unterminated, 1)
closed (Some end) = (k.Text, end)

-- what a text is that begins with a quote
abbrev pub quoted : List ℕ → Token
quoted z = closed (closing false 1 (drop 1 z))

-- ---- symbols

-- the symbols of one byte: { } ( ) [ ] ; , newline + - * / % ^ ! > < | ? : ~ $ =
abbrev pub singles : List (ℕ × Kind)
singles =
    (123, k.LeftBrace) ∷ (125, k.RightBrace) ∷ (40, k.LeftParen) ∷ (41, k.RightParen) ∷ (91, k.LeftBracket) ∷ (93, k.RightBracket)
    ∷ (59, k.Semicolon) ∷ (44, k.Comma) ∷ (10, k.Newline) ∷ (43, k.Plus) ∷ (45, k.Minus) ∷ (42, k.Star) ∷ (47, k.Slash)
    ∷ (37, k.Percent) ∷ (94, k.Caret) ∷ (33, k.Bang) ∷ (62, k.Greater) ∷ (60, k.Less) ∷ (124, k.Pipe) ∷ (63, k.Question)
    ∷ (58, k.Colon) ∷ (126, k.Tilde) ∷ (36, k.Dollar) ∷ (61, k.Assign) ∷ []

-- the kind of a byte by a table of symbols
abbrev pub among : List (ℕ × Kind) → ℕ → Kind
among [] b = k.BadToken
among (s ∷ ss) b = if b == s.0 then s.1 else among ss b

-- the symbol of one byte
unfoldable pub single : ℕ → Kind
single = among singles

-- the symbols of two bytes: += -= *= /= %= ^= == <= >= != ++ -- && || !~ >>
abbrev pub doubles : List (ℕ × ℕ × Kind)
doubles =
    (43, 61, k.PlusAssign) ∷ (45, 61, k.MinusAssign) ∷ (42, 61, k.StarAssign) ∷ (47, 61, k.SlashAssign) ∷ (37, 61, k.PercentAssign)
    ∷ (94, 61, k.CaretAssign) ∷ (61, 61, k.Equal) ∷ (60, 61, k.LessEqual) ∷ (62, 61, k.GreaterEqual) ∷ (33, 61, k.NotEqual)
    ∷ (43, 43, k.Increment) ∷ (45, 45, k.Decrement) ∷ (38, 38, k.And) ∷ (124, 124, k.Or) ∷ (33, 126, k.NotMatch)
    ∷ (62, 62, k.Append) ∷ []

-- the kind of two bytes by a table of symbols
abbrev pub among_pairs : List (ℕ × ℕ × Kind) → ℕ → ℕ → Option Kind
among_pairs [] b next = None
among_pairs (s ∷ ss) b next = if b == s.0 && next == s.1 then Some s.2 else among_pairs ss b next

-- the symbol of two bytes, if they are one
unfoldable pub double : ℕ → ℕ → Option Kind
double = among_pairs doubles

-- the symbol of two bytes if there is one, else that of the first byte
abbrev pub two_or_one : ℕ → Option Kind → Token
two_or_one b None = (single b, 1)
two_or_one b (Some kind) = (kind, 2)

-- a symbol of two bytes goes before one of one
unfoldable pub symbol : ℕ → ℕ → Token
symbol b next = two_or_one b (double b next)

-- ---- the token that a text begins with

-- its kind and its length
unfoldable pub token : List ℕ → Token
token [] = (k.EndOfText, 0)
token (b ∷ z) =
    if begins_number b (slice_index z 0) then (k.Number, number_len (b ∷ z))
    else (if is_in class.Word b then (called (keyword (take (run class.Word (b ∷ z)) (b ∷ z))) (slice_index (b ∷ z) (run class.Word (b ∷ z))), run class.Word (b ∷ z))
    else (if b == 34 then quoted (b ∷ z) else symbol b (slice_index z 0)))

-- ---- blanks

-- the length of the space or tab, the comment or the continued line that a text begins with
abbrev pub blank_len : List ℕ → ℕ
blank_len [] = 0
blank_len (b ∷ z) =
    if is_in class.Blank b then 1 else (if b == 35 then 1 + run class.Line z else (if b == 92 && slice_index z 0 == 10 then 2 else 0))

-- The text from its first token on. The number counts the bytes that are left of a blank.
abbrev pub skip_from : ℕ → List ℕ → List ℕ
skip_from left [] = []
skip_from (suc left) (b ∷ z) = skip_from left z
skip_from zero (b ∷ z) = let n = blank_len (b ∷ z) in if n == 0 then b ∷ z else skip_from (n - 1) z

-- the text from its first token on
unfoldable pub skip : List ℕ → List ℕ
skip = skip_from 0

-- ---- what a parser sees of a text

-- the kind of the first token
unfoldable pub kind : List ℕ → Kind
kind z = (token (skip z)).0

-- its bytes
unfoldable pub spelling : List ℕ → List ℕ
spelling z = take (token (skip z)).1 (skip z)

-- the text after it
unfoldable pub next : List ℕ → List ℕ
next z = drop (token (skip z)).1 (skip z)

-- how many bytes there are from the token on
unfoldable pub left : List ℕ → ℕ
left z = length (skip z)

-- ---- a regular expression, where a parser wants one

-- a length, or 0
abbrev pub ere_end : Option ℕ → ℕ
ere_end None = 0
ere_end (Some end) = end

-- the length of the regular expression, with both slashes, that a text begins with; 0 where none does
abbrev pub ere_at : List ℕ → ℕ
ere_at [] = 0
ere_at (b ∷ z) = if b == 47 then ere_end (ere.closing Outside 1 z) else 0

-- the length, with both slashes, of the regular expression that comes first; 0 where none does
unfoldable pub ere_len : List ℕ → ℕ
ere_len z = ere_at (skip z)

-- its bytes
unfoldable pub ere_spelling : List ℕ → List ℕ
ere_spelling z = take (ere_len z) (skip z)

-- the text after it
unfoldable pub past_ere : List ℕ → List ℕ
past_ere z = drop (ere_len z) (skip z)
