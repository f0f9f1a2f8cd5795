-- What a token is: a text's longest front that is one (POSIX awk, "Lexical Conventions"). Bytes are written by their codes: 10 is a
-- newline, 34 a quote, 35 `#`, 43 `+`, 45 `-`, 46 `.`, 69 `E`, 92 a backslash, 101 `e`.
use Rattle.std.specs.Prelude.{◌≡◌, ◌≢◌, ◌<◌, ℕ, true, false, List, [], ◌∷◌, ◌++◌, length, Some, slice_index, ◌⊎◌, ◌==◌, if◌then◌else◌}
use Rattle.rawk_keywords.specs.declared.class.Class.{Class}
use Rattle.rawk_keywords.specs.declared.class.Class.TheVariants as class
use Rattle.rawk_keywords.specs.declared.token.Kind.{Kind}
use Rattle.rawk_keywords.specs.declared.token.Kind.TheVariants as k
use Rattle.rawk_keywords.specs.Classes.{is_in}
use Rattle.rawk_keywords.specs.Keywords.{keyword}
use Rattle.rawk_lexer.specs.Lex.{called, single, double}

-- ---- blanks

-- the text from its first newline on
abbrev pub line_rest : List ℕ → List ℕ
line_rest [] = []
line_rest (b ∷ z) = if b == 10 then b ∷ z else line_rest z

-- what may stand before a token: spaces, tabs, comments and continued lines
pub data Gap : List ℕ → List ℕ → Type 0 where
  no_blank : {z : List ℕ} → Gap z z
  blank : {b : ℕ} {z j : List ℕ} → is_in class.Blank b ≡ true → Gap z j → Gap (b ∷ z) j
  comment : {z j : List ℕ} → Gap (line_rest z) j → Gap (35 ∷ z) j
  continued : {z j : List ℕ} → Gap z j → Gap (92 ∷ 10 ∷ z) j

-- ---- numbers

-- bytes of one class
pub data Run : Class → List ℕ → Type 0 where
  no_more : {c : Class} → Run c []
  more : {c : Class} {b : ℕ} {z : List ℕ} → is_in c b ≡ true → Run c z → Run c (b ∷ z)

-- digits, with a point or without; at least one digit
pub data Mantissa : List ℕ → Type 0 where
  whole : {b : ℕ} {d : List ℕ} → Run class.Digit (b ∷ d) → Mantissa (b ∷ d)
  pointed : {b : ℕ} {d e : List ℕ} → Run class.Digit (b ∷ d) → Run class.Digit e → Mantissa (b ∷ d ++ 46 ∷ e)
  fraction : {b : ℕ} {e : List ℕ} → Run class.Digit (b ∷ e) → Mantissa (46 ∷ b ∷ e)

-- a sign, or nothing
pub data Sign : List ℕ → Type 0 where
  no_sign : Sign []
  plus : Sign (43 ∷ [])
  minus : Sign (45 ∷ [])

-- nothing, or `e` or `E`, a sign perhaps, and at least one digit
pub data Exponent : List ℕ → Type 0 where
  no_exponent : Exponent []
  power : {x b : ℕ} {s d : List ℕ} → (x ≡ 101) ⊎ (x ≡ 69) → Sign s → Run class.Digit (b ∷ d) → Exponent (x ∷ s ++ b ∷ d)

-- ---- strings

-- the inside of a string, and the quote that closes it
pub data Inside : List ℕ → Type 0 where
  close : Inside (34 ∷ [])
  byte : {b : ℕ} {z : List ℕ} → b ≢ 34 → b ≢ 10 → b ≢ 92 → Inside z → Inside (b ∷ z)
  escaped : {b : ℕ} {z : List ℕ} → Inside z → Inside (92 ∷ b ∷ z)

-- ---- tokens

-- a token's bytes, with its kind; a name's may be a function's
pub data Lexeme : Kind → List ℕ → Type 0 where
  word : {b : ℕ} {z : List ℕ} → is_in class.Digit b ≡ false → Run class.Word (b ∷ z) → Lexeme (keyword (b ∷ z)) (b ∷ z)
  number : {m e : List ℕ} → Mantissa m → Exponent e → Lexeme k.Number (m ++ e)
  text : {z : List ℕ} → Inside z → Lexeme k.Text (34 ∷ z)
  one : {b : ℕ} → single b ≢ k.BadToken → Lexeme (single b) (b ∷ [])
  two : {b c : ℕ} {kind : Kind} → double b c ≡ Some kind → Lexeme kind (b ∷ c ∷ [])

-- no token longer than w begins where w stands before j
abbrev pub IsLongest : List ℕ → List ℕ → Type 0
IsLongest w j = (kind : Kind) (v u : List ℕ) → v ++ u ≡ w ++ j → length w < length v → Lexeme kind v → ⊥

-- no token begins a text
abbrev pub HasNone : List ℕ → Type 0
HasNone z = (kind : Kind) (v u : List ℕ) → v ++ u ≡ z → Lexeme kind v → ⊥

-- no blank begins a text
abbrev pub HasNoGap : List ℕ → Type 0
HasNoGap z = (j : List ℕ) → Gap z j → z ≡ j

-- Behind blanks, the text i begins with the token of this kind and these bytes, and j is the text after it.
pub data IsToken : Kind → List ℕ → List ℕ → List ℕ → Type 0 where
  longest : {kind : Kind} {w i j : List ℕ} → Gap i (w ++ j) → Lexeme kind w → IsLongest w j → IsToken (called kind (slice_index j 0)) w i j
  ending : {i : List ℕ} → Gap i [] → IsToken k.EndOfText [] i []
  unterminated : {i j : List ℕ} → Gap i (34 ∷ j) → HasNone (34 ∷ j) → IsToken k.Unterminated (34 ∷ []) i j
  bad : {b : ℕ} {i j : List ℕ} → Gap i (b ∷ j) → HasNoGap (b ∷ j) → b ≢ 34 → HasNone (b ∷ j) → IsToken k.BadToken (b ∷ []) i j
