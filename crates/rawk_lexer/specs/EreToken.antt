-- What a regular expression between slashes is (POSIX awk, "Lexical Conventions", the token ERE; its bracket expressions are those of
-- XBD 9.3.5). Bytes are written by their codes: 10 is a newline, 47 `/`, 58 `:`, 91 `[`, 92 a backslash, 93 `]`, 94 `^`.
use Rattle.std.specs.Prelude.{◌≢◌, ℕ, List, [], ◌∷◌, ◌++◌, slice_index, ◌⊎◌}
use Rattle.rawk_lexer.specs.Token.{Gap}

-- where in a regular expression a byte stands: outside bracket expressions, first in one, further in one, in a class of one
pub data Where : Type 0 where
  Outside : Where
  First : Where
  Items : Where
  Class : Where

-- what goes on from there up to the slash that ends the regular expression, that slash with it
pub data Goes : Where → List ℕ → Type 0 where
  ends : Goes Outside (47 ∷ [])
  byte : {b : ℕ} {z : List ℕ} → b ≢ 10 → b ≢ 47 → b ≢ 91 → b ≢ 92 → Goes Outside z → Goes Outside (b ∷ z)
  escaped : {b : ℕ} {z : List ℕ} → b ≢ 10 → Goes Outside z → Goes Outside (92 ∷ b ∷ z)
  bracket : {b : ℕ} {z : List ℕ} → b ≢ 94 → Goes First (b ∷ z) → Goes Outside (91 ∷ b ∷ z)
  negated : {z : List ℕ} → Goes First z → Goes Outside (91 ∷ 94 ∷ z)
  literal : {z : List ℕ} → Goes Items z → Goes First (93 ∷ z)
  items : {b : ℕ} {z : List ℕ} → b ≢ 93 → Goes Items (b ∷ z) → Goes First (b ∷ z)
  closes : {z : List ℕ} → Goes Outside z → Goes Items (93 ∷ z)
  item : {b : ℕ} {z : List ℕ} → b ≢ 10 → b ≢ 91 → b ≢ 92 → b ≢ 93 → Goes Items z → Goes Items (b ∷ z)
  escaped_item : {b : ℕ} {z : List ℕ} → b ≢ 10 → Goes Items z → Goes Items (92 ∷ b ∷ z)
  open_item : {b : ℕ} {z : List ℕ} → b ≢ 58 → Goes Items (b ∷ z) → Goes Items (91 ∷ b ∷ z)
  class : {z : List ℕ} → Goes Class z → Goes Items (91 ∷ 58 ∷ z)
  class_ends : {z : List ℕ} → Goes Items z → Goes Class (58 ∷ 93 ∷ z)
  class_byte : {b : ℕ} {z : List ℕ} → b ≢ 10 → (b ≢ 58) ⊎ (slice_index z 0 ≢ 93) → Goes Class z → Goes Class (b ∷ z)

-- Behind blanks, the text i begins with a slash and the regular expression w, and j is the text after it.
pub data IsEre : List ℕ → List ℕ → List ℕ → Type 0 where
  between : {z i j : List ℕ} → Gap i (47 ∷ z ++ j) → Goes Outside z → IsEre (47 ∷ z) i j
