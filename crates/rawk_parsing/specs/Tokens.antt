-- What a token of a text is.
use Rattle.std.specs.Prelude.{◌≡◌, ◌≢◌, ℕ, List, [], ◌∷◌, ◌⊎◌}
use Rattle.rawk_keywords.specs.declared.token.Kind.{Kind}
use Rattle.rawk_keywords.specs.declared.token.Kind.TheVariants as k
use Rattle.rawk_lexer.specs.Escape.{unquoted}
use Rattle.rawk_lexer.specs.Lex.{kind, next, spelling, ere_len, ere_spelling, past_ere}
use Rattle.rawk_parsing.specs.declared.tree.Name.{Name}
use Rattle.rawk_parsing.specs.Parser.{Input, name_at}

-- Behind blanks, the text i begins with the token of this kind and spelling, and j is the text after it.
pub record Spells (c : Kind) (word : List ℕ) (i j : Input) : Type 0 where
  pub is_kind : kind i ≡ c
  pub is_word : spelling i ≡ word
  pub is_next : next i ≡ j

-- the same of a regular expression, whose bytes between the slashes are the word; a slash, with `=` or without, begins it
pub record SpellsEre (word : List ℕ) (i j : Input) : Type 0 where
  pub begins : (kind i ≡ k.Slash) ⊎ (kind i ≡ k.SlashAssign)
  pub ends : ere_len i ≢ 0
  pub is_word : unquoted (ere_spelling i) ≡ word
  pub is_next : past_ere i ≡ j

-- any number of newlines
pub data Newlines : Input → Input → Type 0 where
  none : {i : Input} → Newlines i i
  more : {w : List ℕ} {i j l : Input} → Spells k.Newline w i j → Newlines j l → Newlines i l

-- any number of times `in` and a name
pub data Arrays : List Name → Input → Input → Type 0 where
  no_array : {i : Input} → Arrays [] i i
  array : {ns : List Name} {v w : List ℕ} {i j l m : Input}
      → Spells k.In v i j → Spells k.Name w j l → Arrays ns l m → Arrays (name_at j ∷ ns) i m
