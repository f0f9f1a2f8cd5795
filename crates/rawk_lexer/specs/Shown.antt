-- What a Cursor shows of a text.
use Rattle.std.specs.Prelude.{◌≡◌, ◌≢◌, ℕ, List}
use Rattle.rawk_keywords.specs.declared.token.Kind.{Kind}
use Rattle.rawk_lexer.specs.Lex.{kind, spelling, next, ere_len, ere_spelling, past_ere}

-- of the text i, a token of kind c with the bytes w, and behind it the text j
abbrev pub Shows : Kind → List ℕ → List ℕ → List ℕ → Type 0
Shows c w i j = (c ≡ kind i) × (w ≡ spelling i) × (j ≡ next i)

-- of the text i, a regular expression with the bytes w, both slashes with them, and behind it the text j
abbrev pub ShowsEre : List ℕ → List ℕ → List ℕ → Type 0
ShowsEre w i j = (ere_len i ≢ 0) × (w ≡ ere_spelling i) × (j ≡ past_ere i)
