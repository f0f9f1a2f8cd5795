-- What a Cursor shows, and what it keeps ready.
use Rattle.std.specs.Prelude.{◌≡◌, ◌≤◌, length, List, ℕ}
use Rattle.rawk_lexer.specs.declared.cursor.Cursor.TheInside.{Inside}
use Rattle.rawk_lexer.specs.Lex.{token, skip}

-- the text that is not yet read
abbrev pub text_of : Inside → List ℕ
text_of c = c.text.now

-- the next token is cut already
abbrev pub IsReady : Inside → Type 0
IsReady c = (c.ahead.now ≡ skip c.text.now) × (c.token ≡ token c.ahead.now) × (c.token.1 ≤ length c.ahead.now)
