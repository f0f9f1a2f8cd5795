-- The steps of a parser, as functions on the text that is not yet read.
use Rattle.std.specs.Prelude.{◌≡◌, ◌≢◌, ℕ, zero, suc, ℤ, Bool, ◌&&◌, if◌then◌else◌, ◌==◌, List, Option, Some, None, Result, Ok, Err}
use denote.Enum.Bare.{sameb}
use Rattle.rawk_keywords.specs.contracts.token.Kind.{the_type}
use Rattle.rawk_keywords.specs.declared.builtin.Builtin.{Builtin}
use Rattle.rawk_keywords.specs.declared.token.Kind.{Kind}
use Rattle.rawk_keywords.specs.declared.token.Kind.TheVariants as k
use Rattle.rawk_keywords.specs.Builtins.{builtin_named}
use Rattle.rawk_lexer.specs.Escape.{unescaped_of, unquoted}
use Rattle.rawk_lexer.specs.Lex.{kind, next, left, spelling, ere_len, ere_spelling, past_ere}
use Rattle.rawk_parsing.specs.declared.refusal.RefusalKind.{RefusalKind}
use Rattle.rawk_parsing.specs.declared.refusal.RefusalKind.TheVariants as refused
use Rattle.rawk_parsing.specs.declared.parse_error.ParseError.{ParseError}
use Rattle.rawk_parsing.specs.declared.parse_error.ParseError.TheVariants.{OutOfMemory, Here}
use Rattle.rawk_parsing.specs.declared.tree.Name.{Name}
use Rattle.rawk_parsing.specs.Constant.{constant}

-- the text that is not yet read
abbrev pub Input : Type 0
Input = List ℕ

-- what was read and the text behind it, or a refusal
abbrev pub Outcome : Type 0 → Type 0
Outcome A = Result (A × Input) ParseError

abbrev pub Parser : Type 0 → Type 0
Parser A = Input → Outcome A

abbrev pub and_then : {A B : Type 0} → Outcome A → (A → Parser B) → Outcome B
and_then (Ok p) f = f p.0 p.1
and_then (Err e) f = Err e

infixl 10 ◌>>=◌
abbrev pub ◌>>=◌ : {A B : Type 0} → Parser A → (A → Parser B) → Parser B
p >>= f = λ i. and_then (p i) f

infixl 10 ◌>>◌
abbrev pub ◌>>◌ : {A B : Type 0} → Parser A → Parser B → Parser B
p >> q = p >>= (λ _. q)

abbrev pub pure : {A : Type 0} → A → Parser A
pure a = λ i. Ok (a, i)

-- why a text is refused at a token of this kind that no rule takes
abbrev pub reason : Kind → RefusalKind
reason k.BadToken = refused.BadToken
reason k.Unterminated = refused.Unterminated
reason k.LeftOut = refused.LeftOut
reason k.Pipe = refused.LeftOut
reason k.Append = refused.LeftOut
reason _ = refused.Syntax

unfoldable pub refusal : Input → ParseError
refusal i = Here (reason (kind i)) (left i)

abbrev pub refuse : {A : Type 0} → Parser A
refuse = λ i. Err (refusal i)

-- more constructs are open than may be
abbrev pub too_deep : {A : Type 0} → Parser A
too_deep = λ i. Err (Here refused.TooDeep (left i))

-- the next token is left out of the language here
abbrev pub left_out : {A : Type 0} → Parser A
left_out = λ i. Err (Here refused.LeftOut (left i))

abbrev pub peek : Parser Kind
peek = λ i. Ok (kind i, i)

abbrev pub take_token : Parser (Unit {0})
take_token = λ i. Ok (tt, next i)

-- `==` on kinds
unfoldable pub same_kind : Kind → Kind → Bool
same_kind = sameb the_type

unfoldable pub sees : Kind → Input → Bool
sees c i = same_kind (kind i) c

unfoldable pub after : Kind → Input → Input
after c i = if sees c i then next i else i

-- takes a token of this kind, if it comes next
abbrev pub eat : Kind → Parser Bool
eat c = λ i. Ok (sees c i, after c i)

unfoldable pub expect : Kind → Parser (Unit {0})
expect c = λ i. if sees c i then Ok (tt, next i) else refuse i

-- the text after its newlines; the number bounds the turns
unfoldable pub newlines_from : ℕ → Input → Input
newlines_from zero i = i
newlines_from (suc n) i = if sees k.Newline i then newlines_from n (next i) else i

unfoldable pub newlines : Input → Input
newlines i = newlines_from (left i) i

-- ---- tokens with a value

-- the next token's bytes, with its place: how many bytes there are from it to the end of the text
unfoldable pub name_at : Input → Name
name_at i = record { left = left i; word = spelling i }

unfoldable pub name : Parser Name
name = λ i. Ok (name_at i, next i)

unfoldable pub bare_name : Parser Name
bare_name = λ i. if sees k.Name i then name i else refuse i

abbrev pub function_from : Option Builtin → Parser Builtin
function_from None = refuse
function_from (Some f) = λ i. Ok (f, next i)

-- the built-in function that the next token names
unfoldable pub function : Parser Builtin
function = λ i. function_from (builtin_named (spelling i)) i

abbrev pub number_from : Option ℤ → Parser ℤ
number_from None = λ i. Err (Here refused.BadNumber (left i))
number_from (Some n) = λ i. Ok (n, next i)

unfoldable pub number : Parser ℤ
number = λ i. number_from (constant (spelling i)) i

unfoldable pub text : Parser (List ℕ)
text = λ i. Ok (unescaped_of (unquoted (spelling i)), next i)

unfoldable pub ere : Parser (List ℕ)
ere = λ i. if ere_len i == 0 then Err (Here refused.Unterminated (left i)) else Ok (unquoted (ere_spelling i), past_ere i)

-- in the list of a print, `>` outside brackets is left out
unfoldable pub not_redirected : Bool → Parser (Unit {0})
not_redirected prints = λ i. if prints && sees k.Greater i then Err (Here refused.LeftOut (left i)) else Ok (tt, i)

-- what a function that parses ensures: the parser's outcome, unless memory fails
abbrev pub Parses : {A : Type 0} → Outcome A → Result A ParseError → Input → Type 0
Parses outcome (Ok a) new = outcome ≡ Ok (a, new)
Parses outcome (Err e) new = e ≢ OutOfMemory → outcome ≡ Err e
