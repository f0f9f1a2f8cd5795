-- The grammar of items and programs (POSIX awk, "Grammar", "Patterns" and "User-Defined Functions").
use Rattle.std.specs.Prelude.{◌≡◌, ℕ, true, false, ◌⊎◌, List, [], ◌∷◌, length}
use Rattle.rawk_keywords.specs.declared.token.Kind.TheVariants as k
use Rattle.rawk_lexer.specs.Lex.{kind, left}
use Rattle.rawk_parsing.specs.declared.tree.Expr.{Expr}
use Rattle.rawk_parsing.specs.declared.tree.Name.{Name}
use Rattle.rawk_parsing.specs.Parser.{Input, name_at}
use Rattle.rawk_parsing.specs.Tokens.{Spells, Newlines}
use Rattle.rawk_expression.specs.Grammar.{Derives, Whole}
use Rattle.rawk_grammar.specs.declared.context.Owner.TheVariants as owner
use Rattle.rawk_grammar.specs.declared.tree.Pattern.{Pattern}
use Rattle.rawk_grammar.specs.declared.tree.Pattern.TheVariants as guard
use Rattle.rawk_grammar.specs.declared.tree.Action.TheVariants as does
use Rattle.rawk_grammar.specs.declared.tree.Item.{Item}
use Rattle.rawk_grammar.specs.declared.tree.Item.TheVariants as item
use Rattle.rawk_grammar.specs.declared.tree.Stmt.{Stmt}
use Rattle.rawk_grammar.specs.Context.{of}
use Rattle.rawk_grammar.specs.Items.{ends_pattern}
use Rattle.rawk_grammar.specs.Grammar.{States, Action}

-- a pattern, with at most d constructs open at once, here and below
pub data Patterns : ℕ → Pattern → Input → Input → Type 0 where
  when : {d : ℕ} {e : Expr} {i j : Input} → Derives d (Whole false e) i j → Patterns d (guard.When (left i) e) i j
  range : {d : ℕ} {e f : Expr} {w : List ℕ} {i j l m n : Input}
      → Derives d (Whole false e) i j → Spells k.Comma w j l → Newlines l m → Derives d (Whole false f) m n → Patterns d (guard.Range (left i) e f) i n

-- names with commas between them, behind which newlines are free
pub data Names : List Name → Input → Input → Type 0 where
  one : {w : List ℕ} {i j : Input} → Spells k.Name w i j → Names (name_at i ∷ []) i j
  several : {ns : List Name} {v w : List ℕ} {i j l m n : Input}
      → Spells k.Name v i j → Spells k.Comma w j l → Newlines l m → Names ns m n → Names (name_at i ∷ ns) i n

-- names in parentheses
pub data Parameters : List Name → Input → Input → Type 0 where
  no_parameter : {v w : List ℕ} {i j l : Input} → Spells k.LeftParen v i j → Spells k.RightParen w j l → Parameters [] i l
  parameters : {ns : List Name} {v w : List ℕ} {i j l m : Input}
      → Spells k.LeftParen v i j → Names ns j l → Spells k.RightParen w l m → Parameters ns i m

-- an item of a program; behind a pattern with no action a semicolon, a newline or the end of the text comes
pub data Parts : ℕ → Item → Input → Input → Type 0 where
  begin : {d : ℕ} {ss : List Stmt} {w : List ℕ} {i j l : Input}
      → Spells k.BeginKeyword w i j → States (of owner.BeginOrEnd) d (Action ss) j l → Parts d (item.Begin ss) i l
  ending : {d : ℕ} {ss : List Stmt} {w : List ℕ} {i j l : Input}
      → Spells k.EndKeyword w i j → States (of owner.BeginOrEnd) d (Action ss) j l → Parts d (item.End ss) i l
  always : {d : ℕ} {ss : List Stmt} {i j : Input} → States (of owner.Rule) d (Action ss) i j → Parts d (item.Always (left i) ss) i j
  rule : {d : ℕ} {p : Pattern} {ss : List Stmt} {i j l : Input}
      → Patterns d p i j → States (of owner.Rule) d (Action ss) j l → Parts d (item.Rule p (does.Given ss)) i l
  bare_rule : {d : ℕ} {p : Pattern} {i j : Input} → Patterns d p i j → ends_pattern (kind j) ≡ true → Parts d (item.Rule p (does.Missing (length j))) i j
  function : {d : ℕ} {ns : List Name} {ss : List Stmt} {v w : List ℕ} {i j l m n o : Input}
      → Spells k.Function v i j → Spells k.Name w j l ⊎ Spells k.FunctionName w j l → Parameters ns l m → Newlines m n
      → States (of owner.Function) d (Action ss) n o → Parts d (item.Function (left i) (name_at j) ns ss) i o

-- any number of semicolons and newlines
pub data Separates : Input → Input → Type 0 where
  nothing : {i : Input} → Separates i i
  a_semicolon : {w : List ℕ} {i j l : Input} → Spells k.Semicolon w i j → Separates j l → Separates i l
  a_newline : {w : List ℕ} {i j l : Input} → Spells k.Newline w i j → Separates j l → Separates i l

-- items up to the end of the text
pub data Texts : ℕ → List Item → Input → Type 0 where
  finish : {d : ℕ} {i j : Input} → Separates i j → kind j ≡ k.EndOfText → Texts d [] i
  part : {d : ℕ} {x : Item} {xs : List Item} {i j l : Input} → Separates i j → Parts d x j l → Texts d xs l → Texts d (x ∷ xs) i
