-- The grammar of statements (POSIX awk, "Grammar" and "Actions").
use Rattle.std.specs.Prelude.{◌≡◌, ◌≢◌, ℕ, suc, true, false, List, [], ◌∷◌, Option, Some, None}
use Rattle.rawk_keywords.specs.declared.token.Kind.TheVariants as k
use Rattle.rawk_lexer.specs.Lex.{kind, left}
use Rattle.rawk_parsing.specs.declared.tree.Expr.{Expr}
use Rattle.rawk_parsing.specs.declared.tree.Place.{Place}
use Rattle.rawk_parsing.specs.Parser.{Input, name_at}
use Rattle.rawk_parsing.specs.Tokens.{Spells, Newlines}
use Rattle.rawk_expression.specs.Grammar.{Derives, Whole, APlace, PrintList}
use Rattle.rawk_grammar.specs.declared.context.Context.{Context}
use Rattle.rawk_grammar.specs.declared.tree.Act.{Act}
use Rattle.rawk_grammar.specs.declared.tree.Act.TheVariants as act
use Rattle.rawk_grammar.specs.declared.tree.Jump.{Jump}
use Rattle.rawk_grammar.specs.declared.tree.Jump.TheVariants as jumps
use Rattle.rawk_grammar.specs.declared.tree.Condition.{Condition}
use Rattle.rawk_grammar.specs.declared.tree.Head.{Head}
use Rattle.rawk_grammar.specs.declared.tree.Branch.{Branch}
use Rattle.rawk_grammar.specs.declared.tree.Stmt.{Stmt}
use Rattle.rawk_grammar.specs.declared.tree.Stmt.TheVariants as tree
use Rattle.rawk_grammar.specs.Context.{looped, has_record, is_function}
use Rattle.rawk_grammar.specs.Statement.{branch_of, simple_at, condition_at, head_of}

-- a semicolon or a newline, or nothing where a closing brace follows
pub data Ends : Input → Input → Type 0 where
  semicolon : {w : List ℕ} {i j : Input} → Spells k.Semicolon w i j → Ends i j
  newline : {w : List ℕ} {i j : Input} → Spells k.Newline w i j → Ends i j
  brace : {i : Input} → kind i ≡ k.RightBrace → Ends i i

-- A simple statement, without its end. Up to d constructs may be open at once, here and below.
pub data Acts : ℕ → Act → Input → Input → Type 0 where
  evaluate : {d : ℕ} {e : Expr} {i j : Input} → Derives d (Whole false e) i j → Acts d (act.Evaluate e) i j
  print_record : {d : ℕ} {w : List ℕ} {i j : Input} → Spells k.Print w i j → Acts d (act.Print []) i j
  print : {d : ℕ} {es : List Expr} {w : List ℕ} {i j l : Input} → Spells k.Print w i j → Derives d (PrintList es) j l → Acts d (act.Print es) i l
  printf : {d : ℕ} {es : List Expr} {w : List ℕ} {i j l : Input} → Spells k.Printf w i j → Derives d (PrintList es) j l → Acts d (act.Printf es) i l
  -- a name or an element
  delete : {d : ℕ} {x : Place} {w : List ℕ} {i j l : Input}
      → Spells k.Delete w i j → kind j ≡ k.Name → Derives d (APlace x) j l → Acts d (act.Delete x) i l

-- A jump, without its end, where it may stand.
pub data Jumps : Context → ℕ → Jump → Input → Input → Type 0 where
  next_record : {c : Context} {d : ℕ} {w : List ℕ} {i j : Input} → has_record c.owner ≡ true → Spells k.Next w i j → Jumps c d jumps.Next i j
  break_loop : {c : Context} {d : ℕ} {w : List ℕ} {i j : Input} → c.in_loop ≡ true → Spells k.Break w i j → Jumps c d jumps.Break i j
  continue_loop : {c : Context} {d : ℕ} {w : List ℕ} {i j : Input} → c.in_loop ≡ true → Spells k.Continue w i j → Jumps c d jumps.Continue i j
  exit : {c : Context} {d : ℕ} {w : List ℕ} {i j : Input} → Spells k.Exit w i j → Jumps c d (jumps.Exit None) i j
  exit_with : {c : Context} {d : ℕ} {e : Expr} {w : List ℕ} {i j l : Input}
      → Spells k.Exit w i j → Derives d (Whole false e) j l → Jumps c d (jumps.Exit (Some e)) i l
  return : {c : Context} {d : ℕ} {w : List ℕ} {i j : Input} → is_function c.owner ≡ true → Spells k.Return w i j → Jumps c d (jumps.Return None) i j
  return_with : {c : Context} {d : ℕ} {e : Expr} {w : List ℕ} {i j l : Input}
      → is_function c.owner ≡ true → Spells k.Return w i j → Derives d (Whole false e) j l → Jumps c d (jumps.Return (Some e)) i l

-- an expression in parentheses, which are the construct that its rule opens
pub data Encloses : ℕ → Condition → Input → Input → Type 0 where
  parentheses : {d : ℕ} {e : Expr} {v w : List ℕ} {i j l m : Input}
      → Spells k.LeftParen v i j → Derives d (Whole false e) j l → Spells k.RightParen w l m → Encloses d (condition_at (left j) e) i m

-- a part of the head of a `for`, or nothing
pub data Simply : ℕ → Option Stmt → Input → Input → Type 0 where
  no_part : {d : ℕ} {i : Input} → Simply d None i i
  part : {d : ℕ} {a : Act} {i j : Input} → Acts d a i j → Simply d (Some (tree.Simple (simple_at (left i) a))) i j

pub data Tests : ℕ → Option Expr → Input → Input → Type 0 where
  no_test : {d : ℕ} {i : Input} → Tests d None i i
  test : {d : ℕ} {e : Expr} {i j : Input} → Derives d (Whole false e) i j → Tests d (Some e) i j

-- the head of a `for` that counts, behind its parenthesis; behind each semicolon newlines are free
pub data Heads : ℕ → Head → Input → Input → Type 0 where
  head : {d : ℕ} {first last : Option Stmt} {e : Option Expr} {u v w : List ℕ} {i j l m n o p q r : Input}
      → Simply d first i j → Spells k.Semicolon u j l → Newlines l m → Tests d e m n → Spells k.Semicolon v n o → Newlines o p
      → Simply d last p q → Spells k.RightParen w q r → Heads d (head_of first (left m) e last) i r

-- no `else` comes next, behind newlines or none
abbrev pub NoElse : Input → Type 0
NoElse i = (j : Input) → Newlines i j → kind j ≢ k.Else

-- what a rule reads
pub data Phrase : Type 0 where
  One : Stmt → Phrase
  Many : List Stmt → Phrase
  Action : List Stmt → Phrase
  -- behind an `if`
  Chain : List Branch → Option Stmt → Phrase

-- By the rules the text i, up to its rest j, is the phrase where it stands, with at most d constructs open at once.
pub data States : Context → ℕ → Phrase → Input → Input → Type 0 where
  empty : {c : Context} {d : ℕ} {w : List ℕ} {i j : Input} → Spells k.Semicolon w i j → States c d (One tree.Empty) i j
  simple : {c : Context} {d : ℕ} {a : Act} {i j l : Input} → Acts d a i j → Ends j l → States c d (One (tree.Simple (simple_at (left i) a))) i l
  jump : {c : Context} {d : ℕ} {x : Jump} {i j l : Input} → Jumps c d x i j → Ends j l → States c d (One (tree.Jump (left i) x)) i l
  -- statements, between which newlines are free
  none : {c : Context} {d : ℕ} {i j : Input} → Newlines i j → States c d (Many []) i j
  more : {c : Context} {d : ℕ} {s : Stmt} {ss : List Stmt} {i j l m : Input}
      → Newlines i j → States c d (One s) j l → States c d (Many ss) l m → States c d (Many (s ∷ ss)) i m
  action : {c : Context} {d : ℕ} {ss : List Stmt} {v w : List ℕ} {i j l m : Input}
      → Spells k.LeftBrace v i j → States c d (Many ss) j l → Spells k.RightBrace w l m → States c (suc d) (Action ss) i m
  block : {c : Context} {d : ℕ} {ss : List Stmt} {i j : Input} → States c d (Action ss) i j → States c d (One (tree.Block ss)) i j
  -- An `else` belongs to the nearest `if` without one. An `if` behind it goes on with the branches, and is no construct in the `else`.
  choice : {c : Context} {d : ℕ} {bs : List Branch} {r : Option Stmt} {w : List ℕ} {i j l : Input}
      → Spells k.If w i j → States c d (Chain bs r) j l → States c d (One (tree.If bs r)) i l
  last : {c : Context} {d : ℕ} {t : Condition} {s : Stmt} {i j l m : Input}
      → Encloses d t i j → Newlines j l → States c d (One s) l m → NoElse m → States c (suc d) (Chain (branch_of t s ∷ []) None) i m
  otherwise : {c : Context} {d : ℕ} {t : Condition} {s r : Stmt} {w : List ℕ} {i j l m n o p q : Input}
      → Encloses d t i j → Newlines j l → States c d (One s) l m → Newlines m n → Spells k.Else w n o → Newlines o p → kind p ≢ k.If
      → States c d (One r) p q → States c (suc d) (Chain (branch_of t s ∷ []) (Some r)) i q
  else_if : {c : Context} {d : ℕ} {t : Condition} {s : Stmt} {bs : List Branch} {r : Option Stmt} {v w : List ℕ} {i j l m n o p q z : Input}
      → Encloses d t i j → Newlines j l → States c d (One s) l m → Newlines m n → Spells k.Else v n o → Newlines o p → Spells k.If w p q
      → States c (suc d) (Chain bs r) q z → States c (suc d) (Chain (branch_of t s ∷ bs) r) i z
  -- loops
  while_loop : {c : Context} {d : ℕ} {t : Condition} {s : Stmt} {w : List ℕ} {i j l m n : Input}
      → Spells k.While w i j → Encloses d t j l → Newlines l m → States (looped c) d (One s) m n → States c (suc d) (One (tree.While t s)) i n
  do_loop : {c : Context} {d : ℕ} {t : Condition} {s : Stmt} {v w : List ℕ} {i j l m n o p q : Input}
      → Spells k.Do v i j → Newlines j l → States (looped c) d (One s) l m → Newlines m n → Spells k.While w n o → Encloses d t o p → Ends p q
      → States c (suc d) (One (tree.Do s t)) i q
  count_loop : {c : Context} {d : ℕ} {h : Head} {s : Stmt} {v w : List ℕ} {i j l m n o : Input}
      → Spells k.For v i j → Spells k.LeftParen w j l → Heads d h l m → Newlines m n → States (looped c) d (One s) n o → States c (suc d) (One (tree.For h s)) i o
  member_loop : {c : Context} {d : ℕ} {s : Stmt} {t u v w x y : List ℕ} {i j l m n o p q r : Input}
      → Spells k.For t i j → Spells k.LeftParen u j l → Spells k.Name v l m → Spells k.In w m n → Spells k.Name x n o → Spells k.RightParen y o p → Newlines p q
      → States (looped c) d (One s) q r → States c (suc d) (One (tree.ForIn (left i) (name_at l) (name_at n) s)) i r
