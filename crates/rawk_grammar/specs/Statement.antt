-- Statements, as functions on the text. The code equals them; Grammar.antt says what is right.
use Rattle.std.specs.Prelude.{ℕ, zero, suc, Bool, true, false, ◌&&◌, if◌then◌else◌, ◌==◌, List, [], ◌∷◌, ◌++◌, Option, Some, None, Ok, Err}
use Rattle.rawk_keywords.specs.declared.token.Kind.{Kind}
use Rattle.rawk_keywords.specs.declared.token.Kind.TheVariants as k
use Rattle.rawk_lexer.specs.Lex.{kind, next, left}
use Rattle.rawk_parsing.specs.declared.refusal.RefusalKind.TheVariants as refused
use Rattle.rawk_parsing.specs.declared.parse_error.ParseError.TheVariants.{Here}
use Rattle.rawk_expression.specs.declared.grammar.Wanted.TheVariants as want
use Rattle.rawk_parsing.specs.declared.tree.Expr.{Expr}
use Rattle.rawk_parsing.specs.Parser.{Input, Parser, and_then, ◌>>=◌, ◌>>◌, pure, refuse, too_deep, peek, take_token, sees, eat, expect, newlines, name}
use Rattle.rawk_expression.specs.Expression.{expression, lone_place, printed}
use Rattle.rawk_grammar.specs.declared.context.Context.{Context}
use Rattle.rawk_grammar.specs.declared.tree.Act.{Act}
use Rattle.rawk_grammar.specs.declared.tree.Act.TheVariants as act
use Rattle.rawk_grammar.specs.declared.tree.Simple.{Simple}
use Rattle.rawk_grammar.specs.declared.tree.Jump.{Jump}
use Rattle.rawk_grammar.specs.declared.tree.Jump.TheVariants as jumps
use Rattle.rawk_grammar.specs.declared.tree.Condition.{Condition}
use Rattle.rawk_grammar.specs.declared.tree.Head.{Head, roll-Head}
use Rattle.rawk_grammar.specs.declared.tree.Stmt.{Stmt}
use Rattle.rawk_grammar.specs.declared.tree.Stmt.TheVariants as tree
use Rattle.rawk_grammar.specs.declared.tree.Branch.{Branch, roll-Branch}
use Rattle.rawk_grammar.specs.Context.{looped, allows}

-- ---- parts of trees

unfoldable pub branch_of : Condition → Stmt → Branch
branch_of c s = roll-Branch (record { condition = c; body = s })

unfoldable pub simple_at : ℕ → Act → Simple
simple_at place a = record { left = place; act = a }

unfoldable pub condition_at : ℕ → Expr → Condition
condition_at place e = record { left = place; test = e }

unfoldable pub head_of : Option Stmt → ℕ → Option Expr → Option Stmt → Head
head_of first place test last = roll-Head (record { first = first; left = place; test = test; last = last })

-- ---- simple statements and jumps

-- what may stand directly behind a statement
abbrev pub closes : Kind → Bool
closes k.Semicolon = true
closes k.Newline = true
closes k.RightBrace = true
closes _ = false

abbrev pub end_by : Kind → Parser (Unit {0})
end_by k.Semicolon = take_token
end_by k.Newline = take_token
end_by k.RightBrace = pure tt
end_by _ = refuse

unfoldable pub end : Parser (Unit {0})
end = peek >>= end_by

-- what stands behind a `print` with no list: the end of the statement, or of the head of a `for`
abbrev pub is_bare : Kind → Bool
is_bare k.RightParen = true
is_bare c = closes c

unfoldable pub optional_list : ℕ → Parser (List Expr)
optional_list d = λ i. if is_bare (kind i) then Ok ([], i) else printed d i

-- a name or an element
unfoldable pub deleted : ℕ → Parser Act
deleted d = λ i. if sees k.Name i then and_then (lone_place d i) (λ p. pure (act.Delete p)) else refuse i

abbrev pub act_by : ℕ → Kind → Parser Act
act_by d k.Print = take_token >> (do es ← optional_list d; pure (act.Print es))
act_by d k.Printf = take_token >> (do es ← printed d; pure (act.Printf es))
act_by d k.Delete = take_token >> deleted d
act_by d _ = do e ← expression d want.Whole; pure (act.Evaluate e)

unfoldable pub simple : ℕ → Parser Simple
simple d = λ i. and_then (act_by d (kind i) i) (λ a. pure (simple_at (left i) a))

unfoldable pub ended : ℕ → Parser Stmt
ended d = do s ← simple d; end; pure (tree.Simple s)

-- the value of a jump, which may be missing
unfoldable pub optional_value : ℕ → Parser (Option Expr)
optional_value d = λ i. if closes (kind i) then Ok (None, i) else and_then (expression d want.Whole i) (λ e. pure (Some e))

abbrev pub jump_by : ℕ → Kind → Parser Jump
jump_by d k.Next = take_token >> pure jumps.Next
jump_by d k.Break = take_token >> pure jumps.Break
jump_by d k.Continue = take_token >> pure jumps.Continue
jump_by d k.Exit = take_token >> (do e ← optional_value d; pure (jumps.Exit e))
jump_by d k.Return = take_token >> (do e ← optional_value d; pure (jumps.Return e))
jump_by d _ = refuse

unfoldable pub jump : ℕ → Parser Stmt
jump d = λ i. and_then (jump_by d (kind i) i) (λ j. end >> pure (tree.Jump (left i) j))

-- a jump that may not stand here is misplaced
unfoldable pub placed_jump : ℕ → Context → Parser Stmt
placed_jump d c = λ i. if allows c (kind i) then jump d i else Err (Here refused.Misplaced (left i))

-- ---- heads, behind their keywords

-- an expression in parentheses
unfoldable pub enclosed : ℕ → Parser Condition
enclosed d = expect k.LeftParen >> (λ i. and_then (expression d want.Whole i) (λ e. expect k.RightParen >> pure (condition_at (left i) e)))

unfoldable pub condition : ℕ → Parser Condition
condition d = do c ← enclosed d; (λ i. Ok (c, newlines i))

-- a part of the head of a `for`, which is missing where the token behind it comes next
unfoldable pub optional_simple : Kind → ℕ → Parser (Option Stmt)
optional_simple stop d = λ i. if sees stop i then Ok (None, i) else and_then (simple d i) (λ s. pure (Some (tree.Simple s)))

unfoldable pub optional_test : ℕ → Parser (Option Expr)
optional_test d = λ i. if sees k.Semicolon i then Ok (None, i) else and_then (expression d want.Whole i) (λ e. pure (Some e))

-- a semicolon and the newlines behind it
unfoldable pub semicolon : Parser (Unit {0})
semicolon = expect k.Semicolon >> (λ i. Ok (tt, newlines i))

-- the last part of a head, and the parenthesis behind it
abbrev pub head_end : ℕ → Option Stmt → ℕ → Option Expr → Parser Head
head_end d first place test = do
  last ← optional_simple k.RightParen d
  expect k.RightParen
  pure (head_of first place test last)

-- a head behind its first part and the semicolon
abbrev pub head_rest : ℕ → Option Stmt → Parser Head
head_rest d first = λ i. and_then (optional_test d i) (λ test. semicolon >> head_end d first (left i) test)

-- the head of a `for` that counts, behind its parenthesis
unfoldable pub head : ℕ → Parser Head
head d = do
  first ← optional_simple k.Semicolon d
  semicolon
  head_rest d first

-- a name, `in`, a name and a closing parenthesis come next
unfoldable pub sees_member : Input → Bool
sees_member i = sees k.Name i && (sees k.In (next i) && (sees k.Name (next (next i)) && sees k.RightParen (next (next (next i)))))

-- an `else` behind newlines or none, with the newlines behind it
unfoldable pub other : Parser Bool
other = λ i. if sees k.Else (newlines i) then Ok (true, newlines (next (newlines i))) else Ok (false, i)

-- the condition of a `do`, behind its body and the newlines there
abbrev pub do_end : ℕ → Stmt → Parser Stmt
do_end d body = expect k.While >> (do test ← enclosed d; end; pure (tree.Do body test))

-- ---- rules that open a construct; `deeper` parses the statements in it

module _ (d : ℕ) (deeper : Context → Parser Stmt) (c : Context) where
  -- statements up to a closing brace, and that brace; the number bounds the turns
  unfoldable pub block_from : ℕ → List Stmt → Parser (List Stmt)
  block_from zero found = refuse
  block_from (suc n) found = λ i.
      if sees k.RightBrace (newlines i) then Ok (found, next (newlines i))
      else and_then (deeper c (newlines i)) (λ s. block_from n (found ++ s ∷ []))

  unfoldable pub block : Parser (List Stmt)
  block = λ i. block_from (left i) [] i

  -- a branch, behind its `if`
  unfoldable pub branch : Parser Branch
  branch = do test ← condition d; body ← deeper c; pure (branch_of test body)

  -- the statement behind branches and the last `else`
  abbrev pub chain_end : List Branch → Parser Stmt
  chain_end found = do s ← deeper c; pure (tree.If found (Some s))

  -- branches, behind the first `if`; the number bounds the turns
  unfoldable pub chain_from : ℕ → List Branch → Parser Stmt
  chain_from zero found = refuse
  chain_from (suc n) found = do
    b ← branch
    has ← other
    if has then (do again ← eat k.If; if again then chain_from n (found ++ b ∷ []) else chain_end (found ++ b ∷ [])) else pure (tree.If (found ++ b ∷ []) None)

  unfoldable pub chain : Parser Stmt
  chain = λ i. chain_from (left i) [] i

  unfoldable pub while_loop : Parser Stmt
  while_loop = do test ← condition d; body ← deeper (looped c); pure (tree.While test body)

  unfoldable pub do_loop : Parser Stmt
  do_loop = λ i. and_then (deeper (looped c) (newlines i)) (λ body j. do_end d body (newlines j))

  -- over an array, behind the parenthesis
  unfoldable pub member_loop : ℕ → Parser Stmt
  member_loop place = do
    variable ← name
    take_token
    array ← name
    take_token
    (λ i. and_then (deeper (looped c) (newlines i)) (λ body. pure (tree.ForIn place variable array body)))

  unfoldable pub count_loop : Parser Stmt
  count_loop = do
    parts ← head d
    (λ i. and_then (deeper (looped c) (newlines i)) (λ body. pure (tree.For parts body)))

  unfoldable pub for_loop : ℕ → Parser Stmt
  for_loop place = expect k.LeftParen >> (λ i. if sees_member i then member_loop place i else count_loop i)

  -- behind the token that opens the construct
  abbrev pub compound_by : ℕ → Kind → Parser Stmt
  compound_by place k.LeftBrace = do ss ← block; pure (tree.Block ss)
  compound_by place k.If = chain
  compound_by place k.While = while_loop
  compound_by place k.Do = do_loop
  compound_by place _ = for_loop place

  unfoldable pub compound : Parser Stmt
  compound = λ i. if d == 0 then too_deep (next i) else compound_by (left i) (kind i) (next i)

  abbrev pub one_by : ℕ → Kind → Parser Stmt
  one_by own k.Semicolon = take_token >> pure tree.Empty
  one_by own k.LeftBrace = compound
  one_by own k.If = compound
  one_by own k.While = compound
  one_by own k.Do = compound
  one_by own k.For = compound
  one_by own k.Next = placed_jump own c
  one_by own k.Break = placed_jump own c
  one_by own k.Continue = placed_jump own c
  one_by own k.Exit = placed_jump own c
  one_by own k.Return = placed_jump own c
  one_by own _ = ended own

  unfoldable pub one : ℕ → Parser Stmt
  one own = peek >>= one_by own

-- a statement, with fewer than `depth` constructs open
unfoldable pub statement : ℕ → Context → Parser Stmt
statement zero c = too_deep
statement (suc d) c = one d (statement d) c (suc d)

-- statements in braces, of which `room` constructs may be opened
unfoldable pub action : ℕ → Context → Parser (List Stmt)
action room c = expect k.LeftBrace >> (if room == 0 then too_deep else block room (statement room) c)
