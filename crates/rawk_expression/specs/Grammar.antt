-- The grammar of expressions (POSIX awk, "Grammar" and "Expressions in awk").
use Rattle.std.specs.Prelude.{◌≡◌, ◌≢◌, ℕ, suc, ℤ, Bool, true, false, List, [], ◌∷◌, Some, None}
use Rattle.rawk_keywords.specs.declared.builtin.Builtin.{Builtin}
use Rattle.rawk_keywords.specs.declared.builtin.Builtin.TheVariants as fun
use Rattle.rawk_keywords.specs.declared.token.Kind.{Kind}
use Rattle.rawk_keywords.specs.declared.token.Kind.TheVariants as k
use Rattle.rawk_keywords.specs.Builtins.{builtin_named}
use Rattle.rawk_lexer.specs.Escape.{unescaped_of, unquoted}
use Rattle.rawk_lexer.specs.Lex.{kind, left}
use Rattle.rawk_parsing.specs.declared.tree.Operator.{Operator}
use Rattle.rawk_parsing.specs.declared.tree.Operator.TheVariants as op
use Rattle.rawk_words.specs.declared.operator.Sign.{Sign}
use Rattle.rawk_parsing.specs.declared.tree.Change.{Change}
use Rattle.rawk_parsing.specs.declared.tree.Assignment.{Assignment}
use Rattle.rawk_parsing.specs.declared.tree.Name.{Name}
use Rattle.rawk_parsing.specs.declared.tree.Expr.{Expr}
use Rattle.rawk_parsing.specs.declared.tree.Expr.TheVariants as tree
use Rattle.rawk_parsing.specs.declared.tree.Link.{Link}
use Rattle.rawk_parsing.specs.declared.tree.Place.{Place}
use Rattle.rawk_parsing.specs.declared.tree.Place.TheVariants as spot
use Rattle.rawk_parsing.specs.Parser.{Input, name_at}
use Rattle.rawk_parsing.specs.Constant.{constant}
use Rattle.rawk_parsing.specs.Tables.{operator, binds, begins_joined, is_greater, is_alone, mark, logic, sign, change, begins_place, assignment, fits}
use Rattle.rawk_expression.specs.Expression.{link, chained, contained}
use Rattle.rawk_parsing.specs.Tokens.{Spells, SpellsEre, Newlines, Arrays}

-- Up to j the text i is an operator of the level. That of a concatenation is empty, and stands before what begins no sign and no
-- slash. In the list of a print, where the first is true, no operator is `>`.
pub data Joins : Bool → ℕ → Operator → Input → Input → Type 0 where
  symbol : {p : Bool} {c : Kind} {w : List ℕ} {o : Operator} {i j : Input}
      → Spells c w i j → operator c ≡ Some o → (p ≡ true → is_greater o ≡ false) → Joins p (binds o) o i j
  beside : {p : Bool} {c : Kind} {w : List ℕ} {i j : Input} → Spells c w i j → begins_joined c ≡ true → Joins p 3 op.Concat i i

-- What a rule reads. Where its first is a truth value, that says whether it stands in the list of a print, outside brackets.
-- Levels: 0 is no operator between two operands, 1 to 5 are those of `binds`. Tests: 0 an assignment, or an operand with `in`; 1 `&&`; 2 `||`; the second
-- truth value says whether the test ends in an assignment.
pub data Phrase : Type 0 where
  Whole : Bool → Expr → Phrase
  Test : Bool → Bool → ℕ → Expr → Phrase
  Further : Bool → Bool → ℕ → List Expr → Phrase
  Member : Bool → Expr → Phrase
  Level : Bool → ℕ → Expr → Phrase
  Links : Bool → ℕ → List Link → Phrase
  Unary : Expr → Phrase
  Power : Expr → Phrase
  Postfix : Expr → Phrase
  Dollar : Expr → Phrase
  Primary : Expr → Phrase
  APlace : Place → Phrase
  Arguments : List Expr → Phrase
  Listed : Bool → List Expr → Phrase
  PrintList : List Expr → Phrase

-- By the rules the text i, up to its rest j, is the phrase, with at most d constructs open at once.
pub data Derives : ℕ → Phrase → Input → Input → Type 0 where
  -- a whole expression
  test : {d : ℕ} {p b : Bool} {e : Expr} {i j : Input} → Derives d (Test p b 2 e) i j → Derives d (Whole p e) i j
  choice : {d : ℕ} {p : Bool} {e f g : Expr} {v w : List ℕ} {i j l m n o : Input}
      → Derives (suc d) (Test p false 2 e) i j → Spells k.Question v j l → Derives d (Whole p f) l m → Spells k.Colon w m n → Derives d (Whole p g) n o
      → Derives (suc d) (Whole p (tree.Choice e f g)) i o
  -- `&&` and `||`, behind which newlines are free; an assignment is the last operand
  lone : {d n : ℕ} {p b : Bool} {e : Expr} {i j : Input} → Derives d (Test p b n e) i j → Derives d (Test p b (suc n) e) i j
  joint : {d n : ℕ} {p b : Bool} {e f : Expr} {es : List Expr} {i j l : Input}
      → Derives d (Test p false n e) i j → Derives d (Further p b n (f ∷ es)) j l → Derives d (Test p b (suc n) (tree.Logic (logic (suc n)) (e ∷ f ∷ es))) i l
  last : {d n : ℕ} {p b : Bool} {e : Expr} {w : List ℕ} {i j l m : Input}
      → Spells (mark (suc n)) w i j → Newlines j l → Derives d (Test p b n e) l m → Derives d (Further p b n (e ∷ [])) i m
  further : {d n : ℕ} {p b : Bool} {e : Expr} {es : List Expr} {w : List ℕ} {i j l m o : Input}
      → Spells (mark (suc n)) w i j → Newlines j l → Derives d (Test p false n e) l m → Derives d (Further p b n es) m o → Derives d (Further p b n (e ∷ es)) i o
  -- assignments, and `in`
  assign : {d : ℕ} {p : Bool} {c : Kind} {how : Assignment} {x : Place} {e : Expr} {w : List ℕ} {i j l m : Input}
      → Derives (suc d) (APlace x) i j → Spells c w j l → assignment c ≡ Some how → Derives d (Whole p e) l m → Derives (suc d) (Test p true 0 (tree.Assign how x e)) i m
  contains : {d : ℕ} {p : Bool} {e : Expr} {ns : List Name} {i j l : Input}
      → Derives d (Member p e) i j → Arrays ns j l → Derives d (Test p false 0 (contained e ns)) i l
  operated : {d : ℕ} {p : Bool} {e : Expr} {i j : Input} → Derives d (Level p 5 e) i j → Derives d (Member p e) i j
  listed_in : {d : ℕ} {p : Bool} {e f : Expr} {es : List Expr} {u v w x : List ℕ} {i j l m n o : Input}
      → Spells k.LeftParen u i j → Derives d (Listed false (e ∷ f ∷ es)) j l → Spells k.RightParen v l m → Spells k.In w m n → Spells k.Name x n o
      → Derives (suc d) (Member p (tree.ListIn (e ∷ f ∷ es) (name_at n))) i o
  -- operators between two operands
  chain : {d n : ℕ} {p : Bool} {e : Expr} {xs : List Link} {i j l : Input}
      → Derives d (Level p n e) i j → Derives d (Links p (suc n) xs) j l → Derives d (Level p (suc n) (chained e xs)) i l
  no_more : {d n : ℕ} {p : Bool} {i : Input} → Derives d (Links p n []) i i
  -- a comparison, or a `~`, is the only one of its chain
  joined : {d n : ℕ} {p : Bool} {o : Operator} {e : Expr} {xs : List Link} {i j l m : Input}
      → Joins p (suc n) o i j → Derives d (Level p n e) j l → Derives d (Links p (suc n) xs) l m → (is_alone (suc n) ≡ true → xs ≡ []) → Derives d (Links p (suc n) (link o e ∷ xs)) i m
  tight : {d : ℕ} {p : Bool} {e : Expr} {i j : Input} → Derives d (Unary e) i j → Derives d (Level p 0 e) i j
  -- signs, and `^`
  unsigned : {d : ℕ} {e : Expr} {i j : Input} → Derives d (Power e) i j → Derives d (Unary e) i j
  signed : {d : ℕ} {c : Kind} {w : List ℕ} {s : Sign} {e : Expr} {i j l : Input}
      → Spells c w i j → sign c ≡ Some s → Derives d (Unary e) j l → Derives (suc d) (Unary (tree.Signed s e)) i l
  base : {d : ℕ} {e : Expr} {i j : Input} → Derives d (Postfix e) i j → Derives d (Power e) i j
  raised : {d : ℕ} {e f : Expr} {w : List ℕ} {i j l m : Input}
      → Derives (suc d) (Postfix e) i j → Spells k.Caret w j l → Derives d (Unary f) l m → Derives (suc d) (Power (tree.Power e f)) i m
  -- `++` and `--`; directly behind a place they belong to it
  unchanged : {d : ℕ} {e : Expr} {i j : Input} → begins_place (kind i) ≡ false → Derives d (Primary e) i j → Derives d (Postfix e) i j
  bare : {d : ℕ} {x : Place} {i j : Input} → Derives d (APlace x) i j → change (kind j) ≡ None → Derives d (Postfix (tree.Of x)) i j
  changed_after : {d : ℕ} {c : Kind} {how : Change} {x : Place} {w : List ℕ} {i j l : Input}
      → Derives d (APlace x) i j → Spells c w j l → change c ≡ Some how → Derives d (Postfix (tree.After how x)) i l
  changed_before : {d : ℕ} {c : Kind} {how : Change} {x : Place} {w : List ℕ} {i j l : Input}
      → Spells c w i j → change c ≡ Some how → Derives d (APlace x) j l → Derives (suc d) (Postfix (tree.Before how x)) i l
  -- places
  named : {d : ℕ} {w : List ℕ} {i j : Input} → Spells k.Name w i j → Derives d (APlace (spot.Name (name_at i))) i j
  element : {d : ℕ} {es : List Expr} {v w x : List ℕ} {i j l m n : Input}
      → Spells k.Name v i j → Spells k.LeftBracket w j l → Derives d (Listed false es) l m → Spells k.RightBracket x m n → Derives (suc d) (APlace (spot.Element (name_at i) es)) i n
  field : {d : ℕ} {e : Expr} {w : List ℕ} {i j l : Input} → Spells k.Dollar w i j → Derives d (Dollar e) j l → Derives (suc d) (APlace (spot.Field e)) i l
  dollar_before : {d : ℕ} {c : Kind} {how : Change} {x : Place} {w : List ℕ} {i j l : Input}
      → Spells c w i j → change c ≡ Some how → Derives d (APlace x) j l → Derives (suc d) (Dollar (tree.Before how x)) i l
  -- `$` takes no `getline`
  dollar : {d : ℕ} {e : Expr} {i j : Input} → kind i ≢ k.Getline → Derives d (Primary e) i j → Derives d (Dollar e) i j
  -- constants, groups and calls
  of_place : {d : ℕ} {x : Place} {i j : Input} → Derives d (APlace x) i j → Derives d (Primary (tree.Of x)) i j
  number : {d : ℕ} {n : ℤ} {w : List ℕ} {i j : Input} → Spells k.Number w i j → constant w ≡ Some n → Derives d (Primary (tree.Number n)) i j
  text : {d : ℕ} {w : List ℕ} {i j : Input} → Spells k.Text w i j → Derives d (Primary (tree.Text (unescaped_of (unquoted w)))) i j
  ere : {d : ℕ} {w : List ℕ} {i j : Input} → SpellsEre w i j → Derives d (Primary (tree.Ere (left i) w)) i j
  group : {d : ℕ} {e : Expr} {v w : List ℕ} {i j l m : Input}
      → Spells k.LeftParen v i j → Derives d (Whole false e) j l → Spells k.RightParen w l m → Derives (suc d) (Primary (tree.Group e)) i m
  call : {d : ℕ} {es : List Expr} {w : List ℕ} {i j l : Input}
      → Spells k.FunctionName w i j → Derives d (Arguments es) j l → Derives d (Primary (tree.Call (name_at i) es)) i l
  builtin : {d : ℕ} {f : Builtin} {es : List Expr} {w : List ℕ} {i j l : Input}
      → Spells k.Builtin w i j → builtin_named w ≡ Some f → Derives d (Arguments es) j l → fits f es ≡ true → Derives d (Primary (tree.Builtin f es)) i l
  -- a `(` behind `length` begins its arguments
  bare_length : {d : ℕ} {w : List ℕ} {i j : Input}
      → Spells k.Builtin w i j → builtin_named w ≡ Some fun.Length → kind j ≢ k.LeftParen → Derives d (Primary (tree.Builtin fun.Length [])) i j
  no_argument : {d : ℕ} {v w : List ℕ} {i j l : Input} → Spells k.LeftParen v i j → Spells k.RightParen w j l → Derives (suc d) (Arguments []) i l
  some_arguments : {d : ℕ} {es : List Expr} {v w : List ℕ} {i j l m : Input}
      → Spells k.LeftParen v i j → Derives d (Listed false es) j l → Spells k.RightParen w l m → Derives (suc d) (Arguments es) i m
  -- `getline` takes a place where one can begin; neither `++`, `--` nor `<` stands behind it
  getline : {d : ℕ} {w : List ℕ} {i j : Input}
      → Spells k.Getline w i j → begins_place (kind j) ≡ false → kind j ≢ k.Less → Derives d (Primary tree.Getline) i j
  getline_to : {d : ℕ} {x : Place} {w : List ℕ} {i j l : Input}
      → Spells k.Getline w i j → Derives d (APlace x) j l → change (kind l) ≡ None → kind l ≢ k.Less → Derives d (Primary (tree.GetlineTo x)) i l
  -- lists; behind a comma newlines are free
  one : {d : ℕ} {p : Bool} {e : Expr} {i j : Input} → Derives d (Whole p e) i j → Derives d (Listed p (e ∷ [])) i j
  several : {d : ℕ} {p : Bool} {e : Expr} {es : List Expr} {w : List ℕ} {i j l m n : Input}
      → Derives d (Whole p e) i j → Spells k.Comma w j l → Newlines l m → Derives d (Listed p es) m n → Derives d (Listed p (e ∷ es)) i n
  print_list : {d : ℕ} {es : List Expr} {i j : Input} → Derives d (Listed true es) i j → Derives d (PrintList es) i j
  print_group : {d : ℕ} {e f : Expr} {es : List Expr} {v w : List ℕ} {i j l m : Input}
      → Spells k.LeftParen v i j → Derives d (Listed false (e ∷ f ∷ es)) j l → Spells k.RightParen w l m → Derives (suc d) (PrintList (e ∷ f ∷ es)) i m
