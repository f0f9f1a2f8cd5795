-- How the settled tree of statements and items comes from the parser's, with the sites of their points.
use Rattle.std.specs.Prelude.{◌≡◌, ℕ, ◌+◌, suc, pos, List, [], ◌∷◌, ◌++◌, length, map, Option, None, Some}
use Rattle.std.specs.Global.{Box, Vec}
use Rattle.rawk_lexer.specs.Lines.{line_of}
use Rattle.rawk_parsing.specs.declared.tree.Expr as parsed
use Rattle.rawk_parsing.specs.declared.tree.Name.{Name}
use Rattle.rawk_parsing.specs.declared.tree.Place as spot
use Rattle.rawk_parsing.specs.declared.tree.Place.TheVariants as from_place
use Rattle.rawk_grammar.specs.declared.tree.Act.TheVariants as act
use Rattle.rawk_grammar.specs.declared.tree.Simple.{Simple}
use Rattle.rawk_grammar.specs.declared.tree.Jump.{Jump}
use Rattle.rawk_grammar.specs.declared.tree.Jump.TheVariants as jump
use Rattle.rawk_grammar.specs.declared.tree.Condition.{Condition}
use Rattle.rawk_grammar.specs.declared.tree.Branch as branching
use Rattle.rawk_grammar.specs.declared.tree.Head.{Head}
use Rattle.rawk_grammar.specs.declared.tree.Stmt as step
use Rattle.rawk_grammar.specs.declared.tree.Stmt.TheVariants as from
use Rattle.rawk_grammar.specs.declared.tree.Pattern.{Pattern}
use Rattle.rawk_grammar.specs.declared.tree.Pattern.TheVariants as guard
use Rattle.rawk_grammar.specs.declared.tree.Action.{Action}
use Rattle.rawk_grammar.specs.declared.tree.Action.TheVariants as does
use Rattle.rawk_grammar.specs.declared.tree.Item.{Item}
use Rattle.rawk_grammar.specs.declared.tree.Item.TheVariants as part
use Rattle.rawk_grammar.specs.Statement.{simple_at}
use Rattle.rawk_tree.specs.declared.tree.Expr.{Expr}
use Rattle.rawk_tree.specs.declared.tree.Expr.TheVariants as expr
use Rattle.rawk_tree.specs.declared.tree.Stmt.{Stmt}
use Rattle.rawk_tree.specs.declared.tree.Stmt.TheVariants as tree
use Rattle.rawk_tree.specs.declared.tree.Branch.{Branch}
use Rattle.rawk_tree.specs.declared.tree.Scalar.{Scalar}
use Rattle.rawk_words.specs.declared.array.Array.{Array}
use Rattle.rawk_tree.specs.declared.tree.Guard.{Guard}
use Rattle.rawk_tree.specs.declared.tree.Guard.TheVariants as tree_guard
use Rattle.rawk_tree.specs.declared.tree.Rule.{Rule}
use Rattle.rawk_tree.specs.declared.tree.Function.{Function}
use Rattle.rawk_tree.specs.declared.tree.Program.{Program}
use Rattle.rawk_names.specs.Named.{Known}
use Rattle.rawk_resolution.specs.Meant.{Sense, sense, global_words, global_kinds}
use Rattle.rawk_resolution.specs.Settled.{Settles, AnExpr, SomeExprs, Prints}

-- behind the others stands one more, of which P holds
abbrev pub Adds : {A : Type 0} → (A → Type 0) → List A → List A → Type 0
Adds {A} P before after = (x : A) × P x × (after ≡ before ++ x ∷ [])

-- one site more, at a place of the text
abbrev pub sited : List ℕ → ℕ → List ℕ → List ℕ
sited text left lines = lines ++ line_of text left ∷ []

-- a `delete` with its site, of an element by its subscripts (POSIX awk, "Actions"), or of all elements, as in gawk and mawk
pub data Deletes (means : Sense) : ℕ → spot.Place → Stmt → Type 0 where
  one : {n : Name} {a : Array} {es : List parsed.Expr} (site : ℕ) (ss : Vec Expr)
      → means.array n.word ≡ Some a → Settles means (SomeExprs es ss.items) → Deletes means site (from_place.Element n es) (tree.Delete site a ss)
  all : {n : Name} {a : Array} (site : ℕ) → means.array n.word ≡ Some a → Deletes means site (from_place.Name n) (tree.Clear site a)

-- A simple statement, whose site is the next one, with the lines of the sites before and after it. A text is what the places are in.
pub data Simply (text : List ℕ) (means : Sense) : Simple → Stmt → List ℕ → List ℕ → Type 0 where
  evaluate : {s : Expr} {lines : List ℕ} (left : ℕ) (e : parsed.Expr)
      → Settles means (AnExpr e s) → Simply text means (simple_at left (act.Evaluate e)) (tree.Do (length lines) s) lines (sited text left lines)
  print : {lines : List ℕ} (left : ℕ) (es : List parsed.Expr) (ss : Vec Expr)
      → Prints means es ss.items → Simply text means (simple_at left (act.Print es)) (tree.Print (length lines) ss) lines (sited text left lines)
  -- the first one is the format
  printf : {s : Expr} {lines : List ℕ} (left : ℕ) (es : List parsed.Expr) (ss : Vec Expr)
      → Settles means (SomeExprs es (s ∷ ss.items)) → Simply text means (simple_at left (act.Printf es)) (tree.Printf (length lines) s ss) lines (sited text left lines)
  delete : {p : spot.Place} {t : Stmt} {lines : List ℕ} (left : ℕ) → Deletes means (length lines) p t → Simply text means (simple_at left (act.Delete p)) t lines (sited text left lines)

-- an `exit` with its site, and a status where one is given
pub data Exits (means : Sense) : ℕ → Option parsed.Expr → Stmt → Type 0 where
  bare : (site : ℕ) → Exits means site None (tree.Exit site)
  with_status : {e : parsed.Expr} {s : Expr} (site : ℕ) → Settles means (AnExpr e s) → Exits means site (Some e) (tree.ExitWith site s)

-- a `return` with its site, and a value where one is given
pub data Returns (means : Sense) : ℕ → Option parsed.Expr → Stmt → Type 0 where
  no_value : (site : ℕ) → Returns means site None (tree.Return site)
  with_value : {e : parsed.Expr} {s : Expr} (site : ℕ) → Settles means (AnExpr e s) → Returns means site (Some e) (tree.ReturnWith site s)

-- A jump, whose site is the next one.
pub data Jumps (text : List ℕ) (means : Sense) : ℕ → Jump → Stmt → List ℕ → List ℕ → Type 0 where
  breaks : {lines : List ℕ} (left : ℕ) → Jumps text means left jump.Break (tree.Break (length lines)) lines (sited text left lines)
  continues : {lines : List ℕ} (left : ℕ) → Jumps text means left jump.Continue (tree.Continue (length lines)) lines (sited text left lines)
  goes_next : {lines : List ℕ} (left : ℕ) → Jumps text means left jump.Next (tree.Next (length lines)) lines (sited text left lines)
  exits : {o : Option parsed.Expr} {t : Stmt} {lines : List ℕ} (left : ℕ) → Exits means (length lines) o t → Jumps text means left (jump.Exit o) t lines (sited text left lines)
  returns : {o : Option parsed.Expr} {t : Stmt} {lines : List ℕ} (left : ℕ) → Returns means (length lines) o t → Jumps text means left (jump.Return o) t lines (sited text left lines)

-- the condition of a `for`: a missing one is the number 1
pub data Tests (means : Sense) : Option parsed.Expr → Expr → Type 0 where
  missing_test : Tests means None (expr.Number (pos 1))
  given_test : {e : parsed.Expr} {s : Expr} → Settles means (AnExpr e s) → Tests means (Some e) s

-- a statement, several, one that may be missing, or branches, and what they are settled as
pub data Pair : Type 0 where
  AStmt : step.Stmt → Stmt → Pair
  SomeStmts : List step.Stmt → List Stmt → Pair
  AnOther : Option step.Stmt → Stmt → Pair
  SomeBranches : List branching.Branch → List Branch → Pair

-- With the lines of the sites before and after, the one is settled as the other.
pub data Lays (text : List ℕ) (means : Sense) : Pair → List ℕ → List ℕ → Type 0 where
  empty : {m : List ℕ} (ts : Vec Stmt) → ts.items ≡ [] → Lays text means (AStmt from.Empty (tree.Block ts)) m m
  simple : {s : Simple} {t : Stmt} {m n : List ℕ} → Simply text means s t m n → Lays text means (AStmt (from.Simple s) t) m n
  block : {ss : List step.Stmt} {m n : List ℕ} (ts : Vec Stmt) → Lays text means (SomeStmts ss ts.items) m n → Lays text means (AStmt (from.Block ss) (tree.Block ts)) m n
  jumping : {j : Jump} {t : Stmt} {m n : List ℕ} (left : ℕ) → Jumps text means left j t m n → Lays text means (AStmt (from.Jump left j) t) m n
  -- branches, and then the `else`
  choice : {bs : List branching.Branch} {other : Option step.Stmt} {m n o : List ℕ} (cs : Vec Branch) (t : Box Stmt)
      → Lays text means (SomeBranches bs cs.items) m n → Lays text means (AnOther other t.value) n o → Lays text means (AStmt (from.If bs other) (tree.If cs t)) m o
  -- the condition, and then the body
  repeats : {c : Condition} {s : step.Stmt} {e : Expr} {m n : List ℕ} (t : Box Stmt)
      → Settles means (AnExpr c.test e) → Lays text means (AStmt s t.value) (sited text c.left m) n → Lays text means (AStmt (from.While c s) (tree.While (length m) e t)) m n
  -- the body, and then the condition
  repeats_behind : {c : Condition} {s : step.Stmt} {e : Expr} {m n : List ℕ} (t : Box Stmt)
      → Lays text means (AStmt s t.value) m n → Settles means (AnExpr c.test e) → Lays text means (AStmt (from.Do s c) (tree.DoWhile t (length n) e)) m (sited text c.left n)
  -- the beginning, the condition, the step, the body
  counts : {s : step.Stmt} {e : Expr} {m n o p : List ℕ} (h : Head) (first step t : Box Stmt)
      → Lays text means (AnOther h.first first.value) m n → Tests means h.test e → Lays text means (AnOther h.last step.value) (sited text h.left n) o → Lays text means (AStmt s t.value) o p
      → Lays text means (AStmt (from.For h s) (tree.For first (length n) e step t)) m p
  -- a turn for each key, whose site is at `for`, and then the body (POSIX awk, "Actions")
  visits : {x y : Name} {v : Scalar} {a : Array} {s : step.Stmt} {m n : List ℕ} (left : ℕ) (t : Box Stmt)
      → means.scalar x.word ≡ Some v → means.array y.word ≡ Some a → Lays text means (AStmt s t.value) (sited text left m) n → Lays text means (AStmt (from.ForIn left x y s) (tree.ForIn (length m) v a t)) m n
  absent : {m : List ℕ} (ts : Vec Stmt) → ts.items ≡ [] → Lays text means (AnOther None (tree.Block ts)) m m
  present : {s : step.Stmt} {t : Stmt} {m n : List ℕ} → Lays text means (AStmt s t) m n → Lays text means (AnOther (Some s) t) m n
  no_branch : {m : List ℕ} → Lays text means (SomeBranches [] []) m m
  a_branch : {bs : List branching.Branch} {cs : List Branch} {m n o : List ℕ} (b : branching.Branch) (c : Branch)
      → Lays text means (SomeBranches bs cs) m n → c.site ≡ length n → Settles means (AnExpr b.condition.test c.test) → Lays text means (AStmt b.body c.body) (sited text b.condition.left n) o
      → Lays text means (SomeBranches (bs ++ b ∷ []) (cs ++ c ∷ [])) m o
  no_statement : {m : List ℕ} → Lays text means (SomeStmts [] []) m m
  a_statement : {ss : List step.Stmt} {ts : List Stmt} {s : step.Stmt} {t : Stmt} {m n o : List ℕ}
      → Lays text means (SomeStmts ss ts) m n → Lays text means (AStmt s t) n o → Lays text means (SomeStmts (ss ++ s ∷ []) (ts ++ t ∷ [])) m o

-- the action of a rule with a pattern: a missing one prints the record, and its site is directly behind the pattern
pub data Does (text : List ℕ) (means : Sense) : Action → Stmt → List ℕ → List ℕ → Type 0 where
  missing : {lines : List ℕ} (left : ℕ) (ss : Vec Expr)
      → Prints means [] ss.items → Does text means (does.Missing left) (tree.Print (length lines) ss) lines (sited text left lines)
  given : {ss : List step.Stmt} {m n : List ℕ} (ts : Vec Stmt) → Lays text means (SomeStmts ss ts.items) m n → Does text means (does.Given ss) (tree.Block ts) m n

-- what says at which records a rule runs, whose site is the next one: a range has the number of its flag, which is how many stand before it
pub data Guards (text : List ℕ) (means : Sense) (ranges : ℕ) : Pattern → Guard → List ℕ → List ℕ → Type 0 where
  tests : {e : parsed.Expr} {s : Expr} {lines : List ℕ} (left : ℕ)
      → Settles means (AnExpr e s) → Guards text means ranges (guard.When left e) (tree_guard.When s) lines (sited text left lines)
  bounds : {e f : parsed.Expr} {s u : Expr} {lines : List ℕ} (left : ℕ)
      → Settles means (AnExpr e s) → Settles means (AnExpr f u) → Guards text means ranges (guard.Range left e f) (tree_guard.Between ranges s u) lines (sited text left lines)

abbrev pub rule_of : ℕ → Expr → Stmt → Rule
rule_of site test action = record { site = site; guard = tree_guard.When test; action = action }

-- with the number of the range's flag
abbrev pub range_of : ℕ → ℕ → Expr → Expr → Stmt → Rule
range_of site flag first last action = record { site = site; guard = tree_guard.Between flag first last; action = action }

-- A rule with a pattern behind `ranges` ranges. Its first site is that of its test.
pub data Rules (text : List ℕ) (means : Sense) (ranges : ℕ) : Pattern → Action → Rule → List ℕ → List ℕ → Type 0 where
  when : {e : parsed.Expr} {s : Expr} {x : Action} {t : Stmt} {lines n : List ℕ} (left : ℕ)
      → Settles means (AnExpr e s) → Does text means x t (sited text left lines) n → Rules text means ranges (guard.When left e) x (rule_of (length lines) s t) lines n
  between : {e f : parsed.Expr} {s u : Expr} {x : Action} {t : Stmt} {lines n : List ℕ} (left : ℕ)
      → Settles means (AnExpr e s) → Settles means (AnExpr f u) → Does text means x t (sited text left lines) n → Rules text means ranges (guard.Range left e f) x (range_of (length lines) ranges s u t) lines n

-- how many ranges a pattern is
abbrev pub ranges_of : Pattern → ℕ
ranges_of (guard.When left e) = 0
ranges_of (guard.Range left e f) = 1

abbrev pub words_of : List Name → List (List ℕ)
words_of names = map (λ (n : Name). n.word) names

-- The parts of the function of this number, from those of the text. The site of its entry is at the token `function`, before those of its body.
pub record Defines (text : List ℕ) (means : Sense) (number : ℕ) (left : ℕ) (name : Name) (parameters : List Name) (ss : List step.Stmt) (f : Function) (m n : List ℕ) : Type 0 where
  pub called : f.name ≡ name.word
  pub takes : f.parameters.items ≡ words_of parameters
  pub kinds : f.kinds.items ≡ means.kinds number
  pub site : f.site ≡ length m
  pub steps : Vec Stmt
  pub block : f.body ≡ tree.Block steps
  pub body : Lays text means (SomeStmts ss steps.items) (sited text left m) n

-- The items of a program, in the order of the text. Inside a function the scope is one more than the number of functions before it.
pub data Sorts (text : List ℕ) (means : ℕ → Sense) : List Item → List Function → ℕ → List Stmt → List Rule → List Stmt → List ℕ → Type 0 where
  no_item : Sorts text means [] [] 0 [] [] [] []
  begin : {items : List Item} {functions : List Function} {ranges : ℕ} {begins ends : List Stmt} {rules : List Rule} {ss : List step.Stmt} {m n : List ℕ} (ts : Vec Stmt)
      → Sorts text means items functions ranges begins rules ends m → Lays text (means 0) (SomeStmts ss ts.items) m n
      → Sorts text means (items ++ part.Begin ss ∷ []) functions ranges (begins ++ tree.Block ts ∷ []) rules ends n
  ending : {items : List Item} {functions : List Function} {ranges : ℕ} {begins ends : List Stmt} {rules : List Rule} {ss : List step.Stmt} {m n : List ℕ} (ts : Vec Stmt)
      → Sorts text means items functions ranges begins rules ends m → Lays text (means 0) (SomeStmts ss ts.items) m n
      → Sorts text means (items ++ part.End ss ∷ []) functions ranges begins rules (ends ++ tree.Block ts ∷ []) n
  -- a missing pattern is the number 1, and its site is at the brace
  always : {items : List Item} {functions : List Function} {ranges : ℕ} {begins ends : List Stmt} {rules : List Rule} {ss : List step.Stmt} {lines n : List ℕ} (left : ℕ) (ts : Vec Stmt)
      → Sorts text means items functions ranges begins rules ends lines → Lays text (means 0) (SomeStmts ss ts.items) (sited text left lines) n
      → Sorts text means (items ++ part.Always left ss ∷ []) functions ranges begins (rules ++ rule_of (length lines) (expr.Number (pos 1)) (tree.Block ts) ∷ []) ends n
  rule : {items : List Item} {functions : List Function} {ranges : ℕ} {begins ends : List Stmt} {rules : List Rule} {p : Pattern} {x : Action} {r : Rule} {m n : List ℕ}
      → Sorts text means items functions ranges begins rules ends m → Rules text (means 0) ranges p x r m n
      → Sorts text means (items ++ part.Rule p x ∷ []) functions (ranges + ranges_of p) begins (rules ++ r ∷ []) ends n
  function : {items : List Item} {functions : List Function} {ranges : ℕ} {begins ends : List Stmt} {rules : List Rule} {name : Name} {parameters : List Name} {ss : List step.Stmt} {f : Function} {m n : List ℕ} (left : ℕ)
      → Sorts text means items functions ranges begins rules ends m → Defines text (means (suc (length functions))) (length functions) left name parameters ss f m n
      → Sorts text means (items ++ part.Function left name parameters ss ∷ []) (functions ++ f ∷ []) ranges begins rules ends n

-- The program's parts are those of these items of the text, and these are the lines of its sites.
abbrev pub IsLaidWith : List ℕ → (ℕ → Sense) → List Item → Program → List ℕ → Type 0
IsLaidWith text means items p lines = Sorts text means items p.functions.items p.ranges p.begin.items p.rules.items p.end.items lines

-- The program is that of these items, by what is known of their names: its sites are in the order of the text.
pub record IsLaid (text : List ℕ) (names : Known) (items : List Item) (p : Program) : Type 0 where
  pub sorted : IsLaidWith text (sense names) items p p.lines.items
  pub named : p.names.items ≡ global_words names
  pub kinds : p.kinds.items ≡ global_kinds names
