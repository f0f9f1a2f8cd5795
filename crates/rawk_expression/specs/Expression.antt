-- Expressions, as functions on the text. The code equals them; Grammar.antt says what is right.
use Rattle.std.specs.Prelude.{ℕ, zero, suc, Bool, true, false, not, ◌||◌, if◌then◌else◌, ◌==◌, List, [], ◌∷◌, ◌++◌, Option, Some, None, Ok, Err}
use Rattle.rawk_keywords.specs.declared.builtin.Builtin.{Builtin}
use Rattle.rawk_keywords.specs.declared.builtin.Builtin.TheVariants as fun
use Rattle.rawk_keywords.specs.declared.token.Kind.{Kind}
use Rattle.rawk_keywords.specs.declared.token.Kind.TheVariants as k
use Rattle.rawk_lexer.specs.Lex.{kind, next, left}
use Rattle.rawk_parsing.specs.declared.refusal.RefusalKind.TheVariants as refused
use Rattle.rawk_parsing.specs.declared.parse_error.ParseError.TheVariants.{Here}
use Rattle.rawk_expression.specs.declared.grammar.Wanted.{Wanted}
use Rattle.rawk_expression.specs.declared.grammar.Wanted.TheVariants as want
use Rattle.rawk_expression.specs.declared.operands.Enclosed.{Enclosed}
use Rattle.rawk_expression.specs.declared.operands.Enclosed.TheVariants as inside
use Rattle.rawk_expression.specs.declared.operands.Start.{Start}
use Rattle.rawk_expression.specs.declared.operands.Start.TheVariants as start
use Rattle.rawk_expression.specs.declared.junctions.Operand.{Operand}
use Rattle.rawk_parsing.specs.declared.tree.Operator.{Operator}
use Rattle.rawk_words.specs.declared.operator.Sign.{Sign}
use Rattle.rawk_parsing.specs.declared.tree.Change.{Change}
use Rattle.rawk_parsing.specs.declared.tree.Change.TheVariants as changes
use Rattle.rawk_parsing.specs.declared.tree.Assignment.{Assignment}
use Rattle.rawk_parsing.specs.declared.tree.Name.{Name}
use Rattle.rawk_parsing.specs.declared.tree.Expr.{Expr}
use Rattle.rawk_parsing.specs.declared.tree.Expr.TheVariants as tree
use Rattle.rawk_parsing.specs.declared.tree.Link.{Link, roll-Link}
use Rattle.rawk_parsing.specs.declared.tree.Place.{Place}
use Rattle.rawk_parsing.specs.declared.tree.Place.TheVariants as spot
use Rattle.rawk_parsing.specs.Parser.{Input, Parser, and_then, ◌>>=◌, ◌>>◌, pure, refuse, too_deep, left_out, peek, take_token, sees, eat, expect, newlines, name, bare_name, function, number, text, ere, not_redirected}
use Rattle.rawk_parsing.specs.Tables.{is_concat, joins, is_alone, mark, logic, sign, change, assignment, fits}

-- ---- parts of trees

unfoldable pub link : Operator → Expr → Link
link operator operand = roll-Link (record { operator = operator; operand = operand })

-- an operand, and what is joined to it
unfoldable pub chained : Expr → List Link → Expr
chained first [] = first
chained first (x ∷ xs) = tree.Chain first (x ∷ xs)

-- an operand, and the arrays behind `in`
unfoldable pub contained : Expr → List Name → Expr
contained e [] = e
contained e (n ∷ ns) = tree.In e (n ∷ ns)

abbrev pub closed : Expr → Operand
closed e = record { tree = e; is_open = false }

-- it ends in an assignment, so that nothing goes on behind it
abbrev pub open_ended : Expr → Operand
open_ended e = record { tree = e; is_open = true }

-- a whole expression, in the list of a print or elsewhere
abbrev pub whole_of : Bool → Wanted
whole_of true = want.Printed
whole_of false = want.Whole

-- ---- lists

-- expressions with commas between them, behind those that were found; the number bounds the turns
unfoldable pub list_from : Parser Expr → ℕ → List Expr → Parser (List Expr)
list_from item zero found = refuse
list_from item (suc n) found = do
  e ← item
  more ← eat k.Comma
  if more then (λ i. list_from item n (found ++ e ∷ []) (newlines i)) else pure (found ++ e ∷ [])

unfoldable pub list : Parser Expr → List Expr → Parser (List Expr)
list item found = λ i. list_from item (left i) found i

-- the arrays of a chain of `in`; the number bounds the turns
unfoldable pub arrays_from : ℕ → List Name → Parser (List Name)
arrays_from zero found = pure found
arrays_from (suc n) found = do
  more ← eat k.In
  if more then (do array ← bare_name; arrays_from n (found ++ array ∷ [])) else pure found

unfoldable pub arrays : Parser (List Name)
arrays = λ i. arrays_from (left i) [] i

-- behind an operator, which may be empty
abbrev pub past : Bool → Input → Input
past is_empty i = if is_empty then i else next i

-- the links of a chain; the number bounds the turns
abbrev pub linked : ℕ → Parser Expr → (List Link → Parser (List Link)) → List Link → Option Operator → Parser (List Link)
linked level operand more found None = pure found
linked level operand more found (Some o) = λ i. and_then (operand (past (is_concat o) i)) (λ e. if is_alone level then pure (found ++ link o e ∷ []) else more (found ++ link o e ∷ []))

unfoldable pub links_from : Bool → ℕ → Parser Expr → ℕ → List Link → Parser (List Link)
links_from prints level operand zero found = pure found
links_from prints level operand (suc n) found = λ i. linked level operand (links_from prints level operand n) found (joins prints level (kind i)) i

unfoldable pub links : Bool → ℕ → Parser Expr → Parser (List Link)
links prints level operand = λ i. links_from prints level operand (left i) [] i

-- further operands of `&&` or `||`; the number bounds the turns
abbrev pub tested : ℕ → (List Expr → Parser Operand) → List Expr → Operand → Parser Operand
tested level more found o = if o.is_open then pure (open_ended (tree.Logic (logic level) (found ++ o.tree ∷ []))) else more (found ++ o.tree ∷ [])

unfoldable pub further_from : ℕ → Parser Operand → ℕ → List Expr → Parser Operand
further_from level operand zero found = pure (closed (tree.Logic (logic level) found))
further_from level operand (suc n) found = do
  more ← eat (mark level)
  if more then (λ i. and_then (operand (newlines i)) (tested level (further_from level operand n) found)) else pure (closed (tree.Logic (logic level) found))

-- the operands of `&&` or `||`, behind the first
unfoldable pub further : ℕ → Parser Operand → Expr → Parser Operand
further level operand first = λ i. further_from level operand (left i) (first ∷ []) i

-- an operand, and those that `&&` or `||` joins to it
unfoldable pub joined : ℕ → Parser Operand → Operand → Parser Operand
joined level operand first = λ i. if first.is_open || not (sees (mark level) i) then Ok (first, i) else further level operand first.tree i

-- ---- rules that open no construct

abbrev pub fitting : ℕ → Builtin → List Expr → Parser Expr
fitting place f es = if fits f es then pure (tree.Builtin f es) else (λ i. Err (Here refused.Syntax place))

-- what may not stand behind the place of `getline`
abbrev pub behind_getline_by : Kind → Parser (Unit {0})
behind_getline_by k.Less = left_out
behind_getline_by k.Increment = refuse
behind_getline_by k.Decrement = refuse
behind_getline_by _ = pure tt

abbrev pub behind_getline : Parser (Unit {0})
behind_getline = peek >>= behind_getline_by

abbrev pub number_constant : Parser Expr
number_constant = do n ← number; pure (tree.Number n)

abbrev pub text_constant : Parser Expr
text_constant = do bytes ← text; pure (tree.Text bytes)

unfoldable pub ere_constant : Parser Expr
ere_constant = λ i. and_then (ere i) (λ word. pure (tree.Ere (left i) word))

-- a place with the `++` or `--` directly behind it
abbrev pub changed_by : Place → Option Change → Parser Expr
changed_by p None = pure (tree.Of p)
changed_by p (Some c) = take_token >> pure (tree.After c p)

unfoldable pub changed : Place → Parser Expr
changed p = λ i. changed_by p (change (kind i)) i

-- the begin of an operand, behind `(` and what stands in it
abbrev pub opened : Enclosed → Parser Start
opened (inside.One e) = pure (start.Base (tree.Group e))
opened (inside.Several es) = expect k.In >> (do array ← bare_name; pure (start.Member (tree.ListIn es array)))

-- the begin of an operand, behind a place
abbrev pub settable_by : Place → Option Assignment → Parser Start
settable_by p None = do e ← changed p; pure (start.Base e)
settable_by p (Some how) = take_token >> pure (start.Assigns how p)

unfoldable pub settable : Place → Parser Start
settable p = λ i. settable_by p (assignment (kind i)) i

-- an operand with the arrays behind `in`
unfoldable pub member : Expr → Parser Operand
member e = do ns ← arrays; pure (closed (contained e ns))

-- ---- rules; `room` is how many constructs may still be opened, and `deeper` parses what stands in one

module _ (room : ℕ) (deeper : Wanted → Parser Expr) where
  abbrev pub named : Bool → Name → Parser Place
  named true word = do keys ← list (deeper want.Whole) []; expect k.RightBracket; pure (spot.Element word keys)
  named false word = pure (spot.Name word)

  unfoldable pub named_place : Parser Place
  named_place = do
    word ← name
    opens ← eat k.LeftBracket
    named opens word

  abbrev pub place_by : Kind → Parser Place
  place_by k.Name = named_place
  place_by k.Dollar = take_token >> (do number ← deeper want.Dollar; pure (spot.Field number))
  place_by _ = refuse

  unfoldable pub place : Parser Place
  place = peek >>= place_by

  -- what may stand in the parentheses of a call
  unfoldable pub filled : Parser (List Expr)
  filled = do
    none ← eat k.RightParen
    if none then pure [] else (do es ← list (deeper want.Whole) []; expect k.RightParen; pure es)

  unfoldable pub arguments : Parser (List Expr)
  arguments = expect k.LeftParen >> (if room == 0 then too_deep else filled)

  unfoldable pub called : Parser Expr
  called = do word ← name; es ← arguments; pure (tree.Call word es)

  -- `length` may stand alone
  abbrev pub arguments_of : Builtin → Parser (List Expr)
  arguments_of fun.Length = λ i. if sees k.LeftParen i then arguments i else Ok ([], i)
  arguments_of _ = arguments

  unfoldable pub builtin : Parser Expr
  builtin = λ i. and_then (function i) (λ f. arguments_of f >>= fitting (left i) f)

  unfoldable pub getline_to : Parser Expr
  getline_to = do p ← place; behind_getline; pure (tree.GetlineTo p)

  abbrev pub getline_by : Kind → Parser Expr
  getline_by k.Name = getline_to
  getline_by k.Dollar = getline_to
  getline_by k.Less = left_out
  getline_by _ = pure tree.Getline

  unfoldable pub getline : Parser Expr
  getline = take_token >> (peek >>= getline_by)

  unfoldable pub group : Parser Expr
  group = take_token >> (do inner ← deeper want.Whole; expect k.RightParen; pure (tree.Group inner))

  abbrev pub primary_by : Kind → Parser Expr
  primary_by k.Number = number_constant
  primary_by k.Text = text_constant
  primary_by k.Slash = ere_constant
  primary_by k.SlashAssign = ere_constant
  primary_by k.LeftParen = group
  primary_by k.FunctionName = called
  primary_by k.Getline = getline
  primary_by k.Builtin = builtin
  primary_by _ = do p ← place; pure (tree.Of p)

  unfoldable pub primary : Parser Expr
  primary = peek >>= primary_by

  -- `++` and `--` before a place
  abbrev pub changed_before : Change → Parser Expr
  changed_before c = take_token >> deeper (want.Before c)

  -- what stands behind `$`
  abbrev pub dollar_by : Kind → Parser Expr
  dollar_by k.Increment = changed_before changes.Increment
  dollar_by k.Decrement = changed_before changes.Decrement
  dollar_by k.Getline = refuse
  dollar_by _ = primary

  unfoldable pub dollar : Parser Expr
  dollar = peek >>= dollar_by

  abbrev pub postfix_by : Kind → Parser Expr
  postfix_by k.Increment = changed_before changes.Increment
  postfix_by k.Decrement = changed_before changes.Decrement
  postfix_by k.Name = place >>= changed
  postfix_by k.Dollar = place >>= changed
  postfix_by _ = primary

  unfoldable pub postfix : Parser Expr
  postfix = peek >>= postfix_by

  -- an operand with its exponent
  unfoldable pub raised : Expr → Parser Expr
  raised base = do
    raises ← eat k.Caret
    if raises then (do exponent ← deeper want.Unary; pure (tree.Power base exponent)) else pure base

  abbrev pub signed : Sign → Parser Expr
  signed s = take_token >> (do operand ← deeper want.Unary; pure (tree.Signed s operand))

  abbrev pub unary_by : Option Sign → Parser Expr
  unary_by None = postfix >>= raised
  unary_by (Some s) = signed s

  -- the operators with one operand and `^`; the operand may have been read
  abbrev pub unary : Option Expr → Parser Expr
  unary None = λ i. unary_by (sign (kind i)) i
  unary (Some head) = raised head

  -- operators of this level and those that bind tighter
  unfoldable pub level : Bool → Option Expr → ℕ → Parser Expr
  level prints head zero = unary head
  level prints head (suc n) = do
    first ← level prints head n
    found ← links prints (suc n) (level prints None n)
    pure (chained first found)

  -- ---- the begin of an operand of `&&` and `||`: an assignment, a list before `in`, or another

  unfoldable pub several : Expr → Parser Enclosed
  several first = do es ← list (deeper want.Whole) (first ∷ []); expect k.RightParen; pure (inside.Several es)

  abbrev pub enclosed_by : Expr → Bool → Parser Enclosed
  enclosed_by first true = λ i. several first (newlines i)
  enclosed_by first false = expect k.RightParen >> pure (inside.One first)

  -- in parentheses one expression or more
  unfoldable pub enclosed : Parser Enclosed
  enclosed = take_token >> (do first ← deeper want.Whole; more ← eat k.Comma; enclosed_by first more)

  abbrev pub opening_by : Kind → Parser Start
  opening_by k.LeftParen = enclosed >>= opened
  opening_by k.Name = place >>= settable
  opening_by k.Dollar = place >>= settable
  opening_by _ = pure start.Nothing

  unfoldable pub opening : Parser Start
  opening = peek >>= opening_by

  -- from the begin on
  abbrev pub begun : {A : Type 0} → (Start → Parser A) → Parser A
  begun rest = opening >>= rest

  abbrev pub operand : Bool → Start → Parser Operand
  operand prints start.Nothing = level prints None 5 >>= member
  operand prints (start.Base e) = level prints (Some e) 5 >>= member
  operand prints (start.Member e) = member e
  operand prints (start.Assigns how p) = do value ← deeper (whole_of prints); pure (open_ended (tree.Assign how p value))

  -- ---- from `&&` up

  -- operands at level 0, joined by `&&` at level 1, by `||` at level 2
  unfoldable pub junction : Bool → ℕ → Start → Parser Operand
  junction prints zero s = operand prints s
  junction prints (suc n) s = λ i. and_then (junction prints n s i) (joined (suc n) (begun (junction prints n)))

  unfoldable pub choice : Bool → Expr → Parser Expr
  choice prints test = do
    second ← deeper (whole_of prints)
    expect k.Colon
    third ← deeper (whole_of prints)
    pure (tree.Choice test second third)

  unfoldable pub chosen : Bool → Operand → Parser Expr
  chosen prints test = λ i. if test.is_open || not (sees k.Question i) then Ok (test.tree, i) else choice prints test.tree (next i)

  unfoldable pub finished : Bool → Start → Parser Expr
  finished prints s = do
    test ← junction prints 2 s
    e ← chosen prints test
    not_redirected prints
    pure e

  unfoldable pub whole : Bool → Parser Expr
  whole prints = begun (finished prints)

  abbrev pub by : Wanted → Parser Expr
  by want.Whole = whole false
  by want.Printed = whole true
  by want.Unary = unary None
  by want.Dollar = dollar
  by (want.Before c) = do p ← place; pure (tree.Before c p)

  -- ---- the list of a print

  -- the further expressions of a list, behind the first
  unfoldable pub printed_rest : Expr → Parser (List Expr)
  printed_rest e = do
    more ← eat k.Comma
    if more then (λ i. list (whole true) (e ∷ []) (newlines i)) else pure (e ∷ [])

  -- a list whose first expression has begun
  unfoldable pub printed_from : Start → Parser (List Expr)
  printed_from s = finished true s >>= printed_rest

  -- two expressions or more in parentheses are the list, or subscripts before `in`
  unfoldable pub printed_several : List Expr → Parser (List Expr)
  printed_several es = λ i. if sees k.In i then and_then (opened (inside.Several es) i) printed_from else and_then (not_redirected true i) (λ _. pure es)

  abbrev pub printed_opened : Enclosed → Parser (List Expr)
  printed_opened (inside.One e) = printed_from (start.Base (tree.Group e))
  printed_opened (inside.Several es) = printed_several es

  abbrev pub print_list_by : Kind → Parser (List Expr)
  print_list_by k.LeftParen = enclosed >>= printed_opened
  print_list_by k.Greater = left_out
  print_list_by _ = begun printed_from

  -- the list of a print: expressions with commas between them, or two or more in parentheses
  unfoldable pub print_list : Parser (List Expr)
  print_list = peek >>= print_list_by

-- an expression, with fewer than `depth` constructs open
unfoldable pub expression : ℕ → Wanted → Parser Expr
expression zero wanted = too_deep
expression (suc depth) wanted = by depth (expression depth) wanted

-- a place
unfoldable pub lone_place : ℕ → Parser Place
lone_place zero = too_deep
lone_place (suc depth) = place depth (expression depth)

-- the list of a print
unfoldable pub printed : ℕ → Parser (List Expr)
printed zero = too_deep
printed (suc depth) = print_list depth (expression depth)
