-- Items and programs, as functions on the text: `depth` bounds the constructs of expressions, `room` is one less.
use Rattle.std.specs.Prelude.{ℕ, zero, suc, Bool, true, false, if◌then◌else◌, List, [], ◌∷◌, ◌++◌, length, Ok}
use Rattle.rawk_keywords.specs.declared.token.Kind.{Kind}
use Rattle.rawk_keywords.specs.declared.token.Kind.TheVariants as k
use Rattle.rawk_lexer.specs.Lex.{kind, next, left}
use Rattle.rawk_expression.specs.declared.grammar.Wanted.TheVariants as want
use Rattle.rawk_parsing.specs.declared.tree.Name.{Name}
use Rattle.rawk_parsing.specs.Parser.{Input, Parser, and_then, ◌>>=◌, ◌>>◌, pure, refuse, too_deep, peek, take_token, sees, eat, expect, newlines, name, bare_name}
use Rattle.rawk_expression.specs.Expression.{expression}
use Rattle.rawk_grammar.specs.declared.context.Owner.TheVariants as owner
use Rattle.rawk_grammar.specs.declared.tree.Pattern.{Pattern}
use Rattle.rawk_grammar.specs.declared.tree.Pattern.TheVariants as guard
use Rattle.rawk_grammar.specs.declared.tree.Action.{Action}
use Rattle.rawk_grammar.specs.declared.tree.Action.TheVariants as does
use Rattle.rawk_grammar.specs.declared.tree.Item.{Item}
use Rattle.rawk_grammar.specs.declared.tree.Item.TheVariants as part
use Rattle.rawk_grammar.specs.Context.{of}
use Rattle.rawk_grammar.specs.Statement.{action}

-- ---- rules

unfoldable pub pattern : ℕ → Parser Pattern
pattern depth = λ i. and_then (expression depth want.Whole i) (λ first. (do
  more ← eat k.Comma
  if more then (λ j. and_then (expression depth want.Whole (newlines j)) (λ last. pure (guard.Range (left i) first last))) else pure (guard.When (left i) first)))

-- what stands between items
abbrev pub separates : Kind → Bool
separates k.Semicolon = true
separates k.Newline = true
separates _ = false

-- what may stand behind a pattern with no action
abbrev pub ends_pattern : Kind → Bool
ends_pattern k.EndOfText = true
ends_pattern c = separates c

unfoldable pub optional_action : ℕ → Parser Action
optional_action room = λ i.
    if sees k.LeftBrace i then and_then (action room (of owner.Rule) i) (λ ss. pure (does.Given ss))
    else (if ends_pattern (kind i) then Ok (does.Missing (length i), i) else refuse i)

unfoldable pub rule : ℕ → ℕ → Parser Item
rule depth room = do p ← pattern depth; a ← optional_action room; pure (part.Rule p a)

-- ---- functions

-- names with commas between them, behind those that were found; the number bounds the turns
unfoldable pub names_from : ℕ → List Name → Parser (List Name)
names_from zero found = refuse
names_from (suc n) found = do
  word ← bare_name
  more ← eat k.Comma
  if more then (λ i. names_from n (found ++ word ∷ []) (newlines i)) else pure (found ++ word ∷ [])

unfoldable pub names : Parser (List Name)
names = λ i. names_from (left i) [] i

unfoldable pub parameters : Parser (List Name)
parameters = do
  expect k.LeftParen
  none ← eat k.RightParen
  if none then pure [] else (do words ← names; expect k.RightParen; pure words)

abbrev pub function_name_by : Kind → Parser Name
function_name_by k.Name = name
function_name_by k.FunctionName = name
function_name_by _ = refuse

unfoldable pub function_name : Parser Name
function_name = peek >>= function_name_by

-- behind `function`
unfoldable pub definition : ℕ → ℕ → Parser Item
definition room place = do
  word ← function_name
  words ← parameters
  (λ i. and_then (action room (of owner.Function) (newlines i)) (λ body. pure (part.Function place word words body)))

-- ---- programs

abbrev pub item_by : ℕ → ℕ → ℕ → Kind → Parser Item
item_by depth room place k.BeginKeyword = take_token >> (do ss ← action room (of owner.BeginOrEnd); pure (part.Begin ss))
item_by depth room place k.EndKeyword = take_token >> (do ss ← action room (of owner.BeginOrEnd); pure (part.End ss))
item_by depth room place k.LeftBrace = do ss ← action room (of owner.Rule); pure (part.Always place ss)
item_by depth room place k.Function = take_token >> definition room place
item_by depth room place _ = rule depth room

unfoldable pub item : ℕ → ℕ → Parser Item
item depth room = λ i. item_by depth room (left i) (kind i) i

-- the text behind its semicolons and newlines; the number bounds the turns
unfoldable pub separators_from : ℕ → Input → Input
separators_from zero i = i
separators_from (suc n) i = if separates (kind i) then separators_from n (next i) else i

unfoldable pub separators : Input → Input
separators i = separators_from (left i) i

-- items up to the end of the text; the number bounds the turns
unfoldable pub items_from : ℕ → ℕ → ℕ → List Item → Parser (List Item)
items_from depth room zero found = λ i. (expect k.EndOfText >> pure found) (separators i)
items_from depth room (suc n) found = λ i.
    if sees k.EndOfText (separators i) then Ok (found, separators i)
    else and_then (item depth room (separators i)) (λ x. items_from depth room n (found ++ x ∷ []))

unfoldable pub items : ℕ → ℕ → Parser (List Item)
items depth room = λ i. items_from depth room (left i) [] i

-- a program, with fewer than `depth` constructs open
unfoldable pub program : ℕ → Parser (List Item)
program zero = too_deep
program (suc room) = items (suc room) room
