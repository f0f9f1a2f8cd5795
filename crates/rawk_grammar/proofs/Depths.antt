-- What is derived within a limit is derived within each higher one.
use Rattle.std.proofs.Common.{ℕ, zero, suc, ◌≤◌, List, Option, arith}
use Rattle.rawk_parsing.specs.declared.tree.Expr.{Expr}
use Rattle.rawk_parsing.specs.Parser.{Input}
use Rattle.rawk_expression.specs.Depths.{deeper as deeper_expression, raised_to}
use Rattle.rawk_grammar.specs.declared.context.Context.{Context}
use Rattle.rawk_grammar.specs.declared.tree.Act.{Act}
use Rattle.rawk_grammar.specs.declared.tree.Condition.{Condition}
use Rattle.rawk_grammar.specs.declared.tree.Head.{Head}
use Rattle.rawk_grammar.specs.declared.tree.Item.{Item}
use Rattle.rawk_grammar.specs.declared.tree.Jump.{Jump}
use Rattle.rawk_grammar.specs.declared.tree.Pattern.{Pattern}
use Rattle.rawk_grammar.specs.declared.tree.Stmt.{Stmt}
use Rattle.rawk_grammar.specs.Grammar.{Acts, evaluate, print_record, print, printf, delete, Jumps, next_record, break_loop, continue_loop, exit, exit_with, return, return_with, Encloses, parentheses, Simply, no_part, part, Tests, no_test, test, Heads, head, Phrase, States, empty, simple, jump, none, more, action, block, choice, last, otherwise, else_if, while_loop, do_loop, count_loop, member_loop}
use Rattle.rawk_grammar.specs.Programs.{Patterns, when, range, Parts, begin, ending, always, rule, bare_rule, function, Texts, finish, part as an_item}
use Rattle.rawk_grammar.specs.Texts.{IsText}

acts : {d : ℕ} {a : Act} {i j : Input} → Acts d a i j → Acts (suc d) a i j
acts (evaluate g) = evaluate (deeper_expression g)
acts (print_record s) = print_record s
acts (print s g) = print s (deeper_expression g)
acts (printf s g) = printf s (deeper_expression g)
acts (delete s e g) = delete s e (deeper_expression g)

jumps : {c : Context} {d : ℕ} {y : Jump} {i j : Input} → Jumps c d y i j → Jumps c (suc d) y i j
jumps (next_record e s) = next_record e s
jumps (break_loop e s) = break_loop e s
jumps (continue_loop e s) = continue_loop e s
jumps (exit s) = exit s
jumps (exit_with s g) = exit_with s (deeper_expression g)
jumps (return e s) = return e s
jumps (return_with e s g) = return_with e s (deeper_expression g)

encloses : {d : ℕ} {t : Condition} {i j : Input} → Encloses d t i j → Encloses (suc d) t i j
encloses (parentheses s g t) = parentheses s (deeper_expression g) t

simply : {d : ℕ} {o : Option Stmt} {i j : Input} → Simply d o i j → Simply (suc d) o i j
simply no_part = no_part
simply (part g) = part (acts g)

tests : {d : ℕ} {o : Option Expr} {i j : Input} → Tests d o i j → Tests (suc d) o i j
tests no_test = no_test
tests (test g) = test (deeper_expression g)

heads : {d : ℕ} {h : Head} {i j : Input} → Heads d h i j → Heads (suc d) h i j
heads (head f s ns t z nt g y) = head (simply f) s ns (tests t) z nt (simply g) y

states : {c : Context} {d : ℕ} {f : Phrase} {i j : Input} → States c d f i j → States c (suc d) f i j
states (empty s) = empty s
states (simple g e) = simple (acts g) e
states (jump g e) = jump (jumps g) e
states (none ns) = none ns
states (more ns g h) = more ns (states g) (states h)
states (action s g t) = action s (states g) t
states (block g) = block (states g)
states (choice s g) = choice s (states g)
states (last t ns g e) = last (encloses t) ns (states g) e
states (otherwise t ns g nt s nu e h) = otherwise (encloses t) ns (states g) nt s nu e (states h)
states (else_if t ns g nt s nu e h) = else_if (encloses t) ns (states g) nt s nu e (states h)
states (while_loop s t ns g) = while_loop s (encloses t) ns (states g)
states (do_loop s ns g nt e t f) = do_loop s ns (states g) nt e (encloses t) f
states (count_loop s e f ns g) = count_loop s e (heads f) ns (states g)
states (member_loop s a b e f g ns h) = member_loop s a b e f g ns (states h)

patterns : {d : ℕ} {p : Pattern} {i j : Input} → Patterns d p i j → Patterns (suc d) p i j
patterns (when g) = when (deeper_expression g)
patterns (range g s ns h) = range (deeper_expression g) s ns (deeper_expression h)

parts : {d : ℕ} {y : Item} {i j : Input} → Parts d y i j → Parts (suc d) y i j
parts (begin s g) = begin s (states g)
parts (ending s g) = ending s (states g)
parts (always g) = always (states g)
parts (rule p g) = rule (patterns p) (states g)
parts (bare_rule p e) = bare_rule (patterns p) e
parts (function s t p ns g) = function s t p ns (states g)

texts : {d : ℕ} {ys : List Item} {i : Input} → Texts d ys i → Texts (suc d) ys i
texts (finish s e) = finish s e
texts (an_item s g h) = an_item s (parts g) (texts h)

pub within : (depth other : ℕ) (ys : List Item) (i : List ℕ) → depth ≤ other → IsText depth ys i → IsText other ys i
within zero other ys i le h = absurd h
within (suc d) zero ys i le h = absurd (omega arith)
within (suc d) (suc e) ys i le h = raised_to (λ n. Texts n ys i) (λ n g. texts g) d e (omega arith) h
