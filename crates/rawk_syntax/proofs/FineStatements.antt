-- What the grammar derives is in order, where names stand for what its mentions ask: statements.
use Rattle.std.proofs.Common.{◌≡◌, ℕ, Bool, true, ◌&&◌, List, [], ◌∷◌, ◌++◌, map, Option, refl, sym, ap, subst, ◌∙◌}
use Rattle.rawk_keywords.specs.declared.token.Kind.TheVariants as k
use Rattle.rawk_lexer.specs.Lex.{kind, left}
use Rattle.rawk_parsing.specs.declared.tree.Expr.{Expr}
use Rattle.rawk_parsing.specs.declared.tree.Name.{Name}
use Rattle.rawk_parsing.specs.declared.tree.Place.{Place}
use Rattle.rawk_parsing.specs.Parser.{Input, name_at}
use Rattle.rawk_expression.specs.Grammar.{Derives, APlace}
use Rattle.rawk_expression.specs.Grammar as by
use Rattle.rawk_grammar.specs.declared.context.Context.{Context}
use Rattle.rawk_grammar.specs.declared.tree.Act.{Act}
use Rattle.rawk_grammar.specs.declared.tree.Branch.{Branch}
use Rattle.rawk_grammar.specs.declared.tree.Condition.{Condition}
use Rattle.rawk_grammar.specs.declared.tree.Head.{Head}
use Rattle.rawk_grammar.specs.declared.tree.Jump.{Jump}
use Rattle.rawk_grammar.specs.declared.tree.Stmt.{Stmt}
use Rattle.rawk_grammar.specs.declared.tree.Stmt.TheVariants as tree
use Rattle.rawk_grammar.specs.Statement.{branch_of, simple_at, condition_at, head_of}
use Rattle.rawk_grammar.specs.Grammar.{Acts, Jumps, Encloses, Simply, Tests, Heads, Phrase, One, Many, Action, Chain, States}
use Rattle.rawk_grammar.specs.Grammar as rule
use Rattle.rawk_names.specs.Mentions.{Mention, AsScalar, AsArray, all, every, seen, place_seen, mentions}
use Rattle.rawk_names.specs.Statements.{act_mentions, jump_mentions, maybe_expr, maybe_statement, deleted, stmt_mentions, branch_mentions, head_mentions}
use Rattle.rawk_names.specs.SeenLaws.{place_seen-Name, place_seen-Element}
use Rattle.rawk_names.specs.StatementLaws.{stmt-Simple, stmt-Jump, stmt-Block, stmt-If, stmt-While, stmt-Do, stmt-For, stmt-ForIn, branch-is, head-is}
use Rattle.rawk_resolution.specs.Meant.{Sense}
use Rattle.rawk_resolution.specs.InOrder.{each, in_order, names_array, names_scalar, formatted, deletes, act_in_order, jump_in_order, maybe_in_order, keys_in_order, stmt_in_order, branch_in_order, other_in_order, head_parts}
use Rattle.rawk_resolution.specs.Orders.{both}
use Rattle.rawk_syntax.proofs.StatementOrders.{name_deletes, element_deletes, empty_is, simple_is, block_is, jump_is, if_is, while_is, do_is, for_is, for_in_is, branch_is}
use Rattle.rawk_syntax.proofs.Meets.{AllMeet, first_meet, last_meet, all_in_order}
use Rattle.rawk_syntax.proofs.FineExprs.{fine, IsSome, printed_some}

-- where the mentions of a part are met it is in order
abbrev pub Holds : Sense → List Mention → Bool → Type 0
Holds m ms b = AllMeet m ms → b ≡ true

pub both_parts : (m : Sense) (ms ns : List Mention) (a b : Bool) → Holds m ms a → Holds m ns b → Holds m (ms ++ ns) (a && b)
both_parts m ms ns a b h g met = both a b (h (first_meet m ms ns met)) (g (last_meet m ms ns met))

moved : (m : Sense) (ms ns : List Mention) (a b : Bool) → ms ≡ ns → a ≡ b → Holds m ns b → Holds m ms a
moved m ms ns a b same is h met = is ∙ h (subst (AllMeet m) same met)

abbrev pub FineStmt : Sense → Stmt → Type 0
FineStmt m s = Holds m (stmt_mentions s) (stmt_in_order m s)

abbrev pub FineStmts : Sense → List Stmt → Type 0
FineStmts m ss = Holds m (every (map stmt_mentions ss)) (each (stmt_in_order m) ss)

abbrev pub FineBranches : Sense → List Branch → Type 0
FineBranches m bs = Holds m (every (map branch_mentions bs)) (each (branch_in_order m) bs)

abbrev pub FineOther : Sense → Option Stmt → Type 0
FineOther m r = Holds m (maybe_statement r) (other_in_order m r)

abbrev pub FineHead : Sense → Head → Type 0
FineHead m h = Holds m (head_mentions h) (head_parts m h)

-- ---- simple statements and jumps

delete_fine : (m : Sense) {d : ℕ} {x : Place} {i j : Input} → Derives d (APlace x) i j → kind i ≡ k.Name → Holds m (deleted (place_seen x)) (deletes m x)
delete_fine m (by.named {i = i} s) first h =
    let met : AllMeet m (AsArray (name_at i) ∷ []) = subst (AllMeet m) (ap deleted (place_seen-Name (name_at i))) h in
    name_deletes m (name_at i) ∙ met.0
delete_fine m (by.element {es = es} {i = i} s t g u) first h =
    let met : AllMeet m (AsArray (name_at i) ∷ all (map seen es)) = subst (AllMeet m) (ap deleted (place_seen-Element (name_at i) es)) h in
    element_deletes m (name_at i) es ∙ both (names_array m (name_at i)) (each (in_order m) es) met.0 (all_in_order m es (fine m g) met.1)
delete_fine m (by.field s g) first h = absurd (let no : k.Dollar ≡ k.Name = sym s.is_kind ∙ first in cc)

formatted_fine : (m : Sense) (es : List Expr) → IsSome es → each (in_order m) es ≡ true → formatted m es ≡ true
formatted_fine m [] some h = absurd some
formatted_fine m (e ∷ es) some h = h

act_fine : (m : Sense) {d : ℕ} {a : Act} {i j : Input} → Acts d a i j → Holds m (act_mentions a) (act_in_order m a)
act_fine m (rule.evaluate {e = e} g) h = (fine m g).fit h
act_fine m (rule.print_record s) h = refl
act_fine m (rule.print {es = es} s g) h = all_in_order m es (fine m g) h
act_fine m (rule.printf {es = es} s g) h = formatted_fine m es (printed_some g) (all_in_order m es (fine m g) h)
act_fine m (rule.delete s first g) h = delete_fine m g first h

jump_fine : (m : Sense) {c : Context} {d : ℕ} {x : Jump} {i j : Input} → Jumps c d x i j → Holds m (jump_mentions x) (jump_in_order m x)
jump_fine m (rule.next_record a s) h = refl
jump_fine m (rule.break_loop a s) h = refl
jump_fine m (rule.continue_loop a s) h = refl
jump_fine m (rule.exit s) h = refl
jump_fine m (rule.exit_with {e = e} s g) h = (fine m g).fit h
jump_fine m (rule.return a s) h = refl
jump_fine m (rule.return_with {e = e} a s g) h = (fine m g).fit h

simple_fine : (m : Sense) {d : ℕ} {a : Act} {i j : Input} → Acts d a i j → FineStmt m (tree.Simple (simple_at (left i) a))
unfolding simple_at
simple_fine m {a = a} {i = i} g =
    moved m (stmt_mentions (tree.Simple (simple_at (left i) a))) (act_mentions a) (stmt_in_order m (tree.Simple (simple_at (left i) a))) (act_in_order m a)
    (stmt-Simple (simple_at (left i) a)) (simple_is m (simple_at (left i) a)) (act_fine m g)

-- ---- heads

condition_fine : (m : Sense) {d : ℕ} {t : Condition} {i j : Input} → Encloses d t i j → Holds m (mentions t.test) (in_order m t.test)
unfolding condition_at
condition_fine m (rule.parentheses {e = e} {j = j} s g t) h = (fine m g).fit h

simply_fine : (m : Sense) {d : ℕ} {r : Option Stmt} {i j : Input} → Simply d r i j → FineOther m r
simply_fine m rule.no_part h = refl
simply_fine m (rule.part g) h = simple_fine m g h

test_fine : (m : Sense) {d : ℕ} {e : Option Expr} {i j : Input} → Tests d e i j → Holds m (maybe_expr e) (maybe_in_order m e)
test_fine m rule.no_test h = refl
test_fine m (rule.test {e = e} g) h = (fine m g).fit h

head_fine : (m : Sense) {d : ℕ} {h : Head} {i j : Input} → Heads d h i j → FineHead m h
unfolding head_of
head_fine m (rule.head {first = first} {last = last} {e = e} {m = n} a s nl b t nm c u) =
    let mentioned = head-is (head_of first (left n) e last) in
    moved m (head_mentions (head_of first (left n) e last)) (maybe_statement first ++ (maybe_expr e ++ maybe_statement last))
    (head_parts m (head_of first (left n) e last)) (other_in_order m first && (maybe_in_order m e && other_in_order m last)) mentioned refl
    (both_parts m (maybe_statement first) (maybe_expr e ++ maybe_statement last) (other_in_order m first) (maybe_in_order m e && other_in_order m last) (simply_fine m a)
    (both_parts m (maybe_expr e) (maybe_statement last) (maybe_in_order m e) (other_in_order m last) (test_fine m b) (simply_fine m c)))

-- ---- statements

branch_fine : (m : Sense) (t : Condition) (s : Stmt) (bs : List Branch) → Holds m (mentions t.test) (in_order m t.test) → FineStmt m s → FineBranches m bs → FineBranches m (branch_of t s ∷ bs)
unfolding branch_of
branch_fine m t s bs a b rest =
    both_parts m (branch_mentions (branch_of t s)) (every (map branch_mentions bs)) (branch_in_order m (branch_of t s)) (each (branch_in_order m) bs)
    (moved m (branch_mentions (branch_of t s)) (mentions t.test ++ stmt_mentions s) (branch_in_order m (branch_of t s)) (in_order m t.test && stmt_in_order m s) (branch-is (branch_of t s)) (branch_is m (branch_of t s))
    (both_parts m (mentions t.test) (stmt_mentions s) (in_order m t.test) (stmt_in_order m s) a b)) rest

if_fine : (m : Sense) (bs : List Branch) (r : Option Stmt) → FineBranches m bs → FineOther m r → FineStmt m (tree.If bs r)
if_fine m bs r a b =
    moved m (stmt_mentions (tree.If bs r)) (every (map branch_mentions bs) ++ maybe_statement r) (stmt_in_order m (tree.If bs r)) (each (branch_in_order m) bs && other_in_order m r) (stmt-If bs r) (if_is m bs r)
    (both_parts m (every (map branch_mentions bs)) (maybe_statement r) (each (branch_in_order m) bs) (other_in_order m r) a b)

while_fine : (m : Sense) (t : Condition) (s : Stmt) → Holds m (mentions t.test) (in_order m t.test) → FineStmt m s → FineStmt m (tree.While t s)
while_fine m t s a b =
    moved m (stmt_mentions (tree.While t s)) (mentions t.test ++ stmt_mentions s) (stmt_in_order m (tree.While t s)) (in_order m t.test && stmt_in_order m s) (stmt-While t s) (while_is m t s)
    (both_parts m (mentions t.test) (stmt_mentions s) (in_order m t.test) (stmt_in_order m s) a b)

do_fine : (m : Sense) (t : Condition) (s : Stmt) → Holds m (mentions t.test) (in_order m t.test) → FineStmt m s → FineStmt m (tree.Do s t)
do_fine m t s a b =
    moved m (stmt_mentions (tree.Do s t)) (stmt_mentions s ++ mentions t.test) (stmt_in_order m (tree.Do s t)) (stmt_in_order m s && in_order m t.test) (stmt-Do s t) (do_is m t s)
    (both_parts m (stmt_mentions s) (mentions t.test) (stmt_in_order m s) (in_order m t.test) b a)

for_fine : (m : Sense) (h : Head) (s : Stmt) → FineHead m h → FineStmt m s → FineStmt m (tree.For h s)
for_fine m h s a b =
    moved m (stmt_mentions (tree.For h s)) (head_mentions h ++ stmt_mentions s) (stmt_in_order m (tree.For h s)) (head_parts m h && stmt_in_order m s) (stmt-For h s) (for_is m h s)
    (both_parts m (head_mentions h) (stmt_mentions s) (head_parts m h) (stmt_in_order m s) a b)

keys_fine : (m : Sense) (at : ℕ) (x y : Name) (s : Stmt) → FineStmt m s → FineStmt m (tree.ForIn at x y s)
keys_fine m at x y s b =
    moved m (stmt_mentions (tree.ForIn at x y s)) (AsScalar x ∷ AsArray y ∷ stmt_mentions s) (stmt_in_order m (tree.ForIn at x y s)) (keys_in_order m x y && stmt_in_order m s) (stmt-ForIn at x y s) (for_in_is m at x y s)
    (λ met. both (keys_in_order m x y) (stmt_in_order m s) (both (names_scalar m x) (names_array m y) met.0 met.1.0) (b met.1.1))

abbrev pub FineStates : Sense → Phrase → Type 0
FineStates m (One s) = FineStmt m s
FineStates m (Many ss) = FineStmts m ss
FineStates m (Action ss) = FineStmts m ss
FineStates m (Chain bs r) = FineBranches m bs × FineOther m r

pub states_fine : (m : Sense) {c : Context} {d : ℕ} {f : Phrase} {i j : Input} → States c d f i j → FineStates m f
states_fine m (rule.empty s) = λ met. empty_is m
states_fine m (rule.simple g e) = simple_fine m g
states_fine m (rule.jump {x = x} {i = i} g e) =
    moved m (stmt_mentions (tree.Jump (left i) x)) (jump_mentions x) (stmt_in_order m (tree.Jump (left i) x)) (jump_in_order m x) (stmt-Jump (left i) x) (jump_is m (left i) x) (jump_fine m g)
states_fine m (rule.none nl) = λ met. refl
states_fine m (rule.more {s = s} {ss = ss} nl g h) = both_parts m (stmt_mentions s) (every (map stmt_mentions ss)) (stmt_in_order m s) (each (stmt_in_order m) ss) (states_fine m g) (states_fine m h)
states_fine m (rule.action s g t) = states_fine m g
states_fine m (rule.block {ss = ss} g) =
    moved m (stmt_mentions (tree.Block ss)) (every (map stmt_mentions ss)) (stmt_in_order m (tree.Block ss)) (each (stmt_in_order m) ss) (stmt-Block ss) (block_is m ss) (states_fine m g)
states_fine m (rule.choice {bs = bs} {r = r} s g) = (let h = states_fine m g in if_fine m bs r h.0 h.1)
states_fine m (rule.last {t = t} {s = s} a nl g alone) = (branch_fine m t s [] (condition_fine m a) (states_fine m g) (λ met. refl), λ met. refl)
states_fine m (rule.otherwise {t = t} {s = s} {r = r} a nl g nm u np ne h) = (branch_fine m t s [] (condition_fine m a) (states_fine m g) (λ met. refl), states_fine m h)
states_fine m (rule.else_if {t = t} {s = s} {bs = bs} a nl g nm u np v h) = (let rest = states_fine m h in (branch_fine m t s bs (condition_fine m a) (states_fine m g) rest.0, rest.1))
states_fine m (rule.while_loop {t = t} {s = s} u a nl g) = while_fine m t s (condition_fine m a) (states_fine m g)
states_fine m (rule.do_loop {t = t} {s = s} u nl g nm v a e) = do_fine m t s (condition_fine m a) (states_fine m g)
states_fine m (rule.count_loop {h = h} {s = s} u v a nl g) = for_fine m h s (head_fine m a) (states_fine m g)
states_fine m (rule.member_loop {s = s} {i = i} {l = l} {n = n} a b c e f g nl h) = keys_fine m (left i) (name_at l) (name_at n) s (states_fine m h)
