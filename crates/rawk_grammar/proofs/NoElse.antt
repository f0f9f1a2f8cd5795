-- Behind a statement that ends in an `if` with no `else` none comes.
use Rattle.std.proofs.Common.{◌≡◌, ℕ, zero, suc, Bool, true, false, cond, List, Option, Some, None, Ok, refl, sym, ap, ◌∙◌}
use Rattle.std.proofs.lemmas.Bool.{false_from_ne_true}
use Rattle.rawk_keywords.specs.declared.token.Kind.TheVariants as k
use Rattle.rawk_lexer.specs.Lex.{next}
use Rattle.rawk_parsing.specs.Parser.{Input, pure, sees, newlines}
use Rattle.rawk_parsing.specs.Steps.{and_then_ok, sees_kind, not_ok, newlines_are}
use Rattle.rawk_parsing.specs.declared.tree.Name.{Name}
use Rattle.rawk_grammar.specs.declared.context.Context.{Context}
use Rattle.rawk_grammar.specs.declared.tree.Simple.{Simple}
use Rattle.rawk_grammar.specs.declared.tree.Jump.{Jump}
use Rattle.rawk_grammar.specs.declared.tree.Condition.{Condition}
use Rattle.rawk_grammar.specs.declared.tree.Head.{Head}
use Rattle.rawk_grammar.specs.declared.tree.Branch.{Branch}
use Rattle.rawk_grammar.specs.declared.tree.Stmt.{Stmt, fold-roll-Stmt}
use Rattle.rawk_grammar.specs.declared.tree.Stmt.TheOpen.{Stmt-F}
use Rattle.rawk_grammar.specs.declared.tree.Stmt.TheVariants as tree
use Rattle.rawk_grammar.specs.Statement as x
use Rattle.rawk_grammar.specs.Statement.{branch_of}
use Rattle.rawk_grammar.specs.Grammar.{NoElse, Phrase, One, Many, Action, Chain, States, empty, simple, jump, none, more, action, block, choice, last, otherwise, else_if, while_loop, do_loop, count_loop, member_loop}
use Rattle.rawk_grammar.specs.Dangling.{dangles_by, no_branch, no_head, dangles, branch_dangles}
use Rattle.rawk_grammar.proofs.Sound.{statement_sound, branch_sound}

-- ---- each kind of statement

pub dangles-Empty : dangles tree.Empty ≡ false
unfolding dangles
dangles-Empty = ap dangles (sym tree.rolls-Empty) ∙ fold-roll-Stmt Bool (Unit {0}) (Unit {0}) dangles_by no_branch no_head Stmt-F.Empty

pub dangles-Simple : (s : Simple) → dangles (tree.Simple s) ≡ false
unfolding dangles
dangles-Simple s = ap dangles (sym (tree.rolls-Simple s)) ∙ fold-roll-Stmt Bool (Unit {0}) (Unit {0}) dangles_by no_branch no_head (Stmt-F.Simple s)

pub dangles-Jump : (n : ℕ) (j : Jump) → dangles (tree.Jump n j) ≡ false
unfolding dangles
dangles-Jump n j = ap dangles (sym (tree.rolls-Jump n j)) ∙ fold-roll-Stmt Bool (Unit {0}) (Unit {0}) dangles_by no_branch no_head (Stmt-F.Jump n j)

pub dangles-Block : (ss : List Stmt) → dangles (tree.Block ss) ≡ false
unfolding dangles
dangles-Block ss = ap dangles (sym (tree.rolls-Block ss)) ∙ fold-roll-Stmt Bool (Unit {0}) (Unit {0}) dangles_by no_branch no_head (Stmt-F.Block ss)

pub dangles-Do : (s : Stmt) (t : Condition) → dangles (tree.Do s t) ≡ false
unfolding dangles
dangles-Do s t = ap dangles (sym (tree.rolls-Do s t)) ∙ fold-roll-Stmt Bool (Unit {0}) (Unit {0}) dangles_by no_branch no_head (Stmt-F.Do s t)

pub dangles-If-None : (bs : List Branch) → dangles (tree.If bs None) ≡ true
unfolding dangles
dangles-If-None bs = ap dangles (sym (tree.rolls-If bs None)) ∙ fold-roll-Stmt Bool (Unit {0}) (Unit {0}) dangles_by no_branch no_head (Stmt-F.If bs None)

pub dangles-If-Some : (bs : List Branch) (s : Stmt) → dangles (tree.If bs (Some s)) ≡ dangles s
unfolding dangles
dangles-If-Some bs s = ap dangles (sym (tree.rolls-If bs (Some s))) ∙ fold-roll-Stmt Bool (Unit {0}) (Unit {0}) dangles_by no_branch no_head (Stmt-F.If bs (Some s))

pub dangles-While : (t : Condition) (s : Stmt) → dangles (tree.While t s) ≡ dangles s
unfolding dangles
dangles-While t s = ap dangles (sym (tree.rolls-While t s)) ∙ fold-roll-Stmt Bool (Unit {0}) (Unit {0}) dangles_by no_branch no_head (Stmt-F.While t s)

pub dangles-For : (h : Head) (s : Stmt) → dangles (tree.For h s) ≡ dangles s
unfolding dangles
dangles-For h s = ap dangles (sym (tree.rolls-For h s)) ∙ fold-roll-Stmt Bool (Unit {0}) (Unit {0}) dangles_by no_branch no_head (Stmt-F.For h s)

pub dangles-ForIn : (n : ℕ) (v a : Name) (s : Stmt) → dangles (tree.ForIn n v a s) ≡ dangles s
unfolding dangles
dangles-ForIn n v a s = ap dangles (sym (tree.rolls-ForIn n v a s)) ∙ fold-roll-Stmt Bool (Unit {0}) (Unit {0}) dangles_by no_branch no_head (Stmt-F.ForIn n v a s)

pub dangles-branch : (t : Condition) (s : Stmt) → branch_dangles (branch_of t s) ≡ dangles s
unfolding branch_dangles branch_of
dangles-branch t s = refl

-- ---- the same of a statement that is known to be one

pub empty_ends : (e : Stmt) → e ≡ tree.Empty → false ≡ dangles e
empty_ends e is = sym (ap dangles is ∙ dangles-Empty)

pub simple_ends : (e : Stmt) (s : Simple) → e ≡ tree.Simple s → false ≡ dangles e
simple_ends e s is = sym (ap dangles is ∙ dangles-Simple s)

pub jump_ends : (e : Stmt) (n : ℕ) (j : Jump) → e ≡ tree.Jump n j → false ≡ dangles e
jump_ends e n j is = sym (ap dangles is ∙ dangles-Jump n j)

pub block_ends : (e : Stmt) (ss : List Stmt) → e ≡ tree.Block ss → false ≡ dangles e
block_ends e ss is = sym (ap dangles is ∙ dangles-Block ss)

pub do_ends : (e s : Stmt) (t : Condition) → e ≡ tree.Do s t → false ≡ dangles e
do_ends e s t is = sym (ap dangles is ∙ dangles-Do s t)

pub if_dangles : (e : Stmt) (bs : List Branch) (r : Option Stmt) → e ≡ tree.If bs r → r ≡ None → true ≡ dangles e
if_dangles e bs r is with_none = sym (ap dangles is ∙ ap (λ q. dangles (tree.If bs q)) with_none ∙ dangles-If-None bs)

pub else_dangles : (e : Stmt) (bs : List Branch) (r : Option Stmt) (s y : Stmt) → e ≡ tree.If bs r → r ≡ Some s → y ≡ s → dangles y ≡ dangles e
else_dangles e bs r s y is with_some same = ap dangles same ∙ sym (ap dangles is ∙ ap (λ q. dangles (tree.If bs q)) with_some ∙ dangles-If-Some bs s)

pub while_dangles : (e : Stmt) (t : Condition) (s y : Stmt) → e ≡ tree.While t s → y ≡ s → dangles y ≡ dangles e
while_dangles e t s y is same = ap dangles same ∙ sym (ap dangles is ∙ dangles-While t s)

pub for_dangles : (e : Stmt) (h : Head) (s y : Stmt) → e ≡ tree.For h s → y ≡ s → dangles y ≡ dangles e
for_dangles e h s y is same = ap dangles same ∙ sym (ap dangles is ∙ dangles-For h s)

pub member_dangles : (e : Stmt) (n : ℕ) (v a : Name) (s y : Stmt) → e ≡ tree.ForIn n v a s → y ≡ s → dangles y ≡ dangles e
member_dangles e n v a s y is same = ap dangles same ∙ sym (ap dangles is ∙ dangles-ForIn n v a s)

-- ---- what is derived

abbrev tail_dangles : Option Stmt → Bool
tail_dangles None = true
tail_dangles (Some s) = dangles s

abbrev phrase_dangles : Phrase → Bool
phrase_dangles (One s) = dangles s
phrase_dangles (Many ss) = false
phrase_dangles (Action ss) = false
phrase_dangles (Chain bs r) = tail_dangles r

dangles-If : (bs : List Branch) (r : Option Stmt) → dangles (tree.If bs r) ≡ tail_dangles r
dangles-If bs None = dangles-If-None bs
dangles-If bs (Some s) = dangles-If-Some bs s

never : {X : Type 0} (b : Bool) → b ≡ false → b ≡ true → X
never b e h = let no : true ≡ false = sym h ∙ e in cc

pub no_else_behind : {c : Context} {d : ℕ} {p : Phrase} {i j : Input} → States c d p i j → phrase_dangles p ≡ true → NoElse j
no_else_behind (empty s) h = never _ dangles-Empty h
no_else_behind (simple a e) h = never _ (dangles-Simple _) h
no_else_behind (jump a e) h = never _ (dangles-Jump _ _) h
no_else_behind (none n) h = never _ refl h
no_else_behind (more n s ss) h = never _ refl h
no_else_behind (action a b c) h = never _ refl h
no_else_behind (block a) h = never _ (dangles-Block _) h
no_else_behind (choice s t) h = no_else_behind t (sym (dangles-If _ _) ∙ h)
no_else_behind (last a b s n) h = n
no_else_behind (otherwise a b s e f g n r) h = no_else_behind r h
no_else_behind (else_if a b s e f g n r) h = no_else_behind r h
no_else_behind (while_loop a b e r) h = no_else_behind r (sym (dangles-While _ _) ∙ h)
no_else_behind (do_loop a b s e f g n) h = never _ (dangles-Do _ _) h
no_else_behind (count_loop a b e f r) h = no_else_behind r (sym (dangles-For _ _) ∙ h)
no_else_behind (member_loop a b e f g n o r) h = no_else_behind r (sym (dangles-ForIn _ _ _ _) ∙ h)

pub unseen : (i : Input) → NoElse i → sees k.Else (newlines i) ≡ false
unseen i n = false_from_ne_true (sees k.Else (newlines i)) (λ q. n (newlines i) (newlines_are i) (sees_kind k.Else (newlines i) q))

no_branch_at_zero : (c : Context) (i : Input) (r : Branch × Input) {X : Type 0} → x.branch zero (x.statement zero) c i ≡ Ok r → X
unfolding x.branch x.statement
no_branch_at_zero c i r h =
    let a = and_then_ok (x.condition zero i) _ r h in
    let t = and_then_ok (x.statement zero c a.0.1) (λ s. pure (branch_of a.0.0 s)) r a.2 in
    not_ok _ t.0 t.1

-- behind a branch whose body ends so, no `else` is found
pub none_found : (d : ℕ) (c : Context) (i j : Input) (b : Branch) → x.branch d (x.statement d) c i ≡ Ok (b, j) → branch_dangles b ≡ true → x.other j ≡ Ok (false, j)
unfolding x.other
none_found zero c i j b h e = no_branch_at_zero c i (b, j) h
none_found (suc d) c i j b h e =
    let g = branch_sound d (x.statement (suc d)) (statement_sound d) c i (b, j) h in
    let f : dangles g.1 ≡ true = sym (dangles-branch g.0 g.1) ∙ ap branch_dangles g.3 ∙ e in
    ap (λ q. cond q (Ok (true, newlines (next (newlines j)))) (Ok (false, j))) (unseen j (no_else_behind g.5 f))
