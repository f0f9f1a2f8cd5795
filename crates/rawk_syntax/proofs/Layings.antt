-- The steps of settling statements and items, over plain variables.
use Rattle.std.proofs.Common.{◌≡◌, ℕ, ◌+◌, ◌-◌, ◌<◌, suc, List, [], ◌∷◌, ◌++◌, length, take, get_or, Option, None, Some, Result, Ok, Err, IfOk, OnOk, refl, sym, ap, subst, ◌∙◌, pos, arith}
use Rattle.std.proofs.lemmas.List.{take_more}
use Rattle.std.specs.Global.{Box, Vec}
use Rattle.rawk_parsing.specs.declared.tree.Expr as parsed
use Rattle.rawk_parsing.specs.declared.tree.Place as spot
use Rattle.rawk_grammar.specs.declared.tree.Act.TheVariants as act
use Rattle.rawk_grammar.specs.declared.tree.Simple.{Simple}
use Rattle.rawk_grammar.specs.declared.tree.Jump.{Jump}
use Rattle.rawk_grammar.specs.declared.tree.Jump.TheVariants as jump
use Rattle.rawk_grammar.specs.declared.tree.Condition.{Condition}
use Rattle.rawk_grammar.specs.declared.tree.Branch as branching
use Rattle.rawk_grammar.specs.declared.tree.Head.{Head}
use Rattle.rawk_grammar.specs.declared.tree.Stmt as step
use Rattle.rawk_grammar.specs.declared.tree.Stmt.TheVariants as from
use Rattle.rawk_grammar.specs.declared.tree.Pattern.{Pattern}
use Rattle.rawk_grammar.specs.declared.tree.Pattern.TheVariants as guard
use Rattle.rawk_grammar.specs.declared.tree.Action.{Action}
use Rattle.rawk_grammar.specs.declared.tree.Action.TheVariants as does
use Rattle.rawk_grammar.specs.declared.tree.Item.{Item}
use Rattle.rawk_grammar.specs.declared.tree.Item.TheVariants as part
use Rattle.rawk_grammar.specs.Statement.{simple_at}
use Rattle.rawk_tree.specs.declared.tree.Expr.{Expr}
use Rattle.rawk_tree.specs.declared.tree.Stmt.{Stmt}
use Rattle.rawk_tree.specs.declared.tree.Stmt.TheVariants as tree
use Rattle.rawk_tree.specs.declared.tree.Branch.{Branch}
use Rattle.rawk_tree.specs.declared.tree.Function.{Function}
use Rattle.rawk_tree.specs.declared.tree.Kind.{Kind}
use Rattle.rawk_tree.specs.declared.tree.Scalar.{Scalar}
use Rattle.rawk_words.specs.declared.array.Array.{Array}
use Rattle.rawk_tree.specs.declared.tree.Expr.TheVariants as expr
use Rattle.rawk_tree.specs.declared.tree.Guard.{Guard}
use Rattle.rawk_tree.specs.declared.tree.Guard.TheVariants as tree_guard
use Rattle.rawk_tree.specs.declared.tree.Rule.{Rule}
use Rattle.rawk_parsing.specs.declared.tree.Name.{Name}
use Rattle.rawk_tree.specs.declared.tree.Program.{Program}
use Rattle.rawk_resolution.specs.Meant.{Sense}
use Rattle.rawk_resolution.specs.Settled.{Settles, AnExpr, SomeExprs, Prints}
use Rattle.rawk_syntax.specs.Laid as spec
use Rattle.rawk_syntax.specs.Laid.{Adds, sited, rule_of, ranges_of, words_of, Deletes, Simply, Exits, Returns, Jumps, Tests, Lays, AStmt, SomeStmts, AnOther, SomeBranches, Does, Guards, Rules, Defines, IsLaidWith}

simple_is : (x : Simple) → x ≡ simple_at x.left x.act
unfolding simple_at
simple_is x = refl

pub evaluates : (means : Sense) (text : List ℕ) (x : Simple) (e y : parsed.Expr) (s : Expr) (n : ℕ) (old new : List ℕ)
    → x.act ≡ act.Evaluate e → y ≡ e → n ≡ length old → new ≡ sited text x.left old → Settles means (AnExpr y s) → Simply text means x (tree.Do n s) old new
evaluates means text x e y s n old new is same count lines h =
    let g : Settles means (AnExpr e s) = subst (λ (z : parsed.Expr). Settles means (AnExpr z s)) same h in
    let k : simple_at x.left (act.Evaluate e) ≡ x = sym (simple_is x ∙ ap (simple_at x.left) is) in
    let whole : Simply text means (simple_at x.left (act.Evaluate e)) (tree.Do (length old) s) old (sited text x.left old) = spec.evaluate x.left e g in
    let counted : Simply text means (simple_at x.left (act.Evaluate e)) (tree.Do n s) old new = rw (count, lines) whole in
    subst (λ z. Simply text means z (tree.Do n s) old new) k counted

pub prints : (means : Sense) (text : List ℕ) (x : Simple) (es ys : List parsed.Expr) (ss : Vec Expr) (n : ℕ) (old new : List ℕ)
    → x.act ≡ act.Print es → ys ≡ es → n ≡ length old → new ≡ sited text x.left old → Prints means ys ss.items → Simply text means x (tree.Print n ss) old new
prints means text x es ys ss n old new is same count lines h =
    let g : Prints means es ss.items = subst (λ (z : List parsed.Expr). Prints means z ss.items) same h in
    let k : simple_at x.left (act.Print es) ≡ x = sym (simple_is x ∙ ap (simple_at x.left) is) in
    let whole : Simply text means (simple_at x.left (act.Print es)) (tree.Print (length old) ss) old (sited text x.left old) = spec.print x.left es ss g in
    let counted : Simply text means (simple_at x.left (act.Print es)) (tree.Print n ss) old new = rw (count, lines) whole in
    subst (λ z. Simply text means z (tree.Print n ss) old new) k counted

pub printfs : (means : Sense) (text : List ℕ) (x : Simple) (es ys : List parsed.Expr) (s : Expr) (ss : Vec Expr) (n : ℕ) (old new : List ℕ)
    → x.act ≡ act.Printf es → ys ≡ es → n ≡ length old → new ≡ sited text x.left old → Settles means (SomeExprs ys (s ∷ ss.items)) → Simply text means x (tree.Printf n s ss) old new
printfs means text x es ys s ss n old new is same count lines h =
    let g : Settles means (SomeExprs es (s ∷ ss.items)) = subst (λ (z : List parsed.Expr). Settles means (SomeExprs z (s ∷ ss.items))) same h in
    let k : simple_at x.left (act.Printf es) ≡ x = sym (simple_is x ∙ ap (simple_at x.left) is) in
    let whole : Simply text means (simple_at x.left (act.Printf es)) (tree.Printf (length old) s ss) old (sited text x.left old) = spec.printf x.left es ss g in
    let counted : Simply text means (simple_at x.left (act.Printf es)) (tree.Printf n s ss) old new = rw (count, lines) whole in
    subst (λ z. Simply text means z (tree.Printf n s ss) old new) k counted

pub delete_lays : (means : Sense) {E : Type 0} (r : Result Stmt E) (text : List ℕ) (x : Simple) (p : spot.Place) (n : ℕ) (old new : List ℕ)
    → x.act ≡ act.Delete p → n ≡ length old → new ≡ sited text x.left old → IfOk r (λ t. Deletes means n p t) → IfOk r (λ t. Simply text means x t old new)
delete_lays means (Ok t) text x p n old new is count lines h =
    let g : Deletes means (length old) p t = subst (λ k. Deletes means k p t) count h in
    let k : simple_at x.left (act.Delete p) ≡ x = sym (simple_is x ∙ ap (simple_at x.left) is) in
    let whole : Simply text means (simple_at x.left (act.Delete p)) t old (sited text x.left old) = spec.delete x.left g in
    let counted : Simply text means (simple_at x.left (act.Delete p)) t old new = rw lines whole in
    subst (λ z. Simply text means z t old new) k counted
delete_lays means (Err f) text x p n old new is count lines h = tt

pub empty_lays : (means : Sense) (text : List ℕ) (s : step.Stmt) (ts : Vec Stmt) (m : List ℕ) → s ≡ from.Empty → ts.items ≡ [] → Lays text means (AStmt s (tree.Block ts)) m m
empty_lays means text s ts m is none = rw is (spec.empty ts none)

pub simple_lays : (means : Sense) {E : Type 0} (r : Result Stmt E) (text : List ℕ) (s : step.Stmt) (x y : Simple) (m n : List ℕ) → s ≡ from.Simple x → y ≡ x → IfOk r (λ t. Simply text means y t m n) → IfOk r (λ t. Lays text means (AStmt s t) m n)
simple_lays means (Ok t) text s x y m n is same h = let g : Simply text means x t m n = subst (λ z. Simply text means z t m n) same h in rw is (spec.simple g)
simple_lays means (Err e) text s x y m n is same h = tt

pub block_lays : (means : Sense) (text : List ℕ) (s : step.Stmt) (ss zs : List step.Stmt) (ts : Vec Stmt) (m n : List ℕ) → s ≡ from.Block ss → zs ≡ ss → Lays text means (SomeStmts zs ts.items) m n → Lays text means (AStmt s (tree.Block ts)) m n
block_lays means text s ss zs ts m n is same h = let g : Lays text means (SomeStmts ss ts.items) m n = subst (λ (z : List step.Stmt). Lays text means (SomeStmts z ts.items) m n) same h in rw is (spec.block ts g)

pub boxed_lays : (means : Sense) {E : Type 0} (text : List ℕ) (x : step.Stmt) (t : Stmt) (m n : List ℕ) (q : Result (Box Stmt) E) → IfOk q (λ b. b.value ≡ t) → Lays text means (AStmt x t) m n → IfOk q (λ b. Lays text means (AStmt x b.value) m n)
boxed_lays means text x t m n (Ok b) held h = subst (λ (v : Stmt). Lays text means (AStmt x v) m n) (sym held) h
boxed_lays means text x t m n (Err e) held h = tt

pub more_lays : (means : Sense) (text u : List ℕ) (xs : List step.Stmt) (i : ℕ) (x y : step.Stmt) (ts zs : List Stmt) (t : Stmt) (m n o : List ℕ)
    → i < length xs → x ≡ get_or xs i x → y ≡ x → u ≡ text → zs ≡ ts ++ t ∷ [] → Lays text means (SomeStmts (take i xs) ts) m n → Lays u means (AStmt y t) n o → Lays text means (SomeStmts (take (i + 1) xs) zs) m o
more_lays means text u xs i x y ts zs t m n o h at same there more g f =
    let k : Lays text means (AStmt x t) n o = subst (λ (z : step.Stmt). Lays text means (AStmt z t) n o) same (subst (λ v. Lays v means (AStmt y t) n o) there f) in
    let e : take (i + 1) xs ≡ take i xs ++ x ∷ [] = take_more xs i x h ∙ ap (λ z. take i xs ++ z ∷ []) (sym at) in
    rw (e, more) (spec.a_statement g k)

-- ---- jumps, conditions, choices and loops

pub jump_lays : (means : Sense) {E : Type 0} (r : Result Stmt E) (text : List ℕ) (s : step.Stmt) (left : ℕ) (j k : Jump) (m n : List ℕ) → s ≡ from.Jump left j → k ≡ j → IfOk r (λ t. Jumps text means left k t m n) → IfOk r (λ t. Lays text means (AStmt s t) m n)
jump_lays means (Ok t) text s left j k m n is same h = let g : Jumps text means left j t m n = subst (λ z. Jumps text means left z t m n) same h in rw is (spec.jumping left g)
jump_lays means (Err e) text s left j k m n is same h = tt

pub breaks : (means : Sense) (text : List ℕ) (left : ℕ) (j : Jump) (n : ℕ) (old new : List ℕ) → j ≡ jump.Break → n ≡ length old → new ≡ sited text left old → Jumps text means left j (tree.Break n) old new
breaks means text left j n old new is count lines = rw (is, count, lines) (spec.breaks left)

pub continues : (means : Sense) (text : List ℕ) (left : ℕ) (j : Jump) (n : ℕ) (old new : List ℕ) → j ≡ jump.Continue → n ≡ length old → new ≡ sited text left old → Jumps text means left j (tree.Continue n) old new
continues means text left j n old new is count lines = rw (is, count, lines) (spec.continues left)

pub goes_next : (means : Sense) (text : List ℕ) (left : ℕ) (j : Jump) (n : ℕ) (old new : List ℕ) → j ≡ jump.Next → n ≡ length old → new ≡ sited text left old → Jumps text means left j (tree.Next n) old new
goes_next means text left j n old new is count lines = rw (is, count, lines) (spec.goes_next left)

pub bare_exit : (means : Sense) (site : ℕ) (o : Option parsed.Expr) → o ≡ None → Exits means site o (tree.Exit site)
bare_exit means site o is = rw is (spec.bare site)

pub status_exit : (means : Sense) (site : ℕ) (o : Option parsed.Expr) (e y : parsed.Expr) (s : Expr) → o ≡ Some e → y ≡ e → Settles means (AnExpr y s) → Exits means site o (tree.ExitWith site s)
status_exit means site o e y s is same h = let g : Settles means (AnExpr e s) = subst (λ (z : parsed.Expr). Settles means (AnExpr z s)) same h in rw is (spec.with_status site g)

pub exit_jumps : (means : Sense) {E : Type 0} (r : Result Stmt E) (text : List ℕ) (left : ℕ) (j : Jump) (o : Option parsed.Expr) (n : ℕ) (old new : List ℕ) → j ≡ jump.Exit o → n ≡ length old → new ≡ sited text left old → IfOk r (λ t. Exits means n o t) → IfOk r (λ t. Jumps text means left j t old new)
exit_jumps means (Ok t) text left j o n old new is count lines h = let g : Exits means (length old) o t = subst (λ k. Exits means k o t) count h in rw (is, lines) (spec.exits left g)
exit_jumps means (Err e) text left j o n old new is count lines h = tt

pub no_return_value : (means : Sense) (site : ℕ) (o : Option parsed.Expr) → o ≡ None → Returns means site o (tree.Return site)
no_return_value means site o is = rw is (spec.no_value site)

pub return_value : (means : Sense) (site : ℕ) (o : Option parsed.Expr) (e y : parsed.Expr) (s : Expr) → o ≡ Some e → y ≡ e → Settles means (AnExpr y s) → Returns means site o (tree.ReturnWith site s)
return_value means site o e y s is same h = let g : Settles means (AnExpr e s) = subst (λ (z : parsed.Expr). Settles means (AnExpr z s)) same h in rw is (spec.with_value site g)

pub return_jumps : (means : Sense) {E : Type 0} (r : Result Stmt E) (text : List ℕ) (left : ℕ) (j : Jump) (o : Option parsed.Expr) (n : ℕ) (old new : List ℕ) → j ≡ jump.Return o → n ≡ length old → new ≡ sited text left old → IfOk r (λ t. Returns means n o t) → IfOk r (λ t. Jumps text means left j t old new)
return_jumps means (Ok t) text left j o n old new is count lines h = let g : Returns means (length old) o t = subst (λ k. Returns means k o t) count h in rw (is, lines) (spec.returns left g)
return_jumps means (Err e) text left j o n old new is count lines h = tt

pub missing_tests : (means : Sense) (o : Option parsed.Expr) → o ≡ None → Tests means o (expr.Number (pos 1))
missing_tests means o is = rw is spec.missing_test

pub given_tests : (means : Sense) {E : Type 0} (r : Result Expr E) (o : Option parsed.Expr) (e y : parsed.Expr) → o ≡ Some e → y ≡ e → IfOk r (λ s. Settles means (AnExpr y s)) → IfOk r (λ s. Tests means o s)
given_tests means (Ok s) o e y is same h = let g : Settles means (AnExpr e s) = subst (λ (z : parsed.Expr). Settles means (AnExpr z s)) same h in rw is (spec.given_test g)
given_tests means (Err f) o e y is same h = tt

-- what was settled behind other sites, of the same text
pub moved : (means : Sense) (text u : List ℕ) (pair : spec.Pair) (m l n : List ℕ) → u ≡ text → l ≡ m → Lays u means pair l n → Lays text means pair m n
moved means text u pair m l n there lines h = subst (λ v. Lays text means pair v n) lines (subst (λ v. Lays v means pair l n) there h)

pub while_lays : (means : Sense) (text u : List ℕ) (c : Condition) (x : step.Stmt) (e : Expr) (b : Box Stmt) (k : ℕ) (m l n : List ℕ)
    → k ≡ length m → Settles means (AnExpr c.test e) → l ≡ sited text c.left m → u ≡ text → Lays u means (AStmt x b.value) l n → Lays text means (AStmt (from.While c x) (tree.While k e b)) m n
while_lays means text u c x e b k m l n count h lines there f = rw count (spec.repeats b h (moved means text u (AStmt x b.value) (sited text c.left m) l n there lines f))

pub do_lays : (means : Sense) (text u : List ℕ) (c : Condition) (x : step.Stmt) (e : Expr) (b : Box Stmt) (k : ℕ) (m l n : List ℕ)
    → k ≡ length l → u ≡ text → Settles means (AnExpr c.test e) → n ≡ sited u c.left l → Lays text means (AStmt x b.value) m l → Lays text means (AStmt (from.Do x c) (tree.DoWhile b k e)) m n
do_lays means text u c x e b k m l n count there h lines f =
    let to_is : n ≡ sited text c.left l = lines ∙ ap (λ v. sited v c.left l) there in
    rw (count, to_is) (spec.repeats_behind b f h)

pub for_lays : (means : Sense) (text u v w : List ℕ) (h : Head) (x : step.Stmt) (e : Expr) (first step b : Box Stmt) (k : ℕ) (m n p o q : List ℕ)
    → k ≡ length n → u ≡ text → v ≡ text → w ≡ text → Lays text means (AnOther h.first first.value) m n → Tests means h.test e → p ≡ sited u h.left n → Lays v means (AnOther h.last step.value) p o → Lays w means (AStmt x b.value) o q
    → Lays text means (AStmt (from.For h x) (tree.For first k e step b)) m q
for_lays means text u v w h x e first step b k m n p o q count there_u there_v there_w f g lines l d =
    let from_is : p ≡ sited text h.left n = lines ∙ ap (λ x. sited x h.left n) there_u in
    let last : Lays text means (AnOther h.last step.value) (sited text h.left n) o = moved means text v (AnOther h.last step.value) (sited text h.left n) p o there_v from_is l in
    rw count (spec.counts h first step b f g last (moved means text w (AStmt x b.value) o o q there_w refl d))

pub for_in_lays : (means : Sense) (text u : List ℕ) (left : ℕ) (x y : Name) (s : step.Stmt) (v : Scalar) (a : Array) (b : Box Stmt) (k : ℕ) (m l n : List ℕ)
    → k ≡ length m → l ≡ sited text left m → u ≡ text → means.scalar x.word ≡ Some v → means.array y.word ≡ Some a → Lays u means (AStmt s b.value) l n → Lays text means (AStmt (from.ForIn left x y s) (tree.ForIn k v a b)) m n
for_in_lays means text u left x y s v a b k m l n count lines there taker array f = rw count (spec.visits left b taker array (moved means text u (AStmt s b.value) (sited text left m) l n there lines f))

pub if_lays : (means : Sense) (text u : List ℕ) (s : step.Stmt) (bs ys : List branching.Branch) (other : Option step.Stmt) (cs : Vec Branch) (t : Box Stmt) (m l n : List ℕ)
    → s ≡ from.If bs other → ys ≡ bs → u ≡ text → Lays text means (SomeBranches ys cs.items) m l → Lays u means (AnOther other t.value) l n → Lays text means (AStmt s (tree.If cs t)) m n
if_lays means text u s bs ys other cs t m l n is same there h f =
    let g : Lays text means (SomeBranches bs cs.items) m l = subst (λ (z : List branching.Branch). Lays text means (SomeBranches z cs.items) m l) same h in
    rw is (spec.choice cs t g (moved means text u (AnOther other t.value) l l n there refl f))

pub nothing_boxed : {E : Type 0} (q : Result (Box Stmt) E) (ts : Vec Stmt) → ts.items ≡ [] → IfOk q (λ b. b.value ≡ tree.Block ts) → IfOk q (λ b. (us : Vec Stmt) × (us.items ≡ []) × (b.value ≡ tree.Block us))
nothing_boxed (Ok b) ts none is = (ts, none, is)
nothing_boxed (Err e) ts none is = tt

pub absent_lays : (means : Sense) {E : Type 0} (r : Result (Box Stmt) E) (text : List ℕ) (o : Option step.Stmt) (m : List ℕ) → o ≡ None → IfOk r (λ b. (ts : Vec Stmt) × (ts.items ≡ []) × (b.value ≡ tree.Block ts)) → IfOk r (λ b. Lays text means (AnOther o b.value) m m)
absent_lays means (Ok b) text o m is h = rw (is, h.2) (spec.absent h.0 h.1)
absent_lays means (Err d) text o m is h = tt

pub other_made : (means : Sense) {E : Type 0} (r : Result (Box Stmt) E) (text : List ℕ) (o : Option step.Stmt) (x y : step.Stmt) (m n : List ℕ) → o ≡ Some x → y ≡ x → IfOk r (λ b. Lays text means (AStmt y b.value) m n) → IfOk r (λ b. Lays text means (AnOther o b.value) m n)
other_made means (Ok b) text o x y m n is same h = let g : Lays text means (AStmt x b.value) m n = subst (λ (z : step.Stmt). Lays text means (AStmt z b.value) m n) same h in rw is (spec.present g)
other_made means (Err _) text o x y m n is same h = tt

pub more_branches : (means : Sense) (text u : List ℕ) (xs : List branching.Branch) (i : ℕ) (x y : branching.Branch) (cs zs : List Branch) (c : Branch) (m n o : List ℕ)
    → i < length xs → x ≡ get_or xs i x → y ≡ x → u ≡ text → zs ≡ cs ++ c ∷ [] → Lays text means (SomeBranches (take i xs) cs) m n → c.site ≡ length n → Settles means (AnExpr y.condition.test c.test)
    → Lays u means (AStmt y.body c.body) (sited u y.condition.left n) o → Lays text means (SomeBranches (take (i + 1) xs) zs) m o
more_branches means text u xs i x y cs zs c m n o h at same there more g site test f =
    let e : take (i + 1) xs ≡ take i xs ++ y ∷ [] = take_more xs i x h ∙ ap (λ z. take i xs ++ z ∷ []) (sym at ∙ sym same) in
    let k : Lays text means (AStmt y.body c.body) (sited text y.condition.left n) o = subst (λ v. Lays v means (AStmt y.body c.body) (sited v y.condition.left n) o) there f in
    rw (e, more) (spec.a_branch y c g site test k)

-- the body of a branch behind its condition
pub branch_body : (means : Sense) (text u : List ℕ) (s x : step.Stmt) (c d : Condition) (t : Stmt) (l m n : List ℕ) → u ≡ text → x ≡ s → d ≡ c → l ≡ sited text d.left m → Lays u means (AStmt x t) l n → Lays text means (AStmt s t) (sited text c.left m) n
branch_body means text u s x c d t l m n there same test lines h =
    moved means text u (AStmt s t) (sited text c.left m) l n there (lines ∙ ap (λ (z : Condition). sited text z.left m) test) (subst (λ (z : step.Stmt). Lays u means (AStmt z t) l n) same h)

-- ---- actions and rules

pub missing_does : (means : Sense) (text : List ℕ) (x : Action) (left : ℕ) (none : List parsed.Expr) (ss : Vec Expr) (n : ℕ) (old new : List ℕ)
    → x ≡ does.Missing left → none ≡ [] → n ≡ length old → new ≡ sited text left old → Prints means none ss.items → Does text means x (tree.Print n ss) old new
missing_does means text x left none ss n old new is bare count lines h =
    let g : Prints means [] ss.items = subst (λ (z : List parsed.Expr). Prints means z ss.items) bare h in
    rw (is, count, lines) (spec.missing left ss g)

pub given_does : (means : Sense) (text : List ℕ) (x : Action) (ss zs : List step.Stmt) (ts : Vec Stmt) (m n : List ℕ) → x ≡ does.Given ss → zs ≡ ss → Lays text means (SomeStmts zs ts.items) m n → Does text means x (tree.Block ts) m n
given_does means text x ss zs ts m n is same h = let g : Lays text means (SomeStmts ss ts.items) m n = subst (λ (z : List step.Stmt). Lays text means (SomeStmts z ts.items) m n) same h in rw is (spec.given ts g)

pub tests_guard : (means : Sense) (ranges : ℕ) (text : List ℕ) (p : Pattern) (left : ℕ) (e y : parsed.Expr) (s : Expr) (old new : List ℕ)
    → p ≡ guard.When left e → y ≡ e → new ≡ sited text left old → Settles means (AnExpr y s) → Guards text means ranges p (tree_guard.When s) old new
tests_guard means ranges text p left e y s old new is same lines h =
    let g : Settles means (AnExpr e s) = subst (λ (z : parsed.Expr). Settles means (AnExpr z s)) same h in
    rw (is, lines) (spec.tests left g)

pub bounds_guard : (means : Sense) (ranges : ℕ) (s u : Expr) (text : List ℕ) (p : Pattern) (left : ℕ) (e y f z : parsed.Expr) (old new : List ℕ)
    → p ≡ guard.Range left e f → y ≡ e → z ≡ f → new ≡ sited text left old → Settles means (AnExpr y s) → Settles means (AnExpr z u) → Guards text means ranges p (tree_guard.Between ranges s u) old new
bounds_guard means ranges s u text p left e y f z old new is same other lines h g =
    let h' : Settles means (AnExpr e s) = subst (λ (v : parsed.Expr). Settles means (AnExpr v s)) same h in
    let g' : Settles means (AnExpr f u) = subst (λ (v : parsed.Expr). Settles means (AnExpr v u)) other g in
    rw (is, lines) (spec.bounds left h' g')

abbrev ruled : ℕ → Guard → Stmt → Rule
ruled site g action = record { site = site; guard = g; action = action }

guarded : (means : Sense) (ranges : ℕ) (text : List ℕ) (p : Pattern) (g : Guard) (x : Action) (t : Stmt) (old new m : List ℕ) → Guards text means ranges p g old new → Does text means x t new m → Rules text means ranges p x (ruled (length old) g t) old m
guarded means ranges text p g x t old new m (spec.tests left h) d = spec.when left h d
guarded means ranges text p g x t old new m (spec.bounds left h f) d = spec.between left h f d

pub rule_made : (means : Sense) {A E : Type 0} (ranges : ℕ) (q : Result A E) (text u : List ℕ) (p : Pattern) (g : Guard) (x : Action) (t : Stmt) (n : ℕ) (old new m : List ℕ) (rules more : List Rule)
    → n ≡ length old → u ≡ text → Guards text means ranges p g old new → Does u means x t new m → OnOk q (more ≡ rules ++ ruled n g t ∷ []) → OnOk q (Adds (λ z. Rules text means ranges p x z old m) rules more)
rule_made means ranges (Ok a) text u p g x t n old new m rules more count there h d last =
    let d' : Does text means x t new m = subst (λ v. Does v means x t new m) there d in
    (ruled (length old) g t, guarded means ranges text p g x t old new m h d', last ∙ ap (λ k. rules ++ ruled k g t ∷ []) count)
rule_made means ranges (Err e) text u p g x t n old new m rules more count there h d last = tt

pub always_made : (means : Sense) {A E : Type 0} (q : Result A E) (text u : List ℕ) (left : ℕ) (ss : List step.Stmt) (ts : Vec Stmt) (n : ℕ) (old new m : List ℕ) (rules more : List Rule)
    → n ≡ length old → new ≡ sited text left old → u ≡ text → Lays u means (SomeStmts ss ts.items) new m → OnOk q (more ≡ rules ++ rule_of n (expr.Number (pos 1)) (tree.Block ts) ∷ [])
    → OnOk q (Adds (λ z. (z ≡ rule_of (length old) (expr.Number (pos 1)) z.action) × Does text means (does.Given ss) z.action (sited text left old) m) rules more)
always_made means (Ok a) text u left ss ts n old new m rules more count lines there h last =
    (rule_of (length old) (expr.Number (pos 1)) (tree.Block ts), (refl, spec.given ts (moved means text u (SomeStmts ss ts.items) (sited text left old) new m there lines h)), last ∙ ap (λ k. rules ++ rule_of k (expr.Number (pos 1)) (tree.Block ts) ∷ []) count)
always_made means (Err e) text u left ss ts n old new m rules more count lines there h last = tt

pub block_made : (means : Sense) {A E : Type 0} (q : Result A E) (text : List ℕ) (ss : List step.Stmt) (ts : Vec Stmt) (m n : List ℕ) (blocks more : List Stmt)
    → Lays text means (SomeStmts ss ts.items) m n → OnOk q (more ≡ blocks ++ tree.Block ts ∷ []) → OnOk q (Adds (λ t. Does text means (does.Given ss) t m n) blocks more)
block_made means (Ok a) text ss ts m n blocks more h last = (tree.Block ts, spec.given ts h, last)
block_made means (Err e) text ss ts m n blocks more h last = tt

-- the block that is done where one is given
given_is : (means : Sense) (text : List ℕ) (ss : List step.Stmt) (t : Stmt) (m n : List ℕ) → Does text means (does.Given ss) t m n → (ts : Vec Stmt) × (t ≡ tree.Block ts) × Lays text means (SomeStmts ss ts.items) m n
given_is means text ss t m n (spec.given ts h) = (ts, refl, h)

pub defined : (means : Sense) {A E : Type 0} (q : Result A E) (text u : List ℕ) (number left : ℕ) (name : Name) (parameters : List Name) (ss : List step.Stmt) (word : List ℕ) (words : Vec (List ℕ)) (kinds : Vec Kind) (ts : Vec Stmt) (k : ℕ) (old new m : List ℕ) (functions more : List Function)
    → word ≡ name.word → words.items ≡ words_of parameters → kinds.items ≡ means.kinds number → k ≡ length old → new ≡ sited text left old → u ≡ text → Lays u means (SomeStmts ss ts.items) new m
    → OnOk q (more ≡ functions ++ record { name = word; parameters = words; kinds = kinds; site = k; body = tree.Block ts } ∷ []) → OnOk q (Adds (λ f. Defines text means number left name parameters ss f old m) functions more)
defined means (Ok a) text u number left name parameters ss word words kinds ts k old new m functions more called takes are count lines there h last = (
  record { name = word; parameters = words; kinds = kinds; site = k; body = tree.Block ts },
  record { called = called; takes = takes; kinds = are; site = count; steps = ts; block = refl; body = moved means text u (SomeStmts ss ts.items) (sited text left old) new m there lines h },
  last,
)
defined means (Err e) text u number left name parameters ss word words kinds ts k old new m functions more called takes are count lines there h last = tt

-- ---- items

pub begin_laid : (means : ℕ → Sense) {A E : Type 0} (r : Result A E) (text : List ℕ) (x : Item) (ss zs : List step.Stmt) (m n : List ℕ) (p q : Program)
    → x ≡ part.Begin ss → zs ≡ ss → q ≡ record p { begin = q.begin } → OnOk r (Adds (λ t. Does text (means 0) (does.Given zs) t m n) p.begin.items q.begin.items)
    → OnOk r ((items : List Item) → IsLaidWith text means items p m → IsLaidWith text means (items ++ x ∷ []) q n)
begin_laid means (Ok a) text x ss zs m n p q is same rest h = λ items before.
    let d = given_is (means 0) text zs h.0 m n h.1 in
    let g : Lays text (means 0) (SomeStmts ss d.0.items) m n = subst (λ (z : List step.Stmt). Lays text (means 0) (SomeStmts z d.0.items) m n) same d.2 in
    let begins : q.begin.items ≡ p.begin.items ++ tree.Block d.0 ∷ [] = h.2 ∙ ap (λ t. p.begin.items ++ t ∷ []) d.1 in
    rw (is, rest, begins) (spec.begin d.0 before g)
begin_laid means (Err e) text x ss zs m n p q is same rest h = tt

pub end_laid : (means : ℕ → Sense) {A E : Type 0} (r : Result A E) (text : List ℕ) (x : Item) (ss zs : List step.Stmt) (m n : List ℕ) (p q : Program)
    → x ≡ part.End ss → zs ≡ ss → q ≡ record p { end = q.end } → OnOk r (Adds (λ t. Does text (means 0) (does.Given zs) t m n) p.end.items q.end.items)
    → OnOk r ((items : List Item) → IsLaidWith text means items p m → IsLaidWith text means (items ++ x ∷ []) q n)
end_laid means (Ok a) text x ss zs m n p q is same rest h = λ items before.
    let d = given_is (means 0) text zs h.0 m n h.1 in
    let g : Lays text (means 0) (SomeStmts ss d.0.items) m n = subst (λ (z : List step.Stmt). Lays text (means 0) (SomeStmts z d.0.items) m n) same d.2 in
    let ends : q.end.items ≡ p.end.items ++ tree.Block d.0 ∷ [] = h.2 ∙ ap (λ t. p.end.items ++ t ∷ []) d.1 in
    rw (is, rest, ends) (spec.ending d.0 before g)
end_laid means (Err e) text x ss zs m n p q is same rest h = tt

pub always_laid : (means : ℕ → Sense) {A E : Type 0} (r : Result A E) (text : List ℕ) (x : Item) (left : ℕ) (ss zs : List step.Stmt) (m n : List ℕ) (p q : Program)
    → x ≡ part.Always left ss → zs ≡ ss → q ≡ record p { rules = q.rules }
    → OnOk r (Adds (λ z. (z ≡ rule_of (length m) (expr.Number (pos 1)) z.action) × Does text (means 0) (does.Given zs) z.action (sited text left m) n) p.rules.items q.rules.items)
    → OnOk r ((items : List Item) → IsLaidWith text means items p m → IsLaidWith text means (items ++ x ∷ []) q n)
always_laid means (Ok a) text x left ss zs m n p q is same rest h = λ items before.
    let d = given_is (means 0) text zs h.0.action (sited text left m) n h.1.1 in
    let g : Lays text (means 0) (SomeStmts ss d.0.items) (sited text left m) n = subst (λ (z : List step.Stmt). Lays text (means 0) (SomeStmts z d.0.items) (sited text left m) n) same d.2 in
    let rules : q.rules.items ≡ p.rules.items ++ rule_of (length m) (expr.Number (pos 1)) (tree.Block d.0) ∷ [] =
    h.2 ∙ ap (λ (z : Rule). p.rules.items ++ z ∷ []) h.1.0 ∙ ap (λ t. p.rules.items ++ rule_of (length m) (expr.Number (pos 1)) t ∷ []) d.1 in
    rw (is, rest, rules) (spec.always left d.0 before g)
always_laid means (Err e) text x left ss zs m n p q is same rest h = tt

pub rule_laid : (means : ℕ → Sense) (text : List ℕ) (items : List Item) (x : Item) (f g : Pattern) (y : Action) (m n : List ℕ) (p q : Program)
    → x ≡ part.Rule f y → g ≡ f → q ≡ record p { rules = q.rules; ranges = q.ranges } → q.ranges ≡ p.ranges + ranges_of g → Adds (λ r. Rules text (means 0) p.ranges g y r m n) p.rules.items q.rules.items
    → IsLaidWith text means items p m → IsLaidWith text means (items ++ x ∷ []) q n
rule_laid means text items x f g y m n p q is same rest ranges h before =
    let k : Rules text (means 0) p.ranges f y h.0 m n = subst (λ z. Rules text (means 0) p.ranges z y h.0 m n) same h.1 in
    let ranges' : q.ranges ≡ p.ranges + ranges_of f = ranges ∙ ap (λ z. p.ranges + ranges_of z) same in
    rw (is, rest, ranges', h.2) (spec.rule before k)

pub function_laid : (means : ℕ → Sense) {A E : Type 0} (r : Result A E) (text : List ℕ) (x : Item) (left : ℕ) (name : Name) (parameters takes : List Name) (ss zs : List step.Stmt) (k : ℕ) (m n : List ℕ) (p q : Program)
    → x ≡ part.Function left name parameters ss → takes ≡ parameters → zs ≡ ss → k ≡ length p.functions.items → q ≡ record p { functions = q.functions } → OnOk r (Adds (λ f. Defines text (means (k + 1)) (k + 1 - 1) left name takes zs f m n) p.functions.items q.functions.items)
    → OnOk r ((items : List Item) → IsLaidWith text means items p m → IsLaidWith text means (items ++ x ∷ []) q n)
function_laid means (Ok a) text x left name parameters takes ss zs k m n p q is list same count rest h = λ items before.
    let number : k + 1 - 1 ≡ length p.functions.items = omega (arith, count) in
    let scope : k + 1 ≡ suc (length p.functions.items) = omega (arith, count) in
    let g : Defines text (means (k + 1)) (k + 1 - 1) left name parameters zs h.0 m n = subst (λ (z : List Name). Defines text (means (k + 1)) (k + 1 - 1) left name z zs h.0 m n) list h.1 in
    let g' : Defines text (means (k + 1)) (k + 1 - 1) left name parameters ss h.0 m n = subst (λ (z : List step.Stmt). Defines text (means (k + 1)) (k + 1 - 1) left name parameters z h.0 m n) same g in
    let f : Defines text (means (k + 1)) (length p.functions.items) left name parameters ss h.0 m n = subst (λ z. Defines text (means (k + 1)) z left name parameters ss h.0 m n) number g' in
    let f' : Defines text (means (suc (length p.functions.items))) (length p.functions.items) left name parameters ss h.0 m n = subst (λ z. Defines text (means z) (length p.functions.items) left name parameters ss h.0 m n) scope f in
    rw (is, rest, h.2) (spec.function left before f')
function_laid means (Err e) text x left name parameters takes ss zs k m n p q is list same count rest h = tt

pub item_laid : (means : ℕ → Sense) (text u : List ℕ) (items : List Item) (i : ℕ) (x : Item) (m n : List ℕ) (p q : Program) → i < length items → x ≡ get_or items i x → u ≡ text
    → IsLaidWith text means (take i items) p m → ((found : List Item) → IsLaidWith u means found p m → IsLaidWith u means (found ++ x ∷ []) q n) → IsLaidWith text means (take (i + 1) items) q n
item_laid means text u items i x m n p q h at there before next =
    let e : take (i + 1) items ≡ take i items ++ x ∷ [] = take_more items i x h ∙ ap (λ y. take i items ++ y ∷ []) (sym at) in
    let start : IsLaidWith u means (take i items) p m = subst (λ v. IsLaidWith v means (take i items) p m) (sym there) before in
    rw e (subst (λ v. IsLaidWith v means (take i items ++ x ∷ []) q n) there (next (take i items) start))
