-- Statements and items in order, from their parts.
use Rattle.std.proofs.Common.{◌≡◌, ℕ, ◌+◌, ◌<◌, suc, Bool, true, false, ◌&&◌, List, ◌∷◌, length, drop, get_or, Option, None, Some, refl, sym, ap, ◌∙◌, arith}
use Rattle.std.proofs.Math.Seq.{drop-cons}
use Rattle.rawk_parsing.specs.declared.tree.Name.{Name}
use Rattle.rawk_parsing.specs.declared.tree.Expr.{Expr}
use Rattle.rawk_parsing.specs.declared.tree.Place.{Place, out-roll-Place}
use Rattle.rawk_parsing.specs.declared.tree.Place.TheVariants as spot
use Rattle.rawk_parsing.specs.declared.tree.Place.TheVariants.{rolls-Name, rolls-Field, rolls-Element}
use Rattle.rawk_parsing.specs.declared.tree.Expr.TheOpen as expr
use Rattle.rawk_grammar.specs.declared.tree.Condition.{Condition}
use Rattle.rawk_grammar.specs.declared.tree.Jump.{Jump}
use Rattle.rawk_grammar.specs.declared.tree.Simple.{Simple}
use Rattle.rawk_grammar.specs.declared.tree.Stmt.{Stmt, roll-Stmt, map-Stmt, fold-roll-Stmt}
use Rattle.rawk_grammar.specs.declared.tree.Stmt.TheVariants as tree
use Rattle.rawk_grammar.specs.declared.tree.Stmt.TheVariants.{rolls-Empty, rolls-Simple, rolls-Jump, rolls-Block, rolls-If, rolls-While, rolls-Do, rolls-For, rolls-ForIn}
use Rattle.rawk_grammar.specs.declared.tree.Stmt.TheOpen as open_stmt
use Rattle.rawk_grammar.specs.declared.tree.Stmt.TheOpen.{Stmt-F, Head-F}
use Rattle.rawk_grammar.specs.declared.tree.Branch.{Branch, fold_out-Branch}
use Rattle.rawk_grammar.specs.declared.tree.Head.{Head, out-Head, map-Head, fold_out-Head}
use Rattle.rawk_grammar.specs.declared.tree.Item.{Item}
use Rattle.rawk_resolution.specs.InOrder.{names_array, each, in_order, deletable, deletes, act_in_order, jump_in_order, maybe_in_order, keys_in_order, stmt_step, branch_step, head_step, stmt_in_order, branch_in_order, head_in_order, other_in_order, head_parts, item_in_order, items_in_order, functions_behind}
use Rattle.rawk_resolution.specs.Meant.{Sense}
use Rattle.rawk_resolution.specs.Orders.{parts, split, each_mapped}

-- ---- what a `delete` is of

pub name_deletes : (m : Sense) (n : Name) → deletes m (spot.Name n) ≡ names_array m n
name_deletes m n = ap (λ p. deletes m p) (sym (rolls-Name n)) ∙ ap (deletable m) (out-roll-Place (expr.Name n))

pub element_deletes : (m : Sense) (n : Name) (es : List Expr) → deletes m (spot.Element n es) ≡ (names_array m n && each (in_order m) es)
element_deletes m n es = ap (λ p. deletes m p) (sym (rolls-Element n es)) ∙ ap (deletable m) (out-roll-Place (expr.Element n es))

pub deleted_name : (m : Sense) (p : Place) (n : Name) → p ≡ spot.Name n → deletes m p ≡ true → names_array m n ≡ true
deleted_name m p n is h = sym (ap (deletes m) is ∙ name_deletes m n) ∙ h

pub deleted_element : (m : Sense) (p : Place) (n : Name) (es ys : List Expr) → p ≡ spot.Element n es → ys ≡ es → deletes m p ≡ true → (names_array m n ≡ true) × (each (in_order m) ys ≡ true)
deleted_element m p n es ys is same h =
    let q = parts (names_array m n) (each (in_order m) es) (deletes m p) (ap (deletes m) is ∙ element_deletes m n es) h in
    (q.0, ap (each (in_order m)) same ∙ q.1)

pub deleted_field : (m : Sense) (p : Place) (e : Expr) → p ≡ spot.Field e → deletes m p ≡ true → ⊥
deleted_field m p e is h =
    let no : false ≡ true = sym (ap (deletes m) is ∙ ap (λ p. deletes m p) (sym (rolls-Field e)) ∙ ap (deletable m) (out-roll-Place (expr.Field e))) ∙ h in cc

-- ---- statements

order_roll : (m : Sense) (d : Stmt-F Stmt Branch Head) → stmt_in_order m (roll-Stmt d) ≡ stmt_step m (map-Stmt Stmt Branch Head Bool Bool Bool (stmt_in_order m) (branch_in_order m) (head_in_order m) d)
unfolding stmt_in_order branch_in_order head_in_order
order_roll m d = fold-roll-Stmt Bool Bool Bool (stmt_step m) (branch_step m) (head_step m) d

pub empty_is : (m : Sense) → stmt_in_order m tree.Empty ≡ true
empty_is m = ap (stmt_in_order m) (sym rolls-Empty) ∙ order_roll m open_stmt.Empty

pub simple_is : (m : Sense) (x : Simple) → stmt_in_order m (tree.Simple x) ≡ act_in_order m x.act
simple_is m x = ap (stmt_in_order m) (sym (rolls-Simple x)) ∙ order_roll m (open_stmt.Simple x)

pub block_is : (m : Sense) (ss : List Stmt) → stmt_in_order m (tree.Block ss) ≡ each (stmt_in_order m) ss
block_is m ss = ap (stmt_in_order m) (sym (rolls-Block ss)) ∙ order_roll m (open_stmt.Block ss) ∙ each_mapped (λ b. b) (stmt_in_order m) ss

pub jump_is : (m : Sense) (left : ℕ) (j : Jump) → stmt_in_order m (tree.Jump left j) ≡ jump_in_order m j
jump_is m left j = ap (stmt_in_order m) (sym (rolls-Jump left j)) ∙ order_roll m (open_stmt.Jump left j)

pub if_is : (m : Sense) (bs : List Branch) (r : Option Stmt) → stmt_in_order m (tree.If bs r) ≡ (each (branch_in_order m) bs && other_in_order m r)
if_is m bs None = ap (stmt_in_order m) (sym (rolls-If bs None)) ∙ order_roll m (open_stmt.If bs None) ∙ ap (λ b. b && true) (each_mapped (λ b. b) (branch_in_order m) bs)
if_is m bs (Some s) = ap (stmt_in_order m) (sym (rolls-If bs (Some s))) ∙ order_roll m (open_stmt.If bs (Some s)) ∙ ap (λ b. b && stmt_in_order m s) (each_mapped (λ b. b) (branch_in_order m) bs)

pub while_is : (m : Sense) (t : Condition) (x : Stmt) → stmt_in_order m (tree.While t x) ≡ (in_order m t.test && stmt_in_order m x)
while_is m t x = ap (stmt_in_order m) (sym (rolls-While t x)) ∙ order_roll m (open_stmt.While t x)

pub do_is : (m : Sense) (t : Condition) (x : Stmt) → stmt_in_order m (tree.Do x t) ≡ (stmt_in_order m x && in_order m t.test)
do_is m t x = ap (stmt_in_order m) (sym (rolls-Do x t)) ∙ order_roll m (open_stmt.Do x t)

head_of_parts : (m : Sense) (first last : Option Stmt) (left : ℕ) (test : Option Expr) →
    head_step m (map-Head Stmt Branch Head Bool Bool Bool (stmt_in_order m) (branch_in_order m) (head_in_order m) (record { first = first; left = left; test = test; last = last })) ≡ (other_in_order m first && (maybe_in_order m test && other_in_order m last))
head_of_parts m None None left test = refl
head_of_parts m None (Some s) left test = refl
head_of_parts m (Some s) None left test = refl
head_of_parts m (Some s) (Some t) left test = refl

head_is : (m : Sense) (h : Head) → head_in_order m h ≡ head_parts m h
unfolding stmt_in_order branch_in_order head_in_order
head_is m h = fold_out-Head Bool Bool Bool (stmt_step m) (branch_step m) (head_step m) h ∙ head_of_parts m (out-Head h).first (out-Head h).last (out-Head h).left (out-Head h).test

pub for_is : (m : Sense) (h : Head) (x : Stmt) → stmt_in_order m (tree.For h x) ≡ (head_parts m h && stmt_in_order m x)
for_is m h x = ap (stmt_in_order m) (sym (rolls-For h x)) ∙ order_roll m (open_stmt.For h x) ∙ ap (λ b. b && stmt_in_order m x) (head_is m h)

pub for_in_is : (m : Sense) (left : ℕ) (n k : Name) (x : Stmt) → stmt_in_order m (tree.ForIn left n k x) ≡ (keys_in_order m n k && stmt_in_order m x)
for_in_is m left n k x = ap (stmt_in_order m) (sym (rolls-ForIn left n k x)) ∙ order_roll m (open_stmt.ForIn left n k x)

pub branch_is : (m : Sense) (b : Branch) → branch_in_order m b ≡ (in_order m b.condition.test && stmt_in_order m b.body)
unfolding stmt_in_order branch_in_order head_in_order
branch_is m b = fold_out-Branch Bool Bool Bool (stmt_step m) (branch_step m) (head_step m) b

-- ---- what of a statement is in order where it is

pub simple_part : (m : Sense) (s : Stmt) (x y : Simple) → s ≡ tree.Simple x → y ≡ x → stmt_in_order m s ≡ true → act_in_order m y.act ≡ true
simple_part m s x y is same h = ap (λ (z : Simple). act_in_order m z.act) same ∙ sym (ap (stmt_in_order m) is ∙ simple_is m x) ∙ h

pub block_parts : (m : Sense) (s : Stmt) (ss ts : List Stmt) → s ≡ tree.Block ss → ts ≡ ss → stmt_in_order m s ≡ true → each (stmt_in_order m) ts ≡ true
block_parts m s ss ts is same h = ap (each (stmt_in_order m)) same ∙ sym (ap (stmt_in_order m) is ∙ block_is m ss) ∙ h

pub jump_part : (m : Sense) (s : Stmt) (left : ℕ) (j k : Jump) → s ≡ tree.Jump left j → k ≡ j → stmt_in_order m s ≡ true → jump_in_order m k ≡ true
jump_part m s left j k is same h = ap (jump_in_order m) same ∙ sym (ap (stmt_in_order m) is ∙ jump_is m left j) ∙ h

pub if_parts : (m : Sense) (s : Stmt) (bs cs : List Branch) (r : Option Stmt) → s ≡ tree.If bs r → cs ≡ bs → stmt_in_order m s ≡ true → (each (branch_in_order m) cs ≡ true) × (other_in_order m r ≡ true)
if_parts m s bs cs r is same h =
    let p = parts (each (branch_in_order m) bs) (other_in_order m r) (stmt_in_order m s) (ap (stmt_in_order m) is ∙ if_is m bs r) h in
    (ap (each (branch_in_order m)) same ∙ p.0, p.1)

pub while_parts : (m : Sense) (s : Stmt) (t u : Condition) (x y : Stmt) → s ≡ tree.While t x → u ≡ t → y ≡ x → stmt_in_order m s ≡ true → (in_order m u.test ≡ true) × (stmt_in_order m y ≡ true)
while_parts m s t u x y is same body h =
    let p = parts (in_order m t.test) (stmt_in_order m x) (stmt_in_order m s) (ap (stmt_in_order m) is ∙ while_is m t x) h in
    (ap (λ (c : Condition). in_order m c.test) same ∙ p.0, ap (stmt_in_order m) body ∙ p.1)

pub do_parts : (m : Sense) (s : Stmt) (t u : Condition) (x y : Stmt) → s ≡ tree.Do x t → u ≡ t → y ≡ x → stmt_in_order m s ≡ true → (stmt_in_order m y ≡ true) × (in_order m u.test ≡ true)
do_parts m s t u x y is same body h =
    let p = parts (stmt_in_order m x) (in_order m t.test) (stmt_in_order m s) (ap (stmt_in_order m) is ∙ do_is m t x) h in
    (ap (stmt_in_order m) body ∙ p.0, ap (λ (c : Condition). in_order m c.test) same ∙ p.1)

pub for_parts : (m : Sense) (s : Stmt) (h i : Head) (x y : Stmt) → s ≡ tree.For h x → i ≡ h → y ≡ x → stmt_in_order m s ≡ true → (head_parts m i ≡ true) × (stmt_in_order m y ≡ true)
for_parts m s h i x y is same body so =
    let p = parts (head_parts m h) (stmt_in_order m x) (stmt_in_order m s) (ap (stmt_in_order m) is ∙ for_is m h x) so in
    (ap (head_parts m) same ∙ p.0, ap (stmt_in_order m) body ∙ p.1)

pub for_in_parts : (m : Sense) (s : Stmt) (left : ℕ) (n k : Name) (x y : Stmt) → s ≡ tree.ForIn left n k x → y ≡ x → stmt_in_order m s ≡ true → (keys_in_order m n k ≡ true) × (stmt_in_order m y ≡ true)
for_in_parts m s left n k x y is body h =
    let p = parts (keys_in_order m n k) (stmt_in_order m x) (stmt_in_order m s) (ap (stmt_in_order m) is ∙ for_in_is m left n k x) h in
    (p.0, ap (stmt_in_order m) body ∙ p.1)

pub branch_parts : (m : Sense) (b : Branch) (c : Condition) (x : Stmt) → c ≡ b.condition → x ≡ b.body → branch_in_order m b ≡ true → (in_order m c.test ≡ true) × (stmt_in_order m x ≡ true)
branch_parts m b c x same body h =
    let p = parts (in_order m b.condition.test) (stmt_in_order m b.body) (branch_in_order m b) (branch_is m b) h in
    (ap (λ (z : Condition). in_order m z.test) same ∙ p.0, ap (stmt_in_order m) body ∙ p.1)

-- ---- items one after another

pub item_at : (m : ℕ → Sense) (items : List Item) (i : ℕ) (x : Item) (k : ℕ) → i < length items → x ≡ get_or items i x → items_in_order m k (drop i items) ≡ true → (item_in_order m k x ≡ true) × (items_in_order m (functions_behind x k) (drop (suc i) items) ≡ true)
item_at m items i x k h at before =
    let front : drop i items ≡ x ∷ drop (suc i) items = drop-cons items i x h ∙ ap (λ y. y ∷ drop (suc i) items) (sym at) in
    split (item_in_order m k x) (items_in_order m (functions_behind x k) (drop (suc i) items)) (ap (items_in_order m k) (sym front) ∙ before)

pub items_behind : (m : ℕ → Sense) (items : List Item) (i : ℕ) (x : Item) (k l : ℕ) → i < length items → x ≡ get_or items i x → l ≡ functions_behind x k → items_in_order m k (drop i items) ≡ true → items_in_order m l (drop (i + 1) items) ≡ true
items_behind m items i x k l h at count before =
    let one_more : i + 1 ≡ suc i = omega arith in
    ap (λ n. items_in_order m l (drop n items)) one_more ∙ ap (λ n. items_in_order m n (drop (suc i) items)) count ∙ (item_at m items i x k h at before).1
