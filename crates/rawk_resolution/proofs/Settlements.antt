-- The steps of settling, over plain variables.
use Rattle.std.proofs.Common.{◌≡◌, ℕ, ◌+◌, ◌<◌, ◌≤◌, ◌≢◌, suc, List, [], ◌∷◌, ◌++◌, length, take, get_or, slice_get, Option, Some, Result, Ok, Err, IfOk, OnOk, refl, sym, ap, subst, ◌∙◌, arith}
use Rattle.std.proofs.lemmas.List.{take_more, length-append, length-take-le}
use Rattle.std.specs.Global.{Box, Vec}
use Rattle.rawk_keywords.specs.declared.builtin.Builtin.{Builtin}
use Rattle.rawk_keywords.specs.declared.builtin.Builtin.TheVariants as fun
use Rattle.rawk_value.specs.declared.operator.Arithmetic.{Arithmetic}
use Rattle.rawk_value.specs.declared.operator.Arithmetic.TheVariants.{Pow}
use Rattle.rawk_words.specs.declared.array.Array.{Array}
use Rattle.rawk_words.specs.declared.operator.Extent.{Extent}
use Rattle.rawk_words.specs.declared.operator.Sign.{Sign}
use Rattle.rawk_words.specs.declared.operator.Logic.{Logic}
use Rattle.rawk_parsing.specs.declared.tree.Change.{Change}
use Rattle.rawk_parsing.specs.declared.tree.Name as word
use Rattle.rawk_parsing.specs.declared.tree.Expr as parsed
use Rattle.rawk_parsing.specs.declared.tree.Expr.TheVariants as from
use Rattle.rawk_parsing.specs.declared.tree.Link as join
use Rattle.rawk_parsing.specs.declared.tree.Place as spot
use Rattle.rawk_parsing.specs.declared.tree.Place.TheVariants as from_place
use Rattle.rawk_expression.specs.Expression.{link}
use Rattle.rawk_tree.specs.declared.tree.Expr.{Expr}
use Rattle.rawk_tree.specs.declared.tree.Expr.TheVariants as tree
use Rattle.rawk_tree.specs.declared.tree.Joiner.{Joiner}
use Rattle.rawk_tree.specs.declared.tree.Joiner.TheVariants as joiner
use Rattle.rawk_tree.specs.declared.tree.Unary.TheVariants as unary
use Rattle.rawk_tree.specs.declared.tree.Link.{Link}
use Rattle.rawk_tree.specs.declared.tree.Link.TheVariants as tree_link
use Rattle.rawk_tree.specs.declared.tree.Place.{Place}
use Rattle.rawk_tree.specs.declared.tree.Scalar.{Scalar}
use Rattle.rawk_tree.specs.declared.tree.Place.TheVariants as tree_place
use Rattle.rawk_tree.specs.declared.tree.Kind.{Kind}
use Rattle.rawk_tree.specs.declared.tree.Kind.TheVariants as kind
use Rattle.rawk_tree.specs.declared.tree.Separation.{Separation}
use Rattle.rawk_tree.specs.declared.tree.Separation.TheVariants as separation
use Rattle.rawk_resolution.specs.Calls.{Applies}
use Rattle.rawk_resolution.specs.Settled as spec
use Rattle.rawk_resolution.specs.Meant.{Sense}
use Rattle.rawk_resolution.specs.Settled.{AnExpr, APlace, ASought, ASeparator, SomeArguments, IsIn, IsMatchOf, IsMember, IsRecord, SomeLinks, SomeTests, SomeExprs, Settles, joiner_of, operator_of, right_of, extent_of, scalar_place}

pub text_settles : (m : Sense) {E : Type 0} (r : Result Expr E) (e : parsed.Expr) (v w : List ℕ) → e ≡ from.Text v → w ≡ v → IfOk r (λ s. s ≡ tree.Text w) → IfOk r (λ s. Settles m (AnExpr e s))
text_settles m (Ok s) e v w is same made = rw (is, made, same) spec.text
text_settles m (Err f) e v w is same made = tt

pub read_settles : (m : Sense) (e : parsed.Expr) (p : spot.Place) (q : Place) → e ≡ from.Of p → Settles m (APlace p q) → Settles m (AnExpr e (tree.Read q))
read_settles m e p q is h = rw is (spec.read h)

pub group_settles : (m : Sense) {E : Type 0} (r : Result Expr E) (e x y : parsed.Expr) → e ≡ from.Group x → y ≡ x → IfOk r (λ s. Settles m (AnExpr y s)) → IfOk r (λ s. Settles m (AnExpr e s))
group_settles m (Ok s) e x y is same h = let g : Settles m (AnExpr x s) = subst (λ (z : parsed.Expr). Settles m (AnExpr z s)) same h in rw is (spec.group g)
group_settles m (Err f) e x y is same h = tt

-- the same, boxed
pub boxed_settles : (m : Sense) {E : Type 0} (e : parsed.Expr) (s : Expr) (q : Result (Box Expr) E) → IfOk q (λ b. b.value ≡ s) → Settles m (AnExpr e s) → IfOk q (λ b. Settles m (AnExpr e b.value))
boxed_settles m e s (Ok b) held h = subst (λ (v : Expr). Settles m (AnExpr e v)) (sym held) h
boxed_settles m e s (Err f) held h = tt

pub signed_settles : (m : Sense) (sign : Sign) (b : Box Expr) (e x y : parsed.Expr) → e ≡ from.Signed sign x → y ≡ x → Settles m (AnExpr y b.value) → Settles m (AnExpr e (tree.Unary (unary.Sign sign) b))
signed_settles m sign b e x y is same h = rw is (spec.signed b (subst (λ (z : parsed.Expr). Settles m (AnExpr z b.value)) same h))

pub power_settles : (m : Sense) (x y : parsed.Expr) (t : Expr) (base : Box Expr) (old : List Link) (powers : Vec Link)
    → old ≡ [] → powers.items ≡ old ++ tree_link.Combine (joiner.Arithmetic Pow) t ∷ [] → Settles m (AnExpr x base.value) → Settles m (AnExpr y t) → Settles m (AnExpr (from.Power x y) (tree.Chain base powers))
power_settles m x y t base old powers bare one h g = spec.power base powers h g (one ∙ ap (λ l. l ++ tree_link.Combine (joiner.Arithmetic Pow) t ∷ []) bare)

pub after_settles : (m : Sense) (e : parsed.Expr) (c : Change) (p : spot.Place) (q : Place) (o : Arithmetic) → e ≡ from.After c p → o ≡ operator_of c → Settles m (APlace p q) → Settles m (AnExpr e (tree.After o q))
after_settles m e c p q o is operator h = rw (is, operator) (spec.after h)

pub getline_to_settles : (m : Sense) (e : parsed.Expr) (p : spot.Place) (q : Place) → e ≡ from.GetlineTo p → Settles m (APlace p q) → Settles m (AnExpr e (tree.GetlineTo q))
getline_to_settles m e p q is h = rw is (spec.getline_to h)

pub test_settles : (m : Sense) (l : Logic) (xs : List parsed.Expr) (i : ℕ) (x y : parsed.Expr) (s : Expr) (ys zs : List Link)
    → i < length xs → x ≡ get_or xs i x → y ≡ x → zs ≡ ys ++ tree_link.Decide l s ∷ [] → Settles m (SomeTests l (take i xs) ys) → Settles m (AnExpr y s) → Settles m (SomeTests l (take (i + 1) xs) zs)
test_settles m l xs i x y s ys zs h held same more g f' =
    let f : Settles m (AnExpr x s) = subst (λ (z : parsed.Expr). Settles m (AnExpr z s)) same f' in
    let t : take (i + 1) xs ≡ take i xs ++ x ∷ [] = take_more xs i x h ∙ ap (λ y. take i xs ++ y ∷ []) (sym held) in
    rw (t, more) (spec.a_test g f)

pub name_settles : (m : Sense) (p : spot.Place) (n : word.Name) (s : Scalar) (q : Place) → p ≡ from_place.Name n → m.scalar n.word ≡ Some s → q ≡ scalar_place s → Settles m (APlace p q)
name_settles m p n s q is h made = rw (is, made) (spec.name h)

pub field_settles : (m : Sense) (p : spot.Place) (x y : parsed.Expr) (number : Box Expr)
    → p ≡ from_place.Field x → y ≡ x → Settles m (AnExpr y number.value) → Settles m (APlace p (tree_place.Field number))
field_settles m p x y number is same h = rw is (spec.field number (subst (λ (z : parsed.Expr). Settles m (AnExpr z number.value)) same h))

link_is : (x : join.Link) → x ≡ link x.operator x.operand
unfolding link
link_is x = refl

-- one more link
pub link_settles : (m : Sense) (xs : List join.Link) (i : ℕ) (x : join.Link) (j : Joiner) (e : parsed.Expr) (s : Expr) (ys zs : List Link)
    → i < length xs → x ≡ get_or xs i x → j ≡ joiner_of x.operator → e ≡ x.operand → zs ≡ ys ++ tree_link.Combine j s ∷ [] → Settles m (SomeLinks (take i xs) ys) → Settles m (right_of j e s) → Settles m (SomeLinks (take (i + 1) xs) zs)
link_settles m xs i x j e s ys zs h at joins is more g f =
    let same : x ≡ link x.operator e = link_is x ∙ ap (link x.operator) (sym is) in
    let t : take (i + 1) xs ≡ take i xs ++ link x.operator e ∷ [] = take_more xs i x h ∙ ap (λ y. take i xs ++ y ∷ []) (sym at ∙ same) in
    let right : Settles m (right_of (joiner_of x.operator) e s) = subst (λ (k : Joiner). Settles m (right_of k e s)) joins f in
    let last : zs ≡ ys ++ tree_link.Combine (joiner_of x.operator) s ∷ [] = more ∙ ap (λ (k : Joiner). ys ++ tree_link.Combine k s ∷ []) joins in
    rw (t, last) (spec.a_link x.operator e s g right)

-- a regular expression by itself, and one that is sought
pub ere_settles : (m : Sense) {E : Type 0} (r : Result Expr E) (e : parsed.Expr) (left : ℕ) (v w : List ℕ) → e ≡ from.Ere left v → w ≡ v → IfOk r (λ s. IsMatchOf w s) → IfOk r (λ s. Settles m (AnExpr e s))
ere_settles m (Ok s) e left v w is same made = rw is (spec.matched (subst (λ (x : List ℕ). IsMatchOf x s) same made))
ere_settles m (Err f) e left v w is same made = tt

pub sought_settles : (m : Sense) {E : Type 0} (r : Result Expr E) (e : parsed.Expr) (left : ℕ) (v w : List ℕ) → e ≡ from.Ere left v → w ≡ v → IfOk r (λ s. s ≡ tree.Text w) → IfOk r (λ s. Settles m (ASought e s))
sought_settles m (Ok s) e left v w is same made = rw (is, made, same) spec.sought
sought_settles m (Err f) e left v w is same made = tt

pub made_settles : (m : Sense) {E : Type 0} (r : Result Expr E) (e : parsed.Expr) → ((left : ℕ) (w : List ℕ) → e ≡ from.Ere left w → ⊥) → IfOk r (λ s. Settles m (AnExpr e s)) → IfOk r (λ s. Settles m (ASought e s))
made_settles m (Ok s) e not h = spec.made not h
made_settles m (Err f) e not h = tt

pub right_settles : (m : Sense) {E : Type 0} (r : Result Expr E) (e : parsed.Expr) (j : Joiner) → (j ≡ joiner.Matches → ⊥) → (j ≡ joiner.NotMatches → ⊥) → IfOk r (λ s. Settles m (AnExpr e s)) → IfOk r (λ s. Settles m (right_of j e s))
right_settles m r e (joiner.Arithmetic op) first second h = h
right_settles m r e (joiner.Comparison c) first second h = h
right_settles m r e joiner.Concat first second h = h
right_settles m r e joiner.Index first second h = h
right_settles m r e joiner.Substr first second h = h
right_settles m r e joiner.Matches first second h = absurd (first refl)
right_settles m r e joiner.NotMatches first second h = absurd (second refl)

pub expr_settles : (m : Sense) (xs : List parsed.Expr) (i : ℕ) (x y : parsed.Expr) (s : Expr) (ys zs : List Expr)
    → i < length xs → x ≡ get_or xs i x → y ≡ x → zs ≡ ys ++ s ∷ [] → Settles m (SomeExprs (take i xs) ys) → Settles m (AnExpr y s) → Settles m (SomeExprs (take (i + 1) xs) zs)
expr_settles m xs i x y s ys zs h held same more g f' =
    let f : Settles m (AnExpr x s) = subst (λ (z : parsed.Expr). Settles m (AnExpr z s)) same f' in
    let t : take (i + 1) xs ≡ take i xs ++ x ∷ [] = take_more xs i x h ∙ ap (λ y. take i xs ++ y ∷ []) (sym held) in
    rw (t, more) (spec.an_expr g f)

-- one argument more, behind others: a value or an array
first_value : (m : Sense) (ks : List Kind) (e : parsed.Expr) (s : Expr) → slice_get ks 0 ≡ Some kind.Scalar → Settles m (AnExpr e s) → Settles m (SomeArguments ks (e ∷ []) (s ∷ []) [])
first_value m [] e s at h = cc
first_value m (k ∷ ks) e s at h = let is : k ≡ kind.Scalar = cc in rw is (spec.a_value h spec.no_arguments)

value_behind : (m : Sense) {ks : List Kind} {es : List parsed.Expr} {ss : List Expr} {rs : List Array} (e : parsed.Expr) (s : Expr)
    → Settles m (SomeArguments ks es ss rs) → slice_get ks (length es) ≡ Some kind.Scalar → Settles m (AnExpr e s) → Settles m (SomeArguments ks (es ++ e ∷ []) (ss ++ s ∷ []) rs)
value_behind m e s (spec.no_arguments {ks = ks}) at h = first_value m ks e s at h
value_behind m e s (spec.a_value g more) at h = spec.a_value g (value_behind m e s more at h)
value_behind m e s (spec.an_array n g more) at h = spec.an_array n g (value_behind m e s more at h)

first_array : (m : Sense) (ks : List Kind) (n : word.Name) (a : Array) → slice_get ks 0 ≡ Some kind.Array → m.array n.word ≡ Some a → Settles m (SomeArguments ks (from.Of (from_place.Name n) ∷ []) [] (a ∷ []))
first_array m [] n a at h = cc
first_array m (k ∷ ks) n a at h = let is : k ≡ kind.Array = cc in rw is (spec.an_array n h spec.no_arguments)

array_behind : (m : Sense) {ks : List Kind} {es : List parsed.Expr} {ss : List Expr} {rs : List Array} (n : word.Name) (a : Array)
    → Settles m (SomeArguments ks es ss rs) → slice_get ks (length es) ≡ Some kind.Array → m.array n.word ≡ Some a → Settles m (SomeArguments ks (es ++ from.Of (from_place.Name n) ∷ []) ss (rs ++ a ∷ []))
array_behind m n a (spec.no_arguments {ks = ks}) at h = first_array m ks n a at h
array_behind m n a (spec.a_value g more) at h = spec.a_value g (array_behind m n a more at h)
array_behind m n a (spec.an_array o g more) at h = spec.an_array o g (array_behind m n a more at h)

-- with an argument of a parameter of this kind, whichever are before it
abbrev pub Passes : Sense → Option Kind → parsed.Expr → List Expr → List Array → List Expr → List Array → Type 0
Passes m k e ss rs zs qs = (ks : List Kind) (es : List parsed.Expr) → slice_get ks (length es) ≡ k → Settles m (SomeArguments ks es ss rs) → Settles m (SomeArguments ks (es ++ e ∷ []) zs qs)

pub value_passes : (m : Sense) {A E : Type 0} (q : Result A E) (s : Expr) (k : Option Kind) (e : parsed.Expr) (old new : List Expr) (rs : List Array)
    → k ≡ Some kind.Scalar → OnOk q (new ≡ old ++ s ∷ []) → Settles m (AnExpr e s) → OnOk q (Passes m k e old rs new rs)
value_passes m (Ok u) s k e old new rs is more h = λ ks es at those. rw more (value_behind m e s those (at ∙ is) h)
value_passes m (Err d) s k e old new rs is more h = tt

pub array_passes : (m : Sense) {A E : Type 0} (q : Result A E) (a : Array) (k : Option Kind) (e : parsed.Expr) (ss : List Expr) (old new : List Array)
    → k ≡ Some kind.Array → OnOk q (new ≡ old ++ a ∷ []) → (n : word.Name) × (e ≡ from.Of (from_place.Name n)) × (m.array n.word ≡ Some a) → OnOk q (Passes m k e ss old ss new)
array_passes m (Ok u) a k e ss old new is more h = λ ks es at those. rw (more, h.1) (array_behind m h.0 a those (at ∙ is) h.2)
array_passes m (Err d) a k e ss old new is more h = tt

pub argument_settles : (m : Sense) (ks : List Kind) (k : Option Kind) (xs : List parsed.Expr) (i : ℕ) (x y : parsed.Expr) (ss zs : List Expr) (rs qs : List Array)
    → i < length xs → x ≡ get_or xs i x → y ≡ x → k ≡ slice_get ks i → Passes m k y ss rs zs qs → Settles m (SomeArguments ks (take i xs) ss rs) → Settles m (SomeArguments ks (take (i + 1) xs) zs qs)
argument_settles m ks k xs i x y ss zs rs qs h at same is passed those =
    let le : i ≤ length xs = omega arith in
    let count : slice_get ks (length (take i xs)) ≡ k = ap (slice_get ks) (length-take-le i xs le) ∙ sym is in
    let e : take (i + 1) xs ≡ take i xs ++ y ∷ [] = take_more xs i x h ∙ ap (λ z. take i xs ++ z ∷ []) (sym at) ∙ ap (λ z. take i xs ++ z ∷ []) (sym same) in
    rw e (passed ks (take i xs) count those)

-- elements of arrays, and whether there are some
pub element_settles : (m : Sense) (p : spot.Place) (n : word.Name) (a : Array) (xs ys : List parsed.Expr) (ss : Vec Expr)
    → p ≡ from_place.Element n xs → ys ≡ xs → m.array n.word ≡ Some a → Settles m (SomeExprs ys ss.items) → Settles m (APlace p (tree_place.Element a ss))
element_settles m p n a xs ys ss is same found h = rw is (spec.element ss found (subst (λ (z : List parsed.Expr). Settles m (SomeExprs z ss.items)) same h))

pub one_member : (m : Sense) (n : word.Name) (a : Array) (s : Expr) (old : List Expr) (ss : Vec Expr) → m.array n.word ≡ Some a → old ≡ [] → ss.items ≡ old ++ s ∷ [] → IsMember m n s (tree.Has a ss)
one_member m n a s old ss found bare more = record {
  array = a;
  subscripts = ss;
  named = found;
  one = more ∙ ap (λ l. l ++ s ∷ []) bare;
  is = refl;
}

pub more_members : (m : Sense) (s : Expr) (ns : List word.Name) (i : ℕ) (n : word.Name) (t u : Expr)
    → i < length ns → n ≡ get_or ns i n → IsIn m s (take i ns) t → IsMember m n t u → IsIn m s (take (i + 1) ns) u
more_members m s ns i n t u h at before one =
    let e : take (i + 1) ns ≡ take i ns ++ n ∷ [] = take_more ns i n h ∙ ap (λ y. take i ns ++ y ∷ []) (sym at) in
    rw e (spec.in_next before one)

pub in_settles : (m : Sense) {E : Type 0} (r : Result Expr E) (x : parsed.Expr) (ns : List word.Name) (s : Expr)
    → Settles m (AnExpr x s) → IfOk r (λ t. IsIn m s ns t) → IfOk r (λ t. Settles m (AnExpr (from.In x ns) t))
in_settles m (Ok t) x ns s h g = spec.member h g
in_settles m (Err d) x ns s h g = tt

-- as many arguments are settled as there are
pub same_count : (m : Sense) {es : List parsed.Expr} {ss : List Expr} → Settles m (SomeExprs es ss) → length ss ≡ length es
same_count m spec.no_exprs = refl
same_count m (spec.an_expr {es = es} {ss = ss} {e = e} {s = s} h g) = length-append ss (s ∷ []) ∙ ap (λ n. n + 1) (same_count m h) ∙ sym (length-append es (e ∷ []))

pub builtin_settles : (m : Sense) {E : Type 0} (r : Result Expr E) (f : Builtin) (xs : List parsed.Expr) (ss : List Expr)
    → Settles m (SomeExprs xs ss) → IfOk r (λ s. Applies f ss s) → IfOk r (λ s. Settles m (AnExpr (from.Builtin f xs) s))
builtin_settles m (Ok s) f xs ss h applies = spec.builtin h applies
builtin_settles m (Err d) f xs ss h applies = tt

-- `length` of an array
pub counted_settles : (m : Sense) (xs : List parsed.Expr) (a : Array) → (n : word.Name) × (xs ≡ from.Of (from_place.Name n) ∷ []) × (m.array n.word ≡ Some a) → Settles m (AnExpr (from.Builtin fun.Length xs) (tree.Count a))
counted_settles m xs a h = rw (h.1) (spec.counted h.0 h.2)

-- a text and what is sought in it
pub found_settles : (m : Sense) (xs : List parsed.Expr) (x y : parsed.Expr) (s t : Box Expr) (u : Expr)
    → xs ≡ x ∷ y ∷ [] → Settles m (AnExpr x s.value) → t.value ≡ u → Settles m (ASought y u) → Settles m (AnExpr (from.Builtin fun.Match xs) (tree.Match s t))
found_settles m xs x y s t u is h made g = rw is (spec.found s t h (subst (λ (v : Expr). Settles m (ASought y v)) (sym made) g))

-- a replacement of matches, in a place or in the record
pub replaced_settles : (m : Sense) (f : Builtin) (extent : Extent) (xs : List parsed.Expr) (x y z : parsed.Expr) (s t : Box Expr) (q : Place)
    → extent_of f ≡ Some extent → xs ≡ x ∷ y ∷ z ∷ [] → Settles m (ASought x s.value) → Settles m (AnExpr y t.value) → (p : spot.Place) × (z ≡ from.Of p) × Settles m (APlace p q) → Settles m (AnExpr (from.Builtin f xs) (tree.Replace extent s t q))
replaced_settles m f extent xs x y z s t q which is h g place = rw (is, place.1) (spec.replaced s t which h g place.2)

pub record_settles : (m : Sense) (f : Builtin) (extent : Extent) (xs : List parsed.Expr) (x y : parsed.Expr) (s t : Box Expr) (q : Place)
    → extent_of f ≡ Some extent → xs ≡ x ∷ y ∷ [] → Settles m (ASought x s.value) → Settles m (AnExpr y t.value) → spec.IsRecordPlace q → Settles m (AnExpr (from.Builtin f xs) (tree.Replace extent s t q))
record_settles m f extent xs x y s t q which is h g whole = rw is (spec.replaced_record s t which h g whole)

pub matches_separate : (m : Sense) (b : Box Expr) (t : Expr) (e : parsed.Expr) (left : ℕ) (v w : List ℕ) → e ≡ from.Ere left v → w ≡ v → t ≡ tree.Text w → b.value ≡ t → Settles m (ASeparator (e ∷ []) separation.Matches b.value)
matches_separate m b t e left v w is same made held = let text : b.value ≡ tree.Text v = held ∙ made ∙ ap tree.Text same in rw (is, text) spec.by_matches

pub split_settles : (m : Sense) (xs : List parsed.Expr) (x y : parsed.Expr) (zs : List parsed.Expr) (s t : Box Expr) (a : Array) (how : Separation)
    → xs ≡ x ∷ y ∷ zs → Settles m (AnExpr x s.value) → (n : word.Name) × (y ≡ from.Of (from_place.Name n)) × (m.array n.word ≡ Some a) → Settles m (ASeparator zs how t.value) → Settles m (AnExpr (from.Builtin fun.Split xs) (tree.Split how s a t))
split_settles m xs x y zs s t a how is h array g = rw (is, array.1) (spec.split array.0 s t h array.2 g)

pub all_printed : (m : Sense) (es : List parsed.Expr) (ss : List Expr) → length es ≢ 0 → Settles m (SomeExprs es ss) → spec.Prints m es ss
all_printed m [] ss h g = absurd (h refl)
all_printed m (e ∷ es) ss h g = spec.all g

pub record_printed : (m : Sense) (es : List parsed.Expr) (ss : List Expr) (s : Expr) → length es ≡ 0 → ss ≡ s ∷ [] → IsRecord s → spec.Prints m es ss
record_printed m [] ss s h is held = rw is (spec.record_alone held)
record_printed m (e ∷ es) ss s h is held = absurd (let no : suc (length es) ≡ 0 = h in omega arith)
