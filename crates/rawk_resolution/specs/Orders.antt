-- Expressions in order, from their parts.
use Rattle.std.proofs.Common.{◌≡◌, ℕ, ◌<◌, ◌≤◌, suc, Bool, true, false, ◌&&◌, ◌||◌, List, [], ◌∷◌, ◌++◌, length, take, drop, map, get_or, slice_get, Option, Some, None, refl, sym, ap, ◌∙◌, arith}
use Rattle.std.proofs.lemmas.List.{take-append-drop, length-map, length-take-le, map-append}
use Rattle.std.proofs.Math.Seq.{drop-cons}
use Rattle.rawk_keywords.specs.declared.builtin.Builtin.{Builtin}
use Rattle.rawk_keywords.specs.declared.builtin.Builtin.TheVariants as fun
use Rattle.rawk_parsing.specs.declared.tree.Assignment.{Assignment}
use Rattle.rawk_words.specs.declared.operator.Sign.{Sign}
use Rattle.rawk_words.specs.declared.operator.Logic.{Logic}
use Rattle.rawk_parsing.specs.declared.tree.Change.{Change}
use Rattle.rawk_parsing.specs.declared.tree.Name as word
use Rattle.rawk_parsing.specs.declared.tree.Expr.{Expr, out-Expr, roll-Expr, roll-out-Expr, map-Expr, fold-roll-Expr, fold_out-Expr}
use Rattle.rawk_parsing.specs.declared.tree.Expr.TheVariants as tree
use Rattle.rawk_parsing.specs.declared.tree.Expr.TheVariants.{rolls-Number, rolls-Text, rolls-Ere, rolls-Getline, rolls-GetlineTo, rolls-Of, rolls-Group, rolls-Signed, rolls-Power, rolls-Chain, rolls-In, rolls-ListIn, rolls-Logic, rolls-Choice, rolls-Before, rolls-After, rolls-Assign, rolls-Call, rolls-Builtin}
use Rattle.rawk_parsing.specs.declared.tree.Expr.TheOpen as expr
use Rattle.rawk_parsing.specs.declared.tree.Expr.TheOpen.{Expr-F, Place-F, Link-F}
use Rattle.rawk_parsing.specs.declared.tree.Link.{Link, fold_out-Link}
use Rattle.rawk_parsing.specs.declared.tree.Place.{Place, out-Place, roll-Place, roll-out-Place, map-Place, fold-roll-Place}
use Rattle.rawk_parsing.specs.declared.tree.Place.TheVariants as spot
use Rattle.rawk_parsing.specs.declared.tree.Place.TheVariants.{rolls-Name, rolls-Field, rolls-Element}
use Rattle.rawk_tree.specs.declared.tree.Kind.{Kind}
use Rattle.rawk_resolution.specs.Calls.{has_builtin}
use Rattle.rawk_words.specs.declared.array.Array.{Array}
use Rattle.rawk_words.specs.declared.operator.Extent.{Extent}
use Rattle.rawk_resolution.specs.Meant.{Sense, is_there}
use Rattle.rawk_resolution.specs.Settled.{extent_of}
use Rattle.rawk_resolution.specs.InOrder.{Use, names_array, names_scalar, counts, fits, all_fit, calls, place_use, all_in_order, replaces, builtin_step, use_of, changes, formatted, each, expr_step, place_step, link_step, in_order, place_in_order, link_in_order}

-- ---- tests

pub both : (a b : Bool) → a ≡ true → b ≡ true → (a && b) ≡ true
both a b h g = ap (λ x. x && b) h ∙ g

pub first_false : (a b : Bool) → a ≡ false → (a && b) ≡ false
first_false a b h = ap (λ x. x && b) h

pub second_false : (a b : Bool) → b ≡ false → (a && b) ≡ false
second_false true b h = h
second_false false b h = refl

pub split : (a b : Bool) → (a && b) ≡ true → (a ≡ true) × (b ≡ true)
split true true h = (refl, refl)
split true false h = cc
split false b h = cc

-- a whole that is its two parts
pub parts : (a b c : Bool) → c ≡ (a && b) → c ≡ true → (a ≡ true) × (b ≡ true)
parts a b c is h = split a b (sym is ∙ h)

not_false : (b : Bool) → (b ≡ false → ⊥) → b ≡ true
not_false true h = refl
not_false false h = absurd (h refl)

-- what is there is no `None`
pub nothing_there : {A : Type 0} (f : List ℕ → Option A) (w v : List ℕ) → w ≡ v → None ≡ f w → is_there (f v) ≡ true → ⊥
nothing_there f w v same none there = let no : false ≡ true = ap is_there (none ∙ ap f same) ∙ there in cc

-- ---- lists

each_fails : {A : Type 0} (f : A → Bool) (xs : List A) (x : A) (ys : List A) → f x ≡ false → each f (xs ++ x ∷ ys) ≡ false
each_fails f [] x ys h = first_false (f x) (each f ys) h
each_fails f (y ∷ xs) x ys h = second_false (f y) (each f (xs ++ x ∷ ys)) (each_fails f xs x ys h)

around : {A : Type 0} (xs : List A) (i : ℕ) (x : A) → i < length xs → x ≡ get_or xs i x → xs ≡ take i xs ++ x ∷ drop (suc i) xs
around xs i x h at = sym (take-append-drop i xs) ∙ ap (λ l. take i xs ++ l) (drop-cons xs i x h ∙ ap (λ y. y ∷ drop (suc i) xs) (sym at))

pub each_stops : {A : Type 0} (f : A → Bool) (xs : List A) (i : ℕ) (x : A) → i < length xs → x ≡ get_or xs i x → f x ≡ false → each f xs ≡ false
each_stops f xs i x h at here = ap (each f) (around xs i x h at) ∙ each_fails f (take i xs) x (drop (suc i) xs) here

pub each_at : {A : Type 0} (f : A → Bool) (xs : List A) (i : ℕ) (x : A) → i < length xs → x ≡ get_or xs i x → each f xs ≡ true → f x ≡ true
each_at f xs i x h at all = not_false (f x) (λ no. (let failed : false ≡ true = sym (each_stops f xs i x h at no) ∙ all in cc))

-- ---- expressions

first_alone : (a b : Bool) → b ≡ true → (a && b) ≡ a
first_alone true b h = h
first_alone false b h = refl

use_roll : (m : Sense) (d : Expr-F Expr Place Link) → use_of m (roll-Expr d) ≡ expr_step m (map-Expr Expr Place Link Use Use Bool (use_of m) (place_use m) (link_in_order m) d)
unfolding use_of place_use link_in_order
use_roll m d = fold-roll-Expr Use Use Bool (expr_step m) (place_step m) link_step d

in_order_roll : (m : Sense) (d : Expr-F Expr Place Link) → in_order m (roll-Expr d) ≡ (expr_step m (map-Expr Expr Place Link Use Use Bool (use_of m) (place_use m) (link_in_order m) d)).fit
in_order_roll m d = ap (λ (c : Use). c.fit) (use_roll m d)

pub each_mapped : {A B : Type 0} (g : B → Bool) (f : A → B) (xs : List A) → each g (map f xs) ≡ each (λ x. g (f x)) xs
each_mapped g f [] = refl
each_mapped g f (x ∷ xs) = ap (λ b. g (f x) && b) (each_mapped g f xs)

pub number_is : (m : Sense) (n : _) → in_order m (tree.Number n) ≡ true
number_is m n = ap (in_order m) (sym (rolls-Number n)) ∙ in_order_roll m (expr.Number n)

pub text_is : (m : Sense) (w : List ℕ) → in_order m (tree.Text w) ≡ true
text_is m w = ap (in_order m) (sym (rolls-Text w)) ∙ in_order_roll m (expr.Text w)

pub ere_is : (m : Sense) (left : ℕ) (w : List ℕ) → in_order m (tree.Ere left w) ≡ true
ere_is m left w = ap (in_order m) (sym (rolls-Ere left w)) ∙ in_order_roll m (expr.Ere left w)

pub getline_is : (m : Sense) → in_order m tree.Getline ≡ true
getline_is m = ap (in_order m) (sym rolls-Getline) ∙ in_order_roll m expr.Getline

pub getline_to_is : (m : Sense) (p : Place) → in_order m (tree.GetlineTo p) ≡ place_in_order m p
getline_to_is m p = ap (in_order m) (sym (rolls-GetlineTo p)) ∙ in_order_roll m (expr.GetlineTo p)

pub of_is : (m : Sense) (p : Place) → in_order m (tree.Of p) ≡ place_in_order m p
of_is m p = ap (in_order m) (sym (rolls-Of p)) ∙ in_order_roll m (expr.Of p)

pub group_is : (m : Sense) (x : Expr) → in_order m (tree.Group x) ≡ in_order m x
group_is m x = ap (in_order m) (sym (rolls-Group x)) ∙ in_order_roll m (expr.Group x)

pub signed_is : (m : Sense) (s : Sign) (x : Expr) → in_order m (tree.Signed s x) ≡ in_order m x
signed_is m s x = ap (in_order m) (sym (rolls-Signed s x)) ∙ in_order_roll m (expr.Signed s x)

pub power_is : (m : Sense) (x y : Expr) → in_order m (tree.Power x y) ≡ (in_order m x && in_order m y)
power_is m x y = ap (in_order m) (sym (rolls-Power x y)) ∙ in_order_roll m (expr.Power x y)

pub chain_is : (m : Sense) (x : Expr) (xs : List Link) → in_order m (tree.Chain x xs) ≡ (in_order m x && each (link_in_order m) xs)
chain_is m x xs = ap (in_order m) (sym (rolls-Chain x xs)) ∙ in_order_roll m (expr.Chain x xs) ∙ ap (λ a. in_order m x && a) (each_mapped (λ b. b) (link_in_order m) xs)

pub assign_is : (m : Sense) (how : Assignment) (p : Place) (x : Expr) → in_order m (tree.Assign how p x) ≡ (place_in_order m p && in_order m x)
assign_is m how p x = ap (in_order m) (sym (rolls-Assign how p x)) ∙ in_order_roll m (expr.Assign how p x)

pub logic_is : (m : Sense) (l : Logic) (xs : List Expr) → in_order m (tree.Logic l xs) ≡ each (in_order m) xs
logic_is m l xs = ap (in_order m) (sym (rolls-Logic l xs)) ∙ in_order_roll m (expr.Logic l xs) ∙ each_mapped (λ (c : Use). c.fit) (use_of m) xs

pub choice_is : (m : Sense) (x y z : Expr) → in_order m (tree.Choice x y z) ≡ (in_order m x && (in_order m y && in_order m z))
choice_is m x y z = ap (in_order m) (sym (rolls-Choice x y z)) ∙ in_order_roll m (expr.Choice x y z)

pub before_is : (m : Sense) (c : Change) (p : Place) → in_order m (tree.Before c p) ≡ place_in_order m p
before_is m c p = ap (in_order m) (sym (rolls-Before c p)) ∙ in_order_roll m (expr.Before c p)

pub after_is : (m : Sense) (c : Change) (p : Place) → in_order m (tree.After c p) ≡ place_in_order m p
after_is m c p = ap (in_order m) (sym (rolls-After c p)) ∙ in_order_roll m (expr.After c p)

-- ---- calls of functions of the program

pub call_is : (m : Sense) (n : word.Name) (xs : List Expr) → in_order m (tree.Call n xs) ≡ calls m (m.function n.word) (map (use_of m) xs)
call_is m n xs = ap (in_order m) (sym (rolls-Call n xs)) ∙ in_order_roll m (expr.Call n xs)

pub is_called : (m : Sense) (o : Option ℕ) (cs : List Use) → calls m o cs ≡ true → is_there o ≡ true
is_called m None cs h = h
is_called m (Some f) cs h = refl

pass_stops : (ks : List Kind) (cs : List Use) (c : Use) (ds : List Use) → fits (slice_get ks (length cs)) c ≡ false → all_fit ks (cs ++ c ∷ ds) ≡ false
pass_stops [] [] c ds here = refl
pass_stops (k ∷ ks) [] c ds here = first_false (fits (Some k) c) (all_fit ks ds) here
pass_stops [] (d ∷ cs) c ds here = refl
pass_stops (k ∷ ks) (d ∷ cs) c ds here = second_false (fits (Some k) d) (all_fit ks (cs ++ c ∷ ds)) (pass_stops ks cs c ds here)

so_many : (m : Sense) (xs : List Expr) (i : ℕ) → i < length xs → length (map (use_of m) (take i xs)) ≡ i
so_many m xs i h = let le : i ≤ length xs = omega arith in length-map (take i xs) (use_of m) ∙ length-take-le i xs le

pub arguments_stop : (m : Sense) (ks : List Kind) (k : Option Kind) (xs : List Expr) (i : ℕ) (x y : Expr) → i < length xs → x ≡ get_or xs i x → y ≡ x → k ≡ slice_get ks i
    → fits k (use_of m y) ≡ false → all_fit ks (map (use_of m) xs) ≡ false
arguments_stop m ks k xs i x y h at same kind here =
    let refused : fits (slice_get ks (length (map (use_of m) (take i xs)))) (use_of m x) ≡ false =
    ap (λ n. fits (slice_get ks n) (use_of m x)) (so_many m xs i h) ∙ ap (λ o. fits o (use_of m x)) (sym kind) ∙ ap (λ z. fits k (use_of m z)) (sym same) ∙ here in
    ap (λ l. all_fit ks (map (use_of m) l)) (around xs i x h at) ∙ ap (all_fit ks) (map-append (use_of m) (take i xs) (x ∷ drop (suc i) xs))
    ∙ pass_stops ks (map (use_of m) (take i xs)) (use_of m x) (map (use_of m) (drop (suc i) xs)) refused

-- the argument of a parameter
pub argument_fits : (m : Sense) (ks : List Kind) (k : Option Kind) (xs : List Expr) (i : ℕ) (x y : Expr) → i < length xs → x ≡ get_or xs i x → y ≡ x → k ≡ slice_get ks i
    → all_fit ks (map (use_of m) xs) ≡ true → fits k (use_of m y) ≡ true
argument_fits m ks k xs i x y h at same kind all =
    not_false (fits k (use_of m y)) (λ no. (let failed : false ≡ true = sym (arguments_stop m ks k xs i x y h at same kind no) ∙ all in cc))

-- `in`, of one subscript and of several
pub in_is : (m : Sense) (x : Expr) (ns : List word.Name) → in_order m (tree.In x ns) ≡ (in_order m x && each (names_array m) ns)
in_is m x ns = ap (in_order m) (sym (rolls-In x ns)) ∙ in_order_roll m (expr.In x ns)

pub list_in_is : (m : Sense) (n : word.Name) (xs : List Expr) → in_order m (tree.ListIn xs n) ≡ (names_array m n && each (in_order m) xs)
list_in_is m n xs = ap (in_order m) (sym (rolls-ListIn xs n)) ∙ in_order_roll m (expr.ListIn xs n) ∙ ap (λ b. names_array m n && b) (each_mapped (λ (c : Use). c.fit) (use_of m) xs)

-- ---- calls of built-in functions

-- a call of a built-in function, by its arguments
pub builtin_is : (m : Sense) (f : Builtin) (xs : List Expr) → in_order m (tree.Builtin f xs) ≡ builtin_step f (map (use_of m) xs)
builtin_is m f xs = ap (in_order m) (sym (rolls-Builtin f xs)) ∙ in_order_roll m (expr.Builtin f xs)

-- two items, and three
pub pair_of : {A : Type 0} (xs : List A) (x y : A) → 2 ≤ length xs → length xs < 3 → x ≡ get_or xs 0 x → y ≡ get_or xs 1 y → xs ≡ x ∷ y ∷ []
pair_of [] x y some few first second = absurd (omega arith)
pair_of (a ∷ []) x y some few first second = absurd (omega arith)
pair_of (a ∷ b ∷ []) x y some few first second = ap (λ z. z ∷ b ∷ []) (sym first) ∙ ap (λ z. x ∷ z ∷ []) (sym second)
pair_of (a ∷ b ∷ c ∷ xs) x y some few first second = absurd (omega arith)

pub three_of : {A : Type 0} (xs : List A) (x y z : A) → 3 ≤ length xs → length xs < 4 → x ≡ get_or xs 0 x → y ≡ get_or xs 1 y → z ≡ get_or xs 2 z → xs ≡ x ∷ y ∷ z ∷ []
three_of [] x y z some few first second third = absurd (omega arith)
three_of (a ∷ []) x y z some few first second third = absurd (omega arith)
three_of (a ∷ b ∷ []) x y z some few first second third = absurd (omega arith)
three_of (a ∷ b ∷ c ∷ []) x y z some few first second third = ap (λ v. v ∷ b ∷ c ∷ []) (sym first) ∙ ap (λ v. x ∷ v ∷ c ∷ []) (sym second) ∙ ap (λ v. x ∷ y ∷ v ∷ []) (sym third)
three_of (a ∷ b ∷ c ∷ d ∷ xs) x y z some few first second third = absurd (omega arith)

-- `match` of a text and what is sought
pub match_is : (m : Sense) (xs : List Expr) (x y : Expr) → xs ≡ x ∷ y ∷ [] → in_order m (tree.Builtin fun.Match xs) ≡ (in_order m x && in_order m y)
match_is m xs x y is = ap (λ l. in_order m (tree.Builtin fun.Match l)) is ∙ builtin_is m fun.Match (x ∷ y ∷ [])

-- `sub` and `gsub` of an expression and a replacement, with a place or without
replacing : (f : Builtin) (extent : Extent) (es : List Use) → extent_of f ≡ Some extent → builtin_step f es ≡ replaces es
replacing fun.Sub extent es is = refl
replacing fun.Gsub extent es is = refl
replacing fun.Length extent es is = cc
replacing fun.Index extent es is = cc
replacing fun.Substr extent es is = cc
replacing fun.Tolower extent es is = cc
replacing fun.Toupper extent es is = cc
replacing fun.Int extent es is = cc
replacing fun.Split extent es is = cc
replacing fun.Match extent es is = cc
replacing fun.Sprintf extent es is = cc

replace_is : (m : Sense) (f : Builtin) (extent : Extent) (xs : List Expr) → extent_of f ≡ Some extent → in_order m (tree.Builtin f xs) ≡ replaces (map (use_of m) xs)
replace_is m f extent xs is = builtin_is m f xs ∙ replacing f extent (map (use_of m) xs) is

pub record_is : (m : Sense) (f : Builtin) (extent : Extent) (xs : List Expr) (x y : Expr) → extent_of f ≡ Some extent → xs ≡ x ∷ y ∷ [] → in_order m (tree.Builtin f xs) ≡ (in_order m x && in_order m y)
record_is m f extent xs x y is two = replace_is m f extent xs is ∙ ap (λ l. replaces (map (use_of m) l)) two

pub changed_is : (m : Sense) (f : Builtin) (extent : Extent) (xs : List Expr) (x y z : Expr) → extent_of f ≡ Some extent → xs ≡ x ∷ y ∷ z ∷ [] → in_order m (tree.Builtin f xs) ≡ ((in_order m x && in_order m y) && changes m z)
changed_is m f extent xs x y z is three = replace_is m f extent xs is ∙ ap (λ l. replaces (map (use_of m) l)) three

-- `split` of a text into an array, with a separator or without
pub split_is : (m : Sense) (xs : List Expr) (x y : Expr) → xs ≡ x ∷ y ∷ [] → in_order m (tree.Builtin fun.Split xs) ≡ (in_order m x && (use_of m y).array)
split_is m xs x y is = ap (λ l. in_order m (tree.Builtin fun.Split l)) is ∙ builtin_is m fun.Split (x ∷ y ∷ [])

pub separated_is : (m : Sense) (xs : List Expr) (x y z : Expr) → xs ≡ x ∷ y ∷ z ∷ [] → in_order m (tree.Builtin fun.Split xs) ≡ ((in_order m x && (use_of m y).array) && in_order m z)
separated_is m xs x y z is = ap (λ l. in_order m (tree.Builtin fun.Split l)) is ∙ builtin_is m fun.Split (x ∷ y ∷ z ∷ [])

-- any other function is one of its values
applied : (f : Builtin) (es : List Use) → (f ≡ fun.Length → ⊥) → (f ≡ fun.Match → ⊥) → (f ≡ fun.Sub → ⊥) → (f ≡ fun.Gsub → ⊥) → (f ≡ fun.Split → ⊥) → builtin_step f es ≡ (has_builtin f (length es) && all_in_order es)
applied fun.Length es length_not match_not sub_not gsub_not split_not = absurd (length_not refl)
applied fun.Match es length_not match_not sub_not gsub_not split_not = absurd (match_not refl)
applied fun.Sub es length_not match_not sub_not gsub_not split_not = absurd (sub_not refl)
applied fun.Gsub es length_not match_not sub_not gsub_not split_not = absurd (gsub_not refl)
applied fun.Split es length_not match_not sub_not gsub_not split_not = absurd (split_not refl)
applied _ es length_not match_not sub_not gsub_not split_not = refl

values_in_order : (m : Sense) (f : Builtin) (xs : List Expr) → (has_builtin f (length (map (use_of m) xs)) && all_in_order (map (use_of m) xs)) ≡ (has_builtin f (length xs) && each (in_order m) xs)
values_in_order m f xs =
    ap (λ n. has_builtin f n && all_in_order (map (use_of m) xs)) (length-map xs (use_of m)) ∙ ap (λ b. has_builtin f (length xs) && b) (each_mapped (λ (c : Use). c.fit) (use_of m) xs)

pub applied_is : (m : Sense) (f : Builtin) (xs : List Expr) → (f ≡ fun.Length → ⊥) → (f ≡ fun.Match → ⊥) → (f ≡ fun.Sub → ⊥) → (f ≡ fun.Gsub → ⊥) → (f ≡ fun.Split → ⊥) → in_order m (tree.Builtin f xs) ≡ (has_builtin f (length xs) && each (in_order m) xs)
applied_is m f xs length_not match_not sub_not gsub_not split_not = builtin_is m f xs ∙ applied f (map (use_of m) xs) length_not match_not sub_not gsub_not split_not ∙ values_in_order m f xs

pub applied_parts : (m : Sense) (f : Builtin) (xs : List Expr) → (f ≡ fun.Length → ⊥) → (f ≡ fun.Match → ⊥) → (f ≡ fun.Sub → ⊥) → (f ≡ fun.Gsub → ⊥) → (f ≡ fun.Split → ⊥) → builtin_step f (map (use_of m) xs) ≡ true
    → (has_builtin f (length xs) ≡ true) × (each (in_order m) xs ≡ true)
applied_parts m f xs length_not match_not sub_not gsub_not split_not h =
    parts (has_builtin f (length xs)) (each (in_order m) xs) (builtin_step f (map (use_of m) xs)) (applied f (map (use_of m) xs) length_not match_not sub_not gsub_not split_not ∙ values_in_order m f xs) h

-- `length` of the name of an array alone, and of anything else
length_is : (m : Sense) (xs : List Expr) → builtin_step fun.Length (map (use_of m) xs) ≡ (counts (map (use_of m) xs) || (has_builtin fun.Length (length xs) && each (in_order m) xs))
length_is m xs = ap (λ b. counts (map (use_of m) xs) || b) (values_in_order m fun.Length xs)

pub counted_is : (m : Sense) (xs : List Expr) → true ≡ counts (map (use_of m) xs) → in_order m (tree.Builtin fun.Length xs) ≡ true
counted_is m xs h = builtin_is m fun.Length xs ∙ length_is m xs ∙ ap (λ b. b || (has_builtin fun.Length (length xs) && each (in_order m) xs)) (sym h)

pub uncounted_is : (m : Sense) (xs : List Expr) → false ≡ counts (map (use_of m) xs) → in_order m (tree.Builtin fun.Length xs) ≡ (has_builtin fun.Length (length xs) && each (in_order m) xs)
uncounted_is m xs h = builtin_is m fun.Length xs ∙ length_is m xs ∙ ap (λ b. b || (has_builtin fun.Length (length xs) && each (in_order m) xs)) (sym h)

pub uncounted_parts : (m : Sense) (xs : List Expr) → false ≡ counts (map (use_of m) xs) → builtin_step fun.Length (map (use_of m) xs) ≡ true → (has_builtin fun.Length (length xs) ≡ true) × (each (in_order m) xs ≡ true)
uncounted_parts m xs none h =
    parts (has_builtin fun.Length (length xs)) (each (in_order m) xs) (builtin_step fun.Length (map (use_of m) xs)) (length_is m xs ∙ ap (λ b. b || (has_builtin fun.Length (length xs) && each (in_order m) xs)) (sym none)) h

-- ---- places

use_out : (m : Sense) (e : Expr) → use_of m e ≡ expr_step m (map-Expr Expr Place Link Use Use Bool (use_of m) (place_use m) (link_in_order m) (out-Expr e))
unfolding use_of place_use link_in_order
use_out m e = fold_out-Expr Use Use Bool (expr_step m) (place_step m) link_step e

place_use_roll : (m : Sense) (d : Place-F Expr Place Link) → place_use m (roll-Place d) ≡ place_step m (map-Place Expr Place Link Use Use Bool (use_of m) (place_use m) (link_in_order m) d)
unfolding use_of place_use link_in_order
place_use_roll m d = fold-roll-Place Use Use Bool (expr_step m) (place_step m) link_step d

pub name_use : (m : Sense) (n : word.Name) → place_use m (spot.Name n) ≡ place_step m (expr.Name n)
name_use m n = ap (place_use m) (sym (rolls-Name n)) ∙ place_use_roll m (expr.Name n)

field_use : (m : Sense) (x : Expr) → place_use m (spot.Field x) ≡ place_step m (expr.Field (use_of m x))
field_use m x = ap (place_use m) (sym (rolls-Field x)) ∙ place_use_roll m (expr.Field x)

element_use : (m : Sense) (n : word.Name) (xs : List Expr) → place_use m (spot.Element n xs) ≡ place_step m (expr.Element n (map (use_of m) xs))
element_use m n xs = ap (place_use m) (sym (rolls-Element n xs)) ∙ place_use_roll m (expr.Element n xs)

-- what is a place
all_placed : (m : Sense) (d : Place-F Use Use Bool) → (place_step m d).place ≡ true
all_placed m (expr.Name n) = refl
all_placed m (expr.Field c) = refl
all_placed m (expr.Element n cs) = refl

always_place : (m : Sense) (p : Place) → (place_use m p).place ≡ true
always_place m p =
    ap (λ q. (place_use m q).place) (sym (roll-out-Place p)) ∙ ap (λ (c : Use). c.place) (place_use_roll m (out-Place p))
    ∙ all_placed m (map-Place Expr Place Link Use Use Bool (use_of m) (place_use m) (link_in_order m) (out-Place p))

pub of_use : (m : Sense) (e : Expr) (p : Place) → e ≡ tree.Of p → use_of m e ≡ place_use m p
of_use m e p is = ap (use_of m) (is ∙ sym (rolls-Of p)) ∙ use_roll m (expr.Of p)

is_place : (m : Sense) (e : Expr) (p : Place) → e ≡ tree.Of p → (use_of m e).place ≡ true
is_place m e p is = ap (λ (c : Use). c.place) (of_use m e p is) ∙ always_place m p

pub of_changes : (m : Sense) (e : Expr) (p : Place) → e ≡ tree.Of p → changes m e ≡ place_in_order m p
of_changes m e p is = first_alone (in_order m e) (use_of m e).place (is_place m e p is) ∙ ap (in_order m) is ∙ of_is m p

-- what is the name of an array alone

-- what is no place cannot be changed
no_place : (m : Sense) (e : Expr) → ((p : Place) → e ≡ tree.Of p → ⊥) → (use_of m e).place ≡ false
no_place m e not = ap (λ (c : Use). c.place) (use_out m e) ∙ go (out-Expr e) (sym (roll-out-Expr e))
  where
    go : (d : Expr-F Expr Place Link) → e ≡ roll-Expr d → (expr_step m (map-Expr Expr Place Link Use Use Bool (use_of m) (place_use m) (link_in_order m) d)).place ≡ false
    go (expr.Of p) q = absurd (not p (q ∙ rolls-Of p))
    go _ q = refl

pub unchanged : (m : Sense) (e : Expr) → ((p : Place) → e ≡ tree.Of p → ⊥) → changes m e ≡ true → ⊥
unchanged m e not h = let no : false ≡ true = sym (second_false (in_order m e) (use_of m e).place (no_place m e not)) ∙ h in cc

-- what is the name of an array alone
pub name_array : (m : Sense) (p : Place) (n : word.Name) (w : List ℕ) (o : Option Array) → p ≡ spot.Name n → w ≡ n.word → o ≡ m.array w → is_there o ≡ (place_use m p).array
name_array m p n w o is same found =
    ap is_there (found ∙ ap m.array same) ∙ sym (ap (λ q. (place_use m q).array) is ∙ ap (λ (c : Use). c.array) (name_use m n))

pub no_name : (m : Sense) (p : Place) → ((n : word.Name) → p ≡ spot.Name n → ⊥) → false ≡ (place_use m p).array
no_name m p not = go (out-Place p) (sym (roll-out-Place p))
  where
    go : (d : Place-F Expr Place Link) → p ≡ roll-Place d → false ≡ (place_use m p).array
    go (expr.Name n) q = absurd (not n (q ∙ rolls-Name n))
    go (expr.Field x) q = sym (ap (λ v. (place_use m v).array) q ∙ ap (λ (c : Use). c.array) (place_use_roll m (expr.Field x)))
    go (expr.Element n xs) q = sym (ap (λ v. (place_use m v).array) q ∙ ap (λ (c : Use). c.array) (place_use_roll m (expr.Element n xs)))

pub of_array : (m : Sense) (e : Expr) (p : Place) → e ≡ tree.Of p → (place_use m p).array ≡ (use_of m e).array
of_array m e p is = sym (ap (λ (c : Use). c.array) (of_use m e p is))

pub no_array : (m : Sense) (e : Expr) → ((p : Place) → e ≡ tree.Of p → ⊥) → false ≡ (use_of m e).array
no_array m e not = sym (ap (λ (c : Use). c.array) (use_out m e) ∙ go (out-Expr e) (sym (roll-out-Expr e)))
  where
    go : (d : Expr-F Expr Place Link) → e ≡ roll-Expr d → (expr_step m (map-Expr Expr Place Link Use Use Bool (use_of m) (place_use m) (link_in_order m) d)).array ≡ false
    go (expr.Of p) q = absurd (not p (q ∙ rolls-Of p))
    go _ q = refl

pub name_is : (m : Sense) (n : word.Name) → place_in_order m (spot.Name n) ≡ names_scalar m n
name_is m n = ap (λ (c : Use). c.fit) (name_use m n)

pub field_is : (m : Sense) (x : Expr) → place_in_order m (spot.Field x) ≡ in_order m x
field_is m x = ap (λ (c : Use). c.fit) (field_use m x)

pub element_is : (m : Sense) (n : word.Name) (xs : List Expr) → place_in_order m (spot.Element n xs) ≡ (names_array m n && each (in_order m) xs)
element_is m n xs = ap (λ (c : Use). c.fit) (element_use m n xs) ∙ ap (λ b. names_array m n && b) (each_mapped (λ (c : Use). c.fit) (use_of m) xs)

-- ---- links

pub link_is : (m : Sense) (l : Link) → link_in_order m l ≡ in_order m l.operand
unfolding use_of place_use link_in_order
link_is m l = fold_out-Link Use Use Bool (expr_step m) (place_step m) link_step l

-- ---- formats

pub formatted_some : (m : Sense) (es : List Expr) → formatted m es ≡ true → length es ≡ 0 → ⊥
formatted_some m [] h none = cc
formatted_some m (e ∷ es) h none = let no : suc (length es) ≡ 0 = none in omega arith

pub formatted_each : (m : Sense) (es : List Expr) → formatted m es ≡ true → each (in_order m) es ≡ true
formatted_each m [] h = refl
formatted_each m (e ∷ es) h = h
