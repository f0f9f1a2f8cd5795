-- What the grammar derives is in order, where names stand for what its mentions ask: expressions.
use Rattle.std.proofs.Common.{◌≡◌, ◌≢◌, ℕ, ◌≤◌, suc, zero, Bool, true, false, nat_le, eq-eqb, ◌&&◌, ◌||◌, ◌==◌, ◌⊎◌, inl, inr, List, [], ◌∷◌, ◌++◌, length, map, Option, Some, None, refl, sym, ap, subst, ◌∙◌, rules, arith}
use Rattle.std.proofs.lemmas.Bool.Decides.{nat_tests}
use Rattle.rawk_keywords.specs.declared.builtin.Builtin.{Builtin}
use Rattle.rawk_keywords.specs.declared.builtin.Builtin.TheVariants as fun
use Rattle.rawk_keywords.specs.Builtins.{is_within, takes}
use Rattle.rawk_lexer.specs.Escape.{unescaped_of, unquoted}
use Rattle.rawk_lexer.specs.Lex.{left}
use Rattle.rawk_parsing.specs.declared.tree.Expr.{Expr, out-Expr, roll-Expr, roll-out-Expr}
use Rattle.rawk_parsing.specs.declared.tree.Expr.TheOpen as expr
use Rattle.rawk_parsing.specs.declared.tree.Expr.TheOpen.{Expr-F}
use Rattle.rawk_parsing.specs.declared.tree.Expr.TheVariants as tree
use Rattle.rawk_parsing.specs.declared.tree.Expr.TheVariants.{rolls-Of}
use Rattle.rawk_parsing.specs.declared.tree.Link.{Link}
use Rattle.rawk_parsing.specs.declared.tree.Name.{Name}
use Rattle.rawk_parsing.specs.declared.tree.Operator.{Operator}
use Rattle.rawk_parsing.specs.declared.tree.Place.{Place}
use Rattle.rawk_parsing.specs.declared.tree.Place.TheVariants as spot
use Rattle.rawk_parsing.specs.Parser.{Input, name_at}
use Rattle.rawk_parsing.specs.Tables.{is_shaped, is_open_place, is_open_name, is_name_place, fits}
use Rattle.rawk_parsing.specs.Tables as table
use Rattle.rawk_expression.specs.Expression.{link, chained, contained}
use Rattle.rawk_expression.specs.Grammar.{Phrase, Whole, Test, Further, Member, Level, Links, Unary, Power, Postfix, Dollar, Primary, APlace, Arguments, Listed, PrintList, Derives}
use Rattle.rawk_expression.specs.Grammar as by
use Rattle.rawk_expression.specs.Operands.{bare_fits}
use Rattle.rawk_words.specs.declared.operator.Extent.{Extent}
use Rattle.rawk_words.specs.declared.operator.Extent.TheVariants as extent
use Rattle.rawk_resolution.specs.Calls.{has_builtin}
use Rattle.rawk_names.specs.Mentions.{AsScalar, AsArray, Measured, Called, Pattern, Seen, all, every, builtin_name, builtin_at, builtin_arguments, call_arguments, seen, place_seen, link_mentions, mentions, place_mentions}
use Rattle.rawk_names.specs.SeenLaws.{seen-Number, seen-Text, seen-Ere, seen-Group, seen-Before, seen-After, seen-Power, seen-Signed, seen-Chain, seen-In, seen-ListIn, seen-Logic, seen-Choice, seen-Assign, seen-Builtin, seen-Call, seen-Getline, seen-GetlineTo, seen-Of, place_seen-Name, place_seen-Element, place_seen-Field, link_mentions-is, name-Of, place_name-Name}
use Rattle.rawk_resolution.specs.Meant.{Sense}
use Rattle.rawk_resolution.specs.Settled.{extent_of}
use Rattle.rawk_resolution.specs.InOrder.{Use, place_step, names_array, names_scalar, calls, each, use_of, place_use, in_order, place_in_order, link_in_order, changes}
use Rattle.rawk_resolution.specs.Orders.{both, split, number_is, text_is, ere_is, getline_is, getline_to_is, of_is, group_is, signed_is, power_is, chain_is, assign_is, logic_is, choice_is, before_is, after_is, call_is, in_is, list_in_is, match_is, record_is, changed_is, split_is, separated_is, applied_is, counted_is, uncounted_is, of_use, name_use, of_changes, field_is, element_is, link_is}
use Rattle.rawk_syntax.proofs.Meets.{AllMeet, first_meet, last_meet, all_arrays, Named, Fine, FineExpr, FinePlace, FineExprs, FineLinks, fine_only, fine_moved, all_in_order, call_fits, scalar_fit, scalars_fit}

-- ---- how many arguments a function has, and of which shape

split_or : (a b : Bool) → (a || b) ≡ true → (a ≡ true) ⊎ (b ≡ true)
split_or true b h = inl refl
split_or false b h = inr h

is_same : (a b : ℕ) → (a == b) ≡ true → a ≡ b
is_same a b h = search (arith, nat_tests, h)

fits_parts : (f : Builtin) (es : List Expr) → fits f es ≡ true → (takes f (length es) ≡ true) × (is_shaped f es ≡ true)
unfolding fits
fits_parts f es h = split (takes f (length es)) (is_shaped f es) h

within : (n least most : ℕ) → is_within n least (Some most) ≡ true → (least ≤ n) × (n ≤ most)
within n least most h =
    let both = split (nat_le least n) (nat_le n most) h in
    (search (arith, nat_tests, both.0), search (arith, nat_tests, both.1))

exactly : (n k : ℕ) → is_within n k (Some k) ≡ true → n ≡ k
exactly n k h = let w = within n k k h in omega arith

one_of : (n k : ℕ) → is_within n k (Some (suc k)) ≡ true → (n == k) ≡ true ⊎ (n == suc k) ≡ true
one_of n k h = go (n == k) refl
  where
    go : (b : Bool) → (n == k) ≡ b → (n == k) ≡ true ⊎ (n == suc k) ≡ true
    go true e = inl e
    go false e =
        let w = within n k (suc k) h in
        let ne : n ≢ k = search (rules, e) in
        inr (eq-eqb n (suc k) (omega arith))

has_one : (f : Builtin) (n : ℕ) → has_builtin f 1 ≡ true → n ≡ 1 → has_builtin f n ≡ true
has_one f n one h = ap (has_builtin f) h ∙ one

has_some : (n : ℕ) → is_within n 1 None ≡ true → has_builtin fun.Sprintf n ≡ true
has_some zero h = cc
has_some (suc n) h = refl

has_substr : (n : ℕ) → (n == 2) ≡ true ⊎ (n == 3) ≡ true → has_builtin fun.Substr n ≡ true
has_substr n (inl h) = ap (has_builtin fun.Substr) (is_same n 2 h)
has_substr n (inr h) = ap (has_builtin fun.Substr) (is_same n 3 h)

of_place : (e : Expr) → table.is_place e ≡ true → (p : Place) × (e ≡ tree.Of p)
unfolding table.is_place
of_place e h = go (out-Expr e) (sym (roll-out-Expr e)) h
  where
    go : (d : Expr-F Expr Place Link) → e ≡ roll-Expr d → is_open_place d ≡ true → (p : Place) × (e ≡ tree.Of p)
    go (expr.Of p) q g = (p, q ∙ rolls-Of p)
    go _ q g = cc

named_place : (p : Place) → is_name_place p ≡ true → (n : Name) × (p ≡ spot.Name n)
named_place (spot.Name n) h = (n, refl)
named_place _ h = cc

of_name : (e : Expr) → table.is_name e ≡ true → (n : Name) × (e ≡ tree.Of (spot.Name n))
unfolding table.is_name
of_name e h = go (out-Expr e) (sym (roll-out-Expr e)) h
  where
    go : (d : Expr-F Expr Place Link) → e ≡ roll-Expr d → is_open_name d ≡ true → (n : Name) × (e ≡ tree.Of (spot.Name n))
    go (expr.Of p) q g = let a = named_place p g in (a.0, q ∙ rolls-Of p ∙ ap tree.Of a.1)
    go _ q g = cc

-- ---- calls of built-in functions

-- the values of all arguments
values_fine : (m : Sense) (f : Builtin) (es : List Expr) → (f ≡ fun.Length → ⊥) → (f ≡ fun.Match → ⊥) → (f ≡ fun.Sub → ⊥) → (f ≡ fun.Gsub → ⊥) → (f ≡ fun.Split → ⊥) → ((j : ℕ) (x : Name) → builtin_name f j x ≡ AsScalar x)
    → has_builtin f (length es) ≡ true → FineExprs m es → AllMeet m (builtin_arguments f 0 (map seen es)) → in_order m (tree.Builtin f es) ≡ true
values_fine m f es length_not match_not sub_not gsub_not split_not plain has h g =
    applied_is m f es length_not match_not sub_not gsub_not split_not ∙ both (has_builtin f (length es)) (each (in_order m) es) has (scalars_fit m f 0 es plain h g)

too_many : {A : Type 0} (n : ℕ) (x y z : A) (xs : List A) → length (x ∷ y ∷ z ∷ xs) ≡ n → n ≤ 2 → ⊥
too_many n x y z xs h le = let no : suc (suc (suc (length xs))) ≡ n = h in omega (arith, no, le)

match_fine : (m : Sense) (es : List Expr) → length es ≡ 2 → each (in_order m) es ≡ true → in_order m (tree.Builtin fun.Match es) ≡ true
match_fine m [] two h = absurd (let no : 0 ≡ 2 = two in omega (arith, no))
match_fine m (x ∷ []) two h = absurd (let no : 1 ≡ 2 = two in omega (arith, no))
match_fine m (x ∷ y ∷ []) two h =
    let a = split (in_order m x) (in_order m y && true) h in
    match_is m (x ∷ y ∷ []) x y refl ∙ both (in_order m x) (in_order m y) a.0 (split (in_order m y) true a.1).0
match_fine m (x ∷ y ∷ z ∷ xs) two h = absurd (too_many 2 x y z xs two (omega arith))

replace_fine : (m : Sense) (f : Builtin) (extent : Extent) (es : List Expr) → extent_of f ≡ Some extent → (length es == 2) ≡ true ⊎ (length es == 3) ≡ true → table.third_is_place es ≡ true → each (in_order m) es ≡ true → in_order m (tree.Builtin f es) ≡ true
replace_fine m f extent [] is count shape h = elim count [ inl a ↦ absurd cc | inr a ↦ absurd cc ]
replace_fine m f extent (x ∷ []) is count shape h = elim count [ inl a ↦ absurd cc | inr a ↦ absurd cc ]
replace_fine m f extent (x ∷ y ∷ []) is count shape h =
    let a = split (in_order m x) (in_order m y && true) h in
    record_is m f extent (x ∷ y ∷ []) x y is refl ∙ both (in_order m x) (in_order m y) a.0 (split (in_order m y) true a.1).0
replace_fine m f extent (x ∷ y ∷ z ∷ []) is count shape h =
    let a = split (in_order m x) (in_order m y && (in_order m z && true)) h in
    let b = split (in_order m y) (in_order m z && true) a.1 in
    let p = of_place z shape in
    let third : changes m z ≡ true = of_changes m z p.0 p.1 ∙ sym (ap (in_order m) p.1 ∙ of_is m p.0) ∙ (split (in_order m z) true b.1).0 in
    changed_is m f extent (x ∷ y ∷ z ∷ []) x y z is refl ∙ both (in_order m x && in_order m y) (changes m z) (both (in_order m x) (in_order m y) a.0 b.0) third
replace_fine m f extent (x ∷ y ∷ z ∷ v ∷ xs) is count shape h =
    let no : length (x ∷ y ∷ z ∷ v ∷ xs) ≡ suc (suc (suc (suc (length xs)))) = refl in
    elim count [ inl a ↦ absurd (omega (arith, is_same (length (x ∷ y ∷ z ∷ v ∷ xs)) 2 a, no)) | inr a ↦ absurd (omega (arith, is_same (length (x ∷ y ∷ z ∷ v ∷ xs)) 3 a, no)) ]

-- a name alone that is mentioned as an array
array_argument : (m : Sense) (e : Expr) → table.is_name e ≡ true → FineExpr m e → AllMeet m (builtin_at fun.Split 1 (seen e).mentions (seen e).name) → (use_of m e).array ≡ true
array_argument m e shape h g =
    let a = of_name e shape in
    let named : (seen e).name ≡ Some a.0 = ap (λ z. (seen z).name) a.1 ∙ name-Of (spot.Name a.0) ∙ place_name-Name a.0 in
    let met : AllMeet m (AsArray a.0 ∷ []) = subst (λ (o : Option Name). AllMeet m (builtin_at fun.Split 1 (seen e).mentions o)) named g in
    ap (λ (c : Use). c.array) (subst (λ (o : Option Name). Named m o (use_of m e)) named h.named) ∙ met.0

split_fine : (m : Sense) (es : List Expr) → (length es == 2) ≡ true ⊎ (length es == 3) ≡ true → table.second_is_name es ≡ true → FineExprs m es → AllMeet m (builtin_arguments fun.Split 0 (map seen es)) → in_order m (tree.Builtin fun.Split es) ≡ true
split_fine m [] count shape h g = elim count [ inl a ↦ absurd cc | inr a ↦ absurd cc ]
split_fine m (x ∷ []) count shape h g = elim count [ inl a ↦ absurd cc | inr a ↦ absurd cc ]
split_fine m (x ∷ y ∷ []) count shape h g =
    let first = builtin_at fun.Split 0 (seen x).mentions (seen x).name in
    let second = builtin_at fun.Split 1 (seen y).mentions (seen y).name in
    let rest = last_meet m first (second ++ []) g in
    split_is m (x ∷ y ∷ []) x y refl
    ∙ both (in_order m x) (use_of m y).array (scalar_fit m fun.Split 0 (seen x) (use_of m x) (λ n. refl) h.0 (first_meet m first (second ++ []) g)) (array_argument m y shape h.1.0 (first_meet m second [] rest))
split_fine m (x ∷ y ∷ z ∷ []) count shape h g =
    let first = builtin_at fun.Split 0 (seen x).mentions (seen x).name in
    let second = builtin_at fun.Split 1 (seen y).mentions (seen y).name in
    let third = builtin_at fun.Split 2 (seen z).mentions (seen z).name in
    let rest = last_meet m first (second ++ (third ++ [])) g in
    let more = last_meet m second (third ++ []) rest in
    separated_is m (x ∷ y ∷ z ∷ []) x y z refl
    ∙ both (in_order m x && (use_of m y).array) (in_order m z)
    (both (in_order m x) (use_of m y).array (scalar_fit m fun.Split 0 (seen x) (use_of m x) (λ n. refl) h.0 (first_meet m first (second ++ (third ++ [])) g)) (array_argument m y shape h.1.0 (first_meet m second (third ++ []) rest)))
    (scalar_fit m fun.Split 2 (seen z) (use_of m z) (λ n. refl) h.1.1.0 (first_meet m third [] more))
split_fine m (x ∷ y ∷ z ∷ v ∷ xs) count shape h g =
    let no : length (x ∷ y ∷ z ∷ v ∷ xs) ≡ suc (suc (suc (suc (length xs)))) = refl in
    elim count [ inl a ↦ absurd (omega (arith, is_same (length (x ∷ y ∷ z ∷ v ∷ xs)) 2 a, no)) | inr a ↦ absurd (omega (arith, is_same (length (x ∷ y ∷ z ∷ v ∷ xs)) 3 a, no)) ]

-- an array whose elements are counted, or a value
measured : (m : Sense) (s : Seen) (c : Use) → Fine m s c → AllMeet m (builtin_at fun.Length 0 s.mentions s.name) → (c.array ≡ true) ⊎ (c.fit ≡ true)
measured m s c h g = by_name s.name refl
  where
    by_name : (o : Option Name) → s.name ≡ o → (c.array ≡ true) ⊎ (c.fit ≡ true)
    by_name None e = inr (h.fit (subst (λ (o : Option Name). AllMeet m (builtin_at fun.Length 0 s.mentions o)) e g))
    by_name (Some x) e =
        let met : AllMeet m (Measured x ∷ []) = subst (λ (o : Option Name). AllMeet m (builtin_at fun.Length 0 s.mentions o)) e g in
        let is : c ≡ place_step m (expr.Name x) = subst (λ (o : Option Name). Named m o c) e h.named in
        elim (split_or (names_array m x) (names_scalar m x) met.0) [ inl a ↦ inl (ap (λ (z : Use). z.array) is ∙ a) | inr a ↦ inr (ap (λ (z : Use). z.fit) is ∙ a) ]

length_fine : (m : Sense) (es : List Expr) → (length es == 0) ≡ true ⊎ (length es == 1) ≡ true → FineExprs m es → AllMeet m (builtin_arguments fun.Length 0 (map seen es)) → in_order m (tree.Builtin fun.Length es) ≡ true
length_fine m [] count h g = uncounted_is m [] refl
length_fine m (x ∷ []) count h g = go (use_of m x).array refl (measured m (seen x) (use_of m x) h.0 (first_meet m (builtin_at fun.Length 0 (seen x).mentions (seen x).name) [] g))
  where
    go : (b : Bool) → (use_of m x).array ≡ b → ((use_of m x).array ≡ true) ⊎ (in_order m x ≡ true) → in_order m (tree.Builtin fun.Length (x ∷ [])) ≡ true
    go true e w = counted_is m (x ∷ []) (sym e)
    go false e (inl w) = absurd (let no : false ≡ true = sym e ∙ w in cc)
    go false e (inr w) = uncounted_is m (x ∷ []) (sym e) ∙ both (in_order m x) true w refl
length_fine m (x ∷ y ∷ xs) count h g =
    let no : length (x ∷ y ∷ xs) ≡ suc (suc (length xs)) = refl in
    elim count [ inl a ↦ absurd (omega (arith, is_same (length (x ∷ y ∷ xs)) 0 a, no)) | inr a ↦ absurd (omega (arith, is_same (length (x ∷ y ∷ xs)) 1 a, no)) ]

builtin_met : (m : Sense) (f : Builtin) (es : List Expr) → takes f (length es) ≡ true → is_shaped f es ≡ true → FineExprs m es → AllMeet m (builtin_arguments f 0 (map seen es)) → in_order m (tree.Builtin f es) ≡ true
unfolding takes
builtin_met m fun.Length es count shape h g = length_fine m es (one_of (length es) 0 count) h g
builtin_met m fun.Index es count shape h g = values_fine m fun.Index es (λ q. cc) (λ q. cc) (λ q. cc) (λ q. cc) (λ q. cc) (λ j x. refl) (ap (has_builtin fun.Index) (exactly (length es) 2 count)) h g
builtin_met m fun.Substr es count shape h g = values_fine m fun.Substr es (λ q. cc) (λ q. cc) (λ q. cc) (λ q. cc) (λ q. cc) (λ j x. refl) (has_substr (length es) (one_of (length es) 2 count)) h g
builtin_met m fun.Split es count shape h g = split_fine m es (one_of (length es) 2 count) shape h g
builtin_met m fun.Sub es count shape h g = replace_fine m fun.Sub extent.First es refl (one_of (length es) 2 count) shape (scalars_fit m fun.Sub 0 es (λ j x. refl) h g)
builtin_met m fun.Gsub es count shape h g = replace_fine m fun.Gsub extent.All es refl (one_of (length es) 2 count) shape (scalars_fit m fun.Gsub 0 es (λ j x. refl) h g)
builtin_met m fun.Match es count shape h g = match_fine m es (exactly (length es) 2 count) (scalars_fit m fun.Match 0 es (λ j x. refl) h g)
builtin_met m fun.Sprintf es count shape h g = values_fine m fun.Sprintf es (λ q. cc) (λ q. cc) (λ q. cc) (λ q. cc) (λ q. cc) (λ j x. refl) (has_some (length es) count) h g
builtin_met m fun.Tolower es count shape h g = values_fine m fun.Tolower es (λ q. cc) (λ q. cc) (λ q. cc) (λ q. cc) (λ q. cc) (λ j x. refl) (has_one fun.Tolower (length es) refl (exactly (length es) 1 count)) h g
builtin_met m fun.Toupper es count shape h g = values_fine m fun.Toupper es (λ q. cc) (λ q. cc) (λ q. cc) (λ q. cc) (λ q. cc) (λ j x. refl) (has_one fun.Toupper (length es) refl (exactly (length es) 1 count)) h g
builtin_met m fun.Int es count shape h g = values_fine m fun.Int es (λ q. cc) (λ q. cc) (λ q. cc) (λ q. cc) (λ q. cc) (λ j x. refl) (has_one fun.Int (length es) refl (exactly (length es) 1 count)) h g

builtin_fine : (m : Sense) (f : Builtin) (es : List Expr) → fits f es ≡ true → FineExprs m es → FineExpr m (tree.Builtin f es)
builtin_fine m f es fit h =
    let parts = fits_parts f es fit in
    fine_only m (seen (tree.Builtin f es)) (use_of m (tree.Builtin f es)) (builtin_arguments f 0 (map seen es)) (in_order m (tree.Builtin f es)) (seen-Builtin f es) refl (builtin_met m f es parts.0 parts.1 h)

-- ---- each kind of expression

of_fine : (m : Sense) (p : Place) → FinePlace m p → FineExpr m (tree.Of p)
of_fine m p h = fine_moved m (seen (tree.Of p)) (place_seen p) (use_of m (tree.Of p)) (place_use m p) (seen-Of p) (of_use m (tree.Of p) p refl) h

name_fine : (m : Sense) (n : Name) → FinePlace m (spot.Name n)
name_fine m n =
    fine_moved m (place_seen (spot.Name n)) (record { mentions = AsScalar n ∷ []; name = Some n }) (place_use m (spot.Name n)) (place_step m (expr.Name n)) (place_seen-Name n) (name_use m n)
    (record { named = refl; fit = λ g. g.0 })

element_fine : (m : Sense) (n : Name) (es : List Expr) → FineExprs m es → FinePlace m (spot.Element n es)
element_fine m n es h =
    fine_only m (place_seen (spot.Element n es)) (place_use m (spot.Element n es)) (AsArray n ∷ all (map seen es)) (names_array m n && each (in_order m) es) (place_seen-Element n es) (element_is m n es)
    (λ g. both (names_array m n) (each (in_order m) es) g.0 (all_in_order m es h g.1))

field_fine : (m : Sense) (e : Expr) → FineExpr m e → FinePlace m (spot.Field e)
field_fine m e h = fine_only m (place_seen (spot.Field e)) (place_use m (spot.Field e)) (mentions e) (in_order m e) (place_seen-Field e) (field_is m e) h.fit

choice_fine : (m : Sense) (a b c : Expr) → FineExpr m a → FineExpr m b → FineExpr m c → FineExpr m (tree.Choice a b c)
choice_fine m a b c x y z =
    fine_only m (seen (tree.Choice a b c)) (use_of m (tree.Choice a b c)) (mentions a ++ (mentions b ++ mentions c)) (in_order m a && (in_order m b && in_order m c)) (seen-Choice a b c) (choice_is m a b c)
    (λ g. (let rest = last_meet m (mentions a) (mentions b ++ mentions c) g in
    both (in_order m a) (in_order m b && in_order m c) (x.fit (first_meet m (mentions a) (mentions b ++ mentions c) g))
    (both (in_order m b) (in_order m c) (y.fit (first_meet m (mentions b) (mentions c) rest)) (z.fit (last_meet m (mentions b) (mentions c) rest)))))

logic_fine : (m : Sense) (l : _) (es : List Expr) → FineExprs m es → FineExpr m (tree.Logic l es)
logic_fine m l es h = fine_only m (seen (tree.Logic l es)) (use_of m (tree.Logic l es)) (all (map seen es)) (each (in_order m) es) (seen-Logic l es) (logic_is m l es) (all_in_order m es h)

assign_fine : (m : Sense) (how : _) (p : Place) (e : Expr) → FinePlace m p → FineExpr m e → FineExpr m (tree.Assign how p e)
assign_fine m how p e x y =
    fine_only m (seen (tree.Assign how p e)) (use_of m (tree.Assign how p e)) (place_mentions p ++ mentions e) (place_in_order m p && in_order m e) (seen-Assign how p e) (assign_is m how p e)
    (λ g. both (place_in_order m p) (in_order m e) (x.fit (first_meet m (place_mentions p) (mentions e) g)) (y.fit (last_meet m (place_mentions p) (mentions e) g)))

contained_fine : (m : Sense) (e : Expr) (ns : List Name) → FineExpr m e → FineExpr m (contained e ns)
unfolding contained
contained_fine m e [] h = h
contained_fine m e (n ∷ ns) h =
    fine_only m (seen (tree.In e (n ∷ ns))) (use_of m (tree.In e (n ∷ ns))) (mentions e ++ map AsArray (n ∷ ns)) (in_order m e && each (names_array m) (n ∷ ns)) (seen-In e (n ∷ ns)) (in_is m e (n ∷ ns))
    (λ g. both (in_order m e) (each (names_array m) (n ∷ ns)) (h.fit (first_meet m (mentions e) (map AsArray (n ∷ ns)) g)) (all_arrays m (n ∷ ns) (last_meet m (mentions e) (map AsArray (n ∷ ns)) g)))

list_in_fine : (m : Sense) (es : List Expr) (n : Name) → FineExprs m es → FineExpr m (tree.ListIn es n)
list_in_fine m es n h =
    fine_only m (seen (tree.ListIn es n)) (use_of m (tree.ListIn es n)) (all (map seen es) ++ AsArray n ∷ []) (names_array m n && each (in_order m) es) (seen-ListIn es n) (list_in_is m n es)
    (λ g. both (names_array m n) (each (in_order m) es) (last_meet m (all (map seen es)) (AsArray n ∷ []) g).0 (all_in_order m es h (first_meet m (all (map seen es)) (AsArray n ∷ []) g)))

chained_fine : (m : Sense) (e : Expr) (xs : List Link) → FineExpr m e → FineLinks m xs → FineExpr m (chained e xs)
unfolding chained
chained_fine m e [] h g = h
chained_fine m e (x ∷ xs) h g =
    fine_only m (seen (tree.Chain e (x ∷ xs))) (use_of m (tree.Chain e (x ∷ xs))) (mentions e ++ every (map link_mentions (x ∷ xs))) (in_order m e && each (link_in_order m) (x ∷ xs)) (seen-Chain e (x ∷ xs)) (chain_is m e (x ∷ xs))
    (λ a. both (in_order m e) (each (link_in_order m) (x ∷ xs)) (h.fit (first_meet m (mentions e) (every (map link_mentions (x ∷ xs))) a)) (g (last_meet m (mentions e) (every (map link_mentions (x ∷ xs))) a)))

link_operand : (o : Operator) (e : Expr) → (link o e).operand ≡ e
unfolding link
link_operand o e = refl

link_fine : (m : Sense) (o : Operator) (e : Expr) (xs : List Link) → FineExpr m e → FineLinks m xs → FineLinks m (link o e ∷ xs)
link_fine m o e xs h g a =
    let mentioned : link_mentions (link o e) ≡ mentions e = link_mentions-is (link o e) ∙ ap mentions (link_operand o e) in
    let here : AllMeet m (mentions e) = subst (AllMeet m) mentioned (first_meet m (link_mentions (link o e)) (every (map link_mentions xs)) a) in
    both (link_in_order m (link o e)) (each (link_in_order m) xs) (link_is m (link o e) ∙ ap (in_order m) (link_operand o e) ∙ h.fit here) (g (last_meet m (link_mentions (link o e)) (every (map link_mentions xs)) a))

power_fine : (m : Sense) (a b : Expr) → FineExpr m a → FineExpr m b → FineExpr m (tree.Power a b)
power_fine m a b x y =
    fine_only m (seen (tree.Power a b)) (use_of m (tree.Power a b)) (mentions a ++ mentions b) (in_order m a && in_order m b) (seen-Power a b) (power_is m a b)
    (λ g. both (in_order m a) (in_order m b) (x.fit (first_meet m (mentions a) (mentions b) g)) (y.fit (last_meet m (mentions a) (mentions b) g)))

before_fine : (m : Sense) (how : _) (p : Place) → FinePlace m p → FineExpr m (tree.Before how p)
before_fine m how p h = fine_only m (seen (tree.Before how p)) (use_of m (tree.Before how p)) (place_mentions p) (place_in_order m p) (seen-Before how p) (before_is m how p) h.fit

call_fine : (m : Sense) (n : Name) (es : List Expr) → FineExprs m es → FineExpr m (tree.Call n es)
call_fine m n es h =
    fine_only m (seen (tree.Call n es)) (use_of m (tree.Call n es)) (Called n (length es) ∷ call_arguments n 0 (map seen es)) (calls m (m.function n.word) (map (use_of m) es)) (seen-Call n es)
    (call_is m n es) (call_fits m n es h)

-- ---- all rules together

abbrev pub FinePhrase : Sense → Phrase → Type 0
FinePhrase m (Whole p e) = FineExpr m e
FinePhrase m (Test p b n e) = FineExpr m e
FinePhrase m (Further p b n es) = FineExprs m es
FinePhrase m (Member p e) = FineExpr m e
FinePhrase m (Level p n e) = FineExpr m e
FinePhrase m (Links p n xs) = FineLinks m xs
FinePhrase m (Unary e) = FineExpr m e
FinePhrase m (Power e) = FineExpr m e
FinePhrase m (Postfix e) = FineExpr m e
FinePhrase m (Dollar e) = FineExpr m e
FinePhrase m (Primary e) = FineExpr m e
FinePhrase m (APlace x) = FinePlace m x
FinePhrase m (Arguments es) = FineExprs m es
FinePhrase m (Listed p es) = FineExprs m es
FinePhrase m (PrintList es) = FineExprs m es

pub fine : (m : Sense) {d : ℕ} {f : Phrase} {i j : Input} → Derives d f i j → FinePhrase m f
fine m (by.test g) = fine m g
fine m (by.choice {e = a} {f = b} {g = c} x s y t z) = choice_fine m a b c (fine m x) (fine m y) (fine m z)
fine m (by.lone g) = fine m g
fine m (by.joint {n = n} {e = e} {f = f} {es = es} x y) = logic_fine m (table.logic (suc n)) (e ∷ f ∷ es) (fine m x, fine m y)
fine m (by.last s nl g) = (fine m g, tt)
fine m (by.further s nl g h) = (fine m g, fine m h)
fine m (by.assign {how = how} {x = x} {e = e} g s a h) = assign_fine m how x e (fine m g) (fine m h)
fine m (by.contains {e = e} {ns = ns} g a) = contained_fine m e ns (fine m g)
fine m (by.operated g) = fine m g
fine m (by.listed_in {e = e} {f = f} {es = es} {n = n} s g t u v) = list_in_fine m (e ∷ f ∷ es) (name_at n) (fine m g)
fine m (by.chain {e = e} {xs = xs} g h) = chained_fine m e xs (fine m g) (fine m h)
fine m by.no_more = λ a. refl
fine m (by.joined {o = o} {e = e} {xs = xs} a g h alone) = link_fine m o e xs (fine m g) (fine m h)
fine m (by.tight g) = fine m g
fine m (by.unsigned g) = fine m g
fine m (by.signed {s = s} {e = e} t a g) = (let h = fine m g in fine_only m (seen (tree.Signed s e)) (use_of m (tree.Signed s e)) (mentions e) (in_order m e) (seen-Signed s e) (signed_is m s e) h.fit)
fine m (by.base g) = fine m g
fine m (by.raised {e = e} {f = f} g s h) = power_fine m e f (fine m g) (fine m h)
fine m (by.unchanged a g) = fine m g
fine m (by.bare {x = x} g a) = of_fine m x (fine m g)
fine m (by.changed_after {how = how} {x = x} g s a) = (let h = fine m g in fine_only m (seen (tree.After how x)) (use_of m (tree.After how x)) (place_mentions x) (place_in_order m x) (seen-After how x) (after_is m how x) h.fit)
fine m (by.changed_before {how = how} {x = x} s a g) = before_fine m how x (fine m g)
fine m (by.named {i = i} s) = name_fine m (name_at i)
fine m (by.element {es = es} {i = i} s t g u) = element_fine m (name_at i) es (fine m g)
fine m (by.field {e = e} s g) = field_fine m e (fine m g)
fine m (by.dollar_before {how = how} {x = x} s a g) = before_fine m how x (fine m g)
fine m (by.dollar a g) = fine m g
fine m (by.of_place {x = x} g) = of_fine m x (fine m g)
fine m (by.number {n = n} s a) = fine_only m (seen (tree.Number n)) (use_of m (tree.Number n)) [] true (seen-Number n) (number_is m n) (λ g. refl)
fine m (by.text {w = w} s) = fine_only m (seen (tree.Text (unescaped_of (unquoted w)))) (use_of m (tree.Text (unescaped_of (unquoted w)))) [] true (seen-Text (unescaped_of (unquoted w))) (text_is m (unescaped_of (unquoted w))) (λ g. refl)
fine m (by.ere {w = w} {i = i} s) = fine_only m (seen (tree.Ere (left i) w)) (use_of m (tree.Ere (left i) w)) (Pattern (left i) w ∷ []) true (seen-Ere (left i) w) (ere_is m (left i) w) (λ g. refl)
fine m (by.group {e = e} s g t) = (let h = fine m g in fine_only m (seen (tree.Group e)) (use_of m (tree.Group e)) (mentions e) (in_order m e) (seen-Group e) (group_is m e) h.fit)
fine m (by.call {es = es} {i = i} s g) = call_fine m (name_at i) es (fine m g)
fine m (by.builtin {f = f} {es = es} s a g fit) = builtin_fine m f es fit (fine m g)
fine m (by.bare_length s e ne) = builtin_fine m fun.Length [] bare_fits tt
fine m (by.no_argument s t) = tt
fine m (by.some_arguments s g t) = fine m g
fine m (by.getline s a b) = fine_only m (seen tree.Getline) (use_of m tree.Getline) [] true seen-Getline (getline_is m) (λ g. refl)
fine m (by.getline_to {x = x} s g a b) = (let h = fine m g in fine_only m (seen (tree.GetlineTo x)) (use_of m (tree.GetlineTo x)) (place_mentions x) (place_in_order m x) (seen-GetlineTo x) (getline_to_is m x) h.fit)
fine m (by.one g) = (fine m g, tt)
fine m (by.several g s t h) = (fine m g, fine m h)
fine m (by.print_list g) = fine m g
fine m (by.print_group s g t) = fine m g

-- what is printed by a format has one
abbrev pub IsSome : List Expr → Type 0
IsSome [] = ⊥
IsSome (e ∷ es) = Unit {0}

listed_some : {d : ℕ} {p : Bool} {es : List Expr} {i j : Input} → Derives d (Listed p es) i j → IsSome es
listed_some (by.one g) = tt
listed_some (by.several g s t h) = tt

pub printed_some : {d : ℕ} {es : List Expr} {i j : Input} → Derives d (PrintList es) i j → IsSome es
printed_some (by.print_list g) = listed_some g
printed_some (by.print_group s g t) = tt
