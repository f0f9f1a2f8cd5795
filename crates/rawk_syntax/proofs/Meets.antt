-- What names have to stand for where they are mentioned, and the arguments of calls then.
use Rattle.std.proofs.Common.{◌≡◌, ℕ, ◌+◌, ◌≤◌, suc, Bool, true, ◌||◌, List, [], ◌∷◌, ◌++◌, length, map, slice_get, Option, Some, None, refl, sym, ap, subst, ◌∙◌, arith}
use Rattle.std.proofs.lemmas.Grind.{common_steps}
use Rattle.rawk_keywords.specs.declared.builtin.Builtin.{Builtin}
use Rattle.rawk_parsing.specs.declared.tree.Expr.{Expr}
use Rattle.rawk_parsing.specs.declared.tree.Expr.TheOpen as expr
use Rattle.rawk_parsing.specs.declared.tree.Link.{Link}
use Rattle.rawk_parsing.specs.declared.tree.Name.{Name}
use Rattle.rawk_parsing.specs.declared.tree.Place.{Place}
use Rattle.rawk_names.specs.Mentions.{Mention, AsScalar, AsArray, Measured, Passed, Computed, Called, Pattern, Seen, only, all, every, builtin_name, builtin_at, builtin_arguments, call_at, call_arguments, seen, place_seen, link_mentions, mentions}
use Rattle.rawk_tree.specs.declared.tree.Kind.{Kind}
use Rattle.rawk_tree.specs.declared.tree.Kind.TheVariants as kind
use Rattle.rawk_resolution.specs.Meant.{Sense}
use Rattle.rawk_resolution.specs.InOrder.{Use, place_step, names_array, names_scalar, fits, all_fit, calls, each, use_of, place_use, in_order, link_in_order}
use Rattle.rawk_resolution.specs.Orders.{both}

-- what the parameter is that takes an argument, if there is one
abbrev pub kind_at : Sense → Option ℕ → ℕ → Option Kind
kind_at m None i = None
kind_at m (Some f) i = slice_get (m.kinds f) i

abbrev pub Takes : Sense → Option ℕ → ℕ → Type 0
Takes m None count = ⊥
Takes m (Some f) count = count ≤ length (m.kinds f)

-- a name alone as an argument
abbrev pub Suits : Sense → Option Kind → Name → Type 0
Suits m None x = Unit {0}
Suits m (Some kind.Scalar) x = names_scalar m x ≡ true
Suits m (Some kind.Array) x = names_array m x ≡ true

-- anything else as an argument
abbrev pub IsNoArray : Option Kind → Type 0
IsNoArray (Some kind.Array) = ⊥
IsNoArray _ = Unit {0}

-- what a mention asks of the names
abbrev pub Meets : Sense → Mention → Type 0
Meets m (AsScalar x) = names_scalar m x ≡ true
Meets m (AsArray x) = names_array m x ≡ true
Meets m (Measured x) = (names_array m x || names_scalar m x) ≡ true
Meets m (Passed x f i) = Suits m (kind_at m (m.function f.word) i) x
Meets m (Computed f i) = IsNoArray (kind_at m (m.function f.word) i)
Meets m (Called f count) = Takes m (m.function f.word) count
Meets m (Pattern left w) = Unit {0}

abbrev pub AllMeet : Sense → List Mention → Type 0
AllMeet m [] = Unit {0}
AllMeet m (x ∷ xs) = Meets m x × AllMeet m xs

pub first_meet : (m : Sense) (xs ys : List Mention) → AllMeet m (xs ++ ys) → AllMeet m xs
first_meet m [] ys h = tt
first_meet m (x ∷ xs) ys h = (h.0, first_meet m xs ys h.1)

pub last_meet : (m : Sense) (xs ys : List Mention) → AllMeet m (xs ++ ys) → AllMeet m ys
last_meet m [] ys h = h
last_meet m (x ∷ xs) ys h = last_meet m xs ys h.1

pub all_arrays : (m : Sense) (ns : List Name) → AllMeet m (map AsArray ns) → each (names_array m) ns ≡ true
all_arrays m [] h = refl
all_arrays m (n ∷ ns) h = both (names_array m n) (each (names_array m) ns) h.0 (all_arrays m ns h.1)

-- ---- parts of the tree

-- a name alone is used as its name
abbrev pub Named : Sense → Option Name → Use → Type 0
Named m None c = Unit {0}
Named m (Some x) c = c ≡ place_step m (expr.Name x)

-- where the mentions of a part are met it is in order
pub record Fine (m : Sense) (s : Seen) (c : Use) : Type 0 where
  pub named : Named m s.name c
  pub fit : AllMeet m s.mentions → c.fit ≡ true

abbrev pub FineExpr : Sense → Expr → Type 0
FineExpr m e = Fine m (seen e) (use_of m e)

abbrev pub FinePlace : Sense → Place → Type 0
FinePlace m p = Fine m (place_seen p) (place_use m p)

abbrev pub FineExprs : Sense → List Expr → Type 0
FineExprs m [] = Unit {0}
FineExprs m (e ∷ es) = FineExpr m e × FineExprs m es

abbrev pub FineLinks : Sense → List Link → Type 0
FineLinks m ls = AllMeet m (every (map link_mentions ls)) → each (link_in_order m) ls ≡ true

-- what is no name alone
pub fine_only : (m : Sense) (s : Seen) (c : Use) (ms : List Mention) (b : Bool) → s ≡ only ms → c.fit ≡ b → (AllMeet m ms → b ≡ true) → Fine m s c
fine_only m s c ms b is same h = subst (λ (z : Seen). Fine m z c) (sym is) (record { named = tt; fit = λ g. same ∙ h g })

pub fine_moved : (m : Sense) (s t : Seen) (c d : Use) → s ≡ t → c ≡ d → Fine m t d → Fine m s c
fine_moved m s t c d same used h = subst (λ (z : Seen). Fine m z c) (sym same) (subst (λ (z : Use). Fine m t z) (sym used) h)

pub all_in_order : (m : Sense) (es : List Expr) → FineExprs m es → AllMeet m (all (map seen es)) → each (in_order m) es ≡ true
all_in_order m [] h g = refl
all_in_order m (e ∷ es) h g =
    both (in_order m e) (each (in_order m) es) (h.0.fit (first_meet m (mentions e) (all (map seen es)) g)) (all_in_order m es h.1 (last_meet m (mentions e) (all (map seen es)) g))

-- ---- arguments of a function of the program

argument_fits : (m : Sense) (f : Name) (i : ℕ) (k : Kind) (s : Seen) (c : Use) (later : List Mention) → kind_at m (m.function f.word) i ≡ Some k → Fine m s c → AllMeet m (call_at f i s.mentions s.name ++ later) → fits (Some k) c ≡ true
argument_fits m f i k s c later is h g = by_name s.name refl
  where
    suits : (x : Name) (d : Use) (l : Kind) → Suits m (Some l) x → d ≡ place_step m (expr.Name x) → fits (Some l) d ≡ true
    suits x d kind.Scalar a named = ap (λ (z : Use). z.fit) named ∙ a
    suits x d kind.Array a named = ap (λ (z : Use). z.array) named ∙ a

    no_array : (l : Kind) → IsNoArray (Some l) → c.fit ≡ true → fits (Some l) c ≡ true
    no_array kind.Scalar a here = here
    no_array kind.Array a here = absurd a

    by_name : (o : Option Name) → s.name ≡ o → fits (Some k) c ≡ true
    by_name None e =
        let met : AllMeet m (Computed f i ∷ s.mentions ++ later) = subst (λ (o : Option Name). AllMeet m (call_at f i s.mentions o ++ later)) e g in
        no_array k (subst IsNoArray is met.0) (h.fit (first_meet m s.mentions later met.1))
    by_name (Some x) e =
        let met : AllMeet m (Passed x f i ∷ later) = subst (λ (o : Option Name). AllMeet m (call_at f i s.mentions o ++ later)) e g in
        suits x c k (subst (λ (o : Option Kind). Suits m o x) is met.0) (subst (λ (o : Option Name). Named m o c) e h.named)

slice_get-head : {A : Type 0} (k : A) (ks : List A) → slice_get (k ∷ ks) 0 ≡ Some k
slice_get-head k ks = grind (arith, common_steps)

slice_get-tail : {A : Type 0} (k : A) (ks : List A) (i : ℕ) → slice_get (k ∷ ks) (i + 1) ≡ slice_get ks i
slice_get-tail k ks i = grind (arith, common_steps)

arguments_fit : (m : Sense) (f : Name) (ks : List Kind) (i : ℕ) (es : List Expr) → ((j : ℕ) → kind_at m (m.function f.word) (i + j) ≡ slice_get ks j) → length es ≤ length ks
    → FineExprs m es → AllMeet m (call_arguments f i (map seen es)) → all_fit ks (map (use_of m) es) ≡ true
arguments_fit m f [] i [] at few h g = refl
arguments_fit m f (k ∷ ks) i [] at few h g = refl
arguments_fit m f [] i (e ∷ es) at few h g = absurd (let no : suc (length es) ≤ 0 = few in omega (arith, no))
arguments_fit m f (k ∷ ks) i (e ∷ es) at few h g =
    let first : i + 0 ≡ i = omega arith in
    let here : kind_at m (m.function f.word) i ≡ Some k = ap (kind_at m (m.function f.word)) (sym first) ∙ at 0 ∙ slice_get-head k ks in
    let later = call_arguments f (i + 1) (map seen es) in
    let fewer : suc (length es) ≤ suc (length ks) = few in
    both (fits (Some k) (use_of m e)) (all_fit ks (map (use_of m) es)) (argument_fits m f i k (seen e) (use_of m e) later here h.0 g)
    (arguments_fit m f ks (i + 1) es (λ j. (let next : i + 1 + j ≡ i + (j + 1) = omega arith in ap (kind_at m (m.function f.word)) next ∙ at (j + 1) ∙ slice_get-tail k ks j)) (omega (arith, fewer)) h.1 (last_meet m (call_at f i (seen e).mentions (seen e).name) later g))

pub call_fits : (m : Sense) (f : Name) (es : List Expr) → FineExprs m es → AllMeet m (Called f (length es) ∷ call_arguments f 0 (map seen es)) → calls m (m.function f.word) (map (use_of m) es) ≡ true
call_fits m f es h g = at (m.function f.word) refl
  where
    at : (o : Option ℕ) → m.function f.word ≡ o → calls m (m.function f.word) (map (use_of m) es) ≡ true
    at None e = absurd (subst (λ (o : Option ℕ). Takes m o (length es)) e g.0)
    at (Some n) e =
        let enough : length es ≤ length (m.kinds n) = subst (λ (o : Option ℕ). Takes m o (length es)) e g.0 in
        ap (λ o. calls m o (map (use_of m) es)) e
        ∙ arguments_fit m f (m.kinds n) 0 es (λ j. (let same : 0 + j ≡ j = omega arith in ap (kind_at m (m.function f.word)) same ∙ ap (λ o. kind_at m o j) e)) enough h g.1

-- ---- arguments of a built-in function

-- of one that takes only scalars
pub scalar_fit : (m : Sense) (f : Builtin) (i : ℕ) (s : Seen) (c : Use) → ((x : Name) → builtin_name f i x ≡ AsScalar x) → Fine m s c → AllMeet m (builtin_at f i s.mentions s.name) → c.fit ≡ true
scalar_fit m f i s c plain h g = by_name s.name refl
  where
    by_name : (o : Option Name) → s.name ≡ o → c.fit ≡ true
    by_name None e = h.fit (subst (λ (o : Option Name). AllMeet m (builtin_at f i s.mentions o)) e g)
    by_name (Some x) e =
        let met : AllMeet m (builtin_name f i x ∷ []) = subst (λ (o : Option Name). AllMeet m (builtin_at f i s.mentions o)) e g in
        ap (λ (z : Use). z.fit) (subst (λ (o : Option Name). Named m o c) e h.named) ∙ subst (Meets m) (plain x) met.0

pub scalars_fit : (m : Sense) (f : Builtin) (i : ℕ) (es : List Expr) → ((j : ℕ) (x : Name) → builtin_name f j x ≡ AsScalar x) → FineExprs m es → AllMeet m (builtin_arguments f i (map seen es)) → each (in_order m) es ≡ true
scalars_fit m f i [] plain h g = refl
scalars_fit m f i (e ∷ es) plain h g =
    let here = builtin_at f i (seen e).mentions (seen e).name in
    let later = builtin_arguments f (i + 1) (map seen es) in
    both (in_order m e) (each (in_order m) es) (scalar_fit m f i (seen e) (use_of m e) (plain i) h.0 (first_meet m here later g)) (scalars_fit m f (i + 1) es plain h.1 (last_meet m here later g))
