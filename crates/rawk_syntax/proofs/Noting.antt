-- What is known of names stays while more of a program is noted.
use Rattle.std.proofs.Common.{◌≡◌, ℕ, ◌<◌, Bool, true, false, ◌&&◌, ◌==◌, ◌⊎◌, inl, inr, List, [], ◌∷◌, ◌++◌, length, get_or, slice_get, Option, Some, None, refl, sym, ap, ◌∙◌, arith, length-append, if◌then◌else◌}
use Rattle.std.specs.Prelude.{nat_lt}
use Rattle.std.proofs.lemmas.Bool.{ltb-true, ltb-false}
use Rattle.std.proofs.lemmas.Bool.Decides.{nat_tests}
use Rattle.std.proofs.lemmas.List.{get_or_append_left}
use Rattle.std.proofs.lemmas.Option.{slice_get_within, slice_get-get_or}
use Rattle.std.proofs.Math.Seq.{get_or-append_seam}
use Rattle.std.specs.Str.{bytes_eq}
use Rattle.rawk_keys.specs.ArrayKey.{ArrayKey, array_key}
use Rattle.rawk_parsing.specs.declared.tree.Name.{Name}
use Rattle.rawk_grammar.specs.declared.tree.Item.{Item}
use Rattle.rawk_grammar.specs.declared.tree.Item.TheVariants as item
use Rattle.rawk_names.specs.declared.usage.Manner.{Manner}
use Rattle.rawk_names.specs.declared.usage.Manner.TheVariants.{Scalar, Array, Either}
use Rattle.rawk_names.specs.declared.usage.Usage.{Usage}
use Rattle.rawk_names.specs.declared.usage.What.{What}
use Rattle.rawk_names.specs.declared.usage.What.TheVariants as what
use Rattle.rawk_names.specs.Table.{key_eq, later, place_of, numbered, numbered_at}
use Rattle.rawk_names.specs.Arrays.{Stands}
use Rattle.rawk_names.specs.Mentions.{Mention, AsScalar, AsArray, Measured, Passed, Computed, Called, Pattern}
use Rattle.rawk_names.specs.Noted.{Word, Noted, with_use, global, outer_at, meant_at, meant, use_of, named, parameter, takes, manner_of, computed_at, computed, called, pattern, noted, noted_all}
use Rattle.rawk_names.specs.Statements.{action_mentions, pattern_mentions, given_mentions}
use Rattle.rawk_names.specs.Items.{checked_at, parameter_checked, parameters_checked, within, scope_of, inside, item_noted, all_noted}
use Rattle.rawk_names.specs.Tables.{kept, added}

-- ---- lists that grow

abbrev pub Stay : {A : Type 0} → List A → List A → Type 0
Stay {A} xs ys = (k : ℕ) (x : A) → slice_get xs k ≡ Some x → slice_get ys k ≡ Some x

pub stay_more : {A : Type 0} (xs : List A) (y : A) → Stay xs (xs ++ y ∷ [])
stay_more xs y k x h =
    let i : k < length xs = slice_get_within xs k x h in
    slice_get-get_or (xs ++ y ∷ []) k y (omega (arith, i, length-append xs (y ∷ []))) ∙ (ap Some (get_or_append_left xs (y ∷ []) y k i) ∙ (sym (slice_get-get_or xs k y i) ∙ h))

pub last_stands : (us : List Usage) (u : Usage) → Stands (us ++ u ∷ []) u.what
last_stands us u = (length us, u, slice_get-get_or (us ++ u ∷ []) (length us) u (omega (arith, length-append us (u ∷ []))) ∙ ap Some (get_or-append_seam us u [] u), refl)

pub last_or : {A : Type 0} (xs : List A) (y : A) (k : ℕ) (x : A) → slice_get (xs ++ y ∷ []) k ≡ Some x → (slice_get xs k ≡ Some x) ⊎ (x ≡ y)
last_or xs y k x h = at (nat_lt k (length xs)) refl
  where
    at : (t : Bool) → nat_lt k (length xs) ≡ t → (slice_get xs k ≡ Some x) ⊎ (x ≡ y)
    at true e =
        let i : k < length xs = ltb-true _ _ e in
        inl (slice_get-get_or xs k y i ∙ (ap Some (sym (get_or_append_left xs (y ∷ []) y k i)) ∙ (sym (slice_get-get_or (xs ++ y ∷ []) k y (slice_get_within (xs ++ y ∷ []) k x h)) ∙ h)))
    at false e =
        let inside : k < length (xs ++ y ∷ []) = slice_get_within (xs ++ y ∷ []) k x h in
        let last : k ≡ length xs = omega (arith, inside, ltb-false _ _ e, length-append xs (y ∷ [])) in
        let there : Some x ≡ Some y = sym h ∙ (slice_get-get_or (xs ++ y ∷ []) k y inside ∙ ap Some (ap (λ (i : ℕ). get_or (xs ++ y ∷ []) i y) last ∙ get_or-append_seam xs y [] y)) in
        inr cc

abbrev pub KeysStay : List ArrayKey → List ArrayKey → Type 0
KeysStay xs ys = (key : ArrayKey) (v : ℕ) → place_of key xs ≡ Some v → place_of key ys ≡ Some v

pub keys_stay : (more : ArrayKey) (keys : List ArrayKey) → KeysStay keys (numbered more keys).1
unfolding numbered
keys_stay more keys key v h = go (place_of more keys)
  where
    go : (o : Option ℕ) → place_of key (numbered_at more keys o).1 ≡ Some v
    go None = kept key more keys v h
    go (Some p) = h

pub numbered_there : (key : ArrayKey) (keys : List ArrayKey) → place_of key (numbered key keys).1 ≡ Some (numbered key keys).0
unfolding numbered
numbered_there key keys = go (place_of key keys) refl
  where
    go : (o : Option ℕ) → place_of key keys ≡ o → place_of key (numbered_at key keys o).1 ≡ Some (numbered_at key keys o).0
    go None e = added key keys e
    go (Some p) e = e

absent_more : (key more : ArrayKey) (keys : List ArrayKey) → key_eq key more ≡ false → place_of key keys ≡ None → place_of key (keys ++ more ∷ []) ≡ None
absent_more key more [] other h = rw other refl
absent_more key more (k ∷ keys) other h = at (absent_more key more keys other) (key_eq key k) refl
  where
    none : (o : Option ℕ) → later o ≡ None → o ≡ None
    none None g = refl
    none (Some i) g = absurd cc

    at : (place_of key keys ≡ None → place_of key (keys ++ more ∷ []) ≡ None) → (t : Bool) → key_eq key k ≡ t → place_of key ((k ∷ keys) ++ more ∷ []) ≡ None
    at rest true e = absurd (let first : Some 0 ≡ None = rw e at h in cc)
    at rest false e =
        let further : later (place_of key keys) ≡ None = rw e at h in
        rw (e, rest (none (place_of key keys) further)) refl

no_global : (scope : ℕ) (word more : Word) → (scope ≡ 0 → ⊥) → key_eq (array_key scope word) (array_key 0 more) ≡ false
no_global scope word more ne = at (scope == 0) refl
  where
    at : (t : Bool) → (scope == 0) ≡ t → (t && bytes_eq word more) ≡ false
    at true e = absurd (ne (search (arith, nat_tests, e)))
    at false e = refl

-- a key of a function's scope stays absent
abbrev pub InnerStays : List ArrayKey → List ArrayKey → Type 0
InnerStays xs ys = (scope : ℕ) (word : Word) → (scope ≡ 0 → ⊥) → place_of (array_key scope word) xs ≡ None → place_of (array_key scope word) ys ≡ None

pub inner_stays : (more : Word) (keys : List ArrayKey) → InnerStays keys (numbered (array_key 0 more) keys).1
unfolding numbered
inner_stays more keys scope word ne h = go (place_of (array_key 0 more) keys)
  where
    go : (o : Option ℕ) → place_of (array_key scope word) (numbered_at (array_key 0 more) keys o).1 ≡ None
    go None = absent_more (array_key scope word) (array_key 0 more) keys (no_global scope word more ne) h
    go (Some p) = h

-- ---- one mention more

-- what is known first is known later
pub record Later (n m : Noted) : Type 0 where
  pub functions : m.functions ≡ n.functions
  pub signatures : m.signatures ≡ n.signatures
  pub uses : Stay n.uses m.uses
  pub variables : KeysStay n.variables m.variables
  pub inner : InnerStays n.variables m.variables

pub later_self : (n : Noted) → Later n n
later_self n = record { functions = refl; signatures = refl; uses = λ k u h. h; variables = λ key v h. h; inner = λ s w ne h. h }

pub later_on : (n m o : Noted) → Later n m → Later m o → Later n o
later_on n m o a b = record {
  functions = b.functions ∙ a.functions;
  signatures = b.signatures ∙ a.signatures;
  uses = λ k u h. b.uses k u (a.uses k u h);
  variables = λ key v h. b.variables key v (a.variables key v h);
  inner = λ s w ne h. b.inner s w ne (a.inner s w ne h);
}

-- the same, in the same scope
abbrev pub Grows : Noted → Noted → Type 0
Grows n m = (m.scope ≡ n.scope) × Later n m

grows_self : (n : Noted) → Grows n n
grows_self n = (refl, later_self n)

grows_on : (n m o : Noted) → Grows n m → Grows m o → Grows n o
grows_on n m o a b = (b.0 ∙ a.0, later_on n m o a.1 b.1)

pub grows_use : (left : ℕ) (w : What) (n : Noted) → Grows n (with_use left w n)
grows_use left w n = (refl, record { functions = refl; signatures = refl; uses = stay_more n.uses (record { left = left; what = w }); variables = λ key v h. h; inner = λ s w ne h. h })

grows_global : (w : Word) (n : Noted) → Grows n (global w n).1
grows_global w n = (refl, record { functions = refl; signatures = refl; uses = λ k u h. h; variables = keys_stay (array_key 0 w) n.variables; inner = inner_stays w n.variables })

pub grows_meant : (w : Word) (n : Noted) → Grows n (meant w n).1
unfolding meant
grows_meant w n = go (place_of (array_key n.scope w) n.variables)
  where
    outer : (o : Option ℕ) → Grows n (outer_at w n o).1
    outer None = grows_global w n
    outer (Some f) = grows_self n

    go : (o : Option ℕ) → Grows n (meant_at w n o).1
    go None = outer (place_of (array_key 0 w) n.functions)
    go (Some v) = grows_self n

grows_named : (manner : Manner) (x : Name) (n : Noted) → Grows n (named manner x n)
unfolding named
grows_named manner x n = grows_on n (meant x.word n).1 (named manner x n) (grows_meant x.word n) (grows_use x.left (use_of manner (meant x.word n).0) (meant x.word n).1)

grows_computed : (f : Name) (i : ℕ) (n : Noted) → Grows n (computed f i n)
unfolding computed
grows_computed f i n = go (parameter f.word i n)
  where
    go : (o : Option ℕ) → Grows n (computed_at f.left n o)
    go None = grows_self n
    go (Some p) = grows_use f.left (what.Value p) n

grows_called : (f : Name) (count : ℕ) (n : Noted) → Grows n (called f count n)
unfolding called
grows_called f count n = go (takes f.word count n)
  where
    go : (b : Bool) → Grows n (if b then n else with_use f.left what.Misuse n)
    go true = grows_self n
    go false = grows_use f.left what.Misuse n

grows_pattern : (left : ℕ) (w : Word) (n : Noted) → Grows n (pattern left w n)
unfolding pattern
grows_pattern left w n = (refl, record { functions = refl; signatures = refl; uses = stay_more n.uses (record { left = left; what = what.Pattern (numbered (array_key 0 w) n.patterns).0 }); variables = λ key v h. h; inner = λ s w ne h. h })

pub grows_noted : (m : Mention) (n : Noted) → Grows n (noted m n)
grows_noted (AsScalar x) n = grows_named Scalar x n
grows_noted (AsArray x) n = grows_named Array x n
grows_noted (Measured x) n = grows_named Either x n
grows_noted (Passed x f i) n = grows_named (manner_of (parameter f.word i n)) x n
grows_noted (Computed f i) n = grows_computed f i n
grows_noted (Called f count) n = grows_called f count n
grows_noted (Pattern left w) n = grows_pattern left w n

pub grows_all : (ms : List Mention) (n : Noted) → Grows n (noted_all ms n)
grows_all [] n = grows_self n
grows_all (m ∷ ms) n = grows_on n (noted m n) (noted_all ms (noted m n)) (grows_noted m n) (grows_all ms (noted m n))

-- ---- one item more

grows_checked : (x : Name) (n : Noted) → Grows n (parameter_checked x n)
unfolding parameter_checked
grows_checked x n = go (place_of (array_key 0 x.word) n.functions)
  where
    go : (o : Option ℕ) → Grows n (checked_at x n o)
    go None = grows_self n
    go (Some f) = grows_use x.left what.Misuse n

pub grows_parameters : (xs : List Name) (n : Noted) → Grows n (parameters_checked xs n)
grows_parameters [] n = grows_self n
grows_parameters (x ∷ xs) n = grows_on n (parameter_checked x n) (parameters_checked xs (parameter_checked x n)) (grows_checked x n) (grows_parameters xs (parameter_checked x n))

pub later_within : (scope : ℕ) (n : Noted) → Later n (within scope n)
later_within scope n = record { functions = refl; signatures = refl; uses = λ k u h. h; variables = λ key v h. h; inner = λ s w ne h. h }

pub later_inside : (f : Name) (n : Noted) → Later n (inside f n)
unfolding inside
later_inside f n = later_within (scope_of (place_of (array_key 0 f.word) n.functions)) n

-- it begins and ends outside functions
pub later_item : (i : Item) (n : Noted) → n.scope ≡ 0 → ((item_noted i n).scope ≡ 0) × Later n (item_noted i n)
later_item (item.Begin ss) n out = let g = grows_all (action_mentions ss) n in (g.0 ∙ out, g.1)
later_item (item.End ss) n out = let g = grows_all (action_mentions ss) n in (g.0 ∙ out, g.1)
later_item (item.Always left ss) n out = let g = grows_all (action_mentions ss) n in (g.0 ∙ out, g.1)
later_item (item.Rule p a) n out =
    let g = grows_on n (noted_all (pattern_mentions p) n) (noted_all (given_mentions a) (noted_all (pattern_mentions p) n)) (grows_all (pattern_mentions p) n) (grows_all (given_mentions a) (noted_all (pattern_mentions p) n)) in
    (g.0 ∙ out, g.1)
later_item (item.Function left f ps body) n out =
    let checked = parameters_checked ps (inside f n) in
    let done = noted_all (action_mentions body) checked in
    (refl, later_on n (inside f n) (within 0 done) (later_inside f n) (later_on (inside f n) checked (within 0 done) (grows_parameters ps (inside f n)).1 (later_on checked done (within 0 done) (grows_all (action_mentions body) checked).1 (later_within 0 done))))

pub later_items : (is : List Item) (n : Noted) → n.scope ≡ 0 → Later n (all_noted is n)
later_items [] n out = later_self n
later_items (i ∷ is) n out = let here = later_item i n out in later_on n (item_noted i n) (all_noted is (item_noted i n)) here.1 (later_items is (item_noted i n) here.0)
