-- What a program defines: functions by their numbers, and arguments of parameters alone.
use Rattle.std.proofs.Common.{◌≡◌, ℕ, ◌+◌, ◌-◌, ◌≤◌, suc, Bool, true, false, inl, inr, List, [], ◌∷◌, ◌++◌, length, slice_get, Option, Some, None, refl, sym, ap, subst, ◌∙◌, arith, length-append, if◌then◌else◌}
use Rattle.std.specs.Prelude.{nat_lt}
use Rattle.std.proofs.lemmas.Option.{slice_get_within}
use Rattle.rawk_keys.specs.ArrayKey.{ArrayKey, array_key}
use Rattle.rawk_parsing.specs.declared.tree.Name.{Name}
use Rattle.rawk_grammar.specs.declared.tree.Item.{Item}
use Rattle.rawk_grammar.specs.declared.tree.Item.TheVariants as item
use Rattle.rawk_names.specs.declared.usage.Manner.{Manner}
use Rattle.rawk_names.specs.declared.usage.Manner.TheVariants.{Scalar, Array, Either, Argument}
use Rattle.rawk_names.specs.declared.usage.Signature.{Signature}
use Rattle.rawk_names.specs.declared.usage.TheConstants.{SPECIALS}
use Rattle.rawk_names.specs.declared.usage.Usage.{Usage}
use Rattle.rawk_names.specs.declared.usage.What.TheVariants as what
use Rattle.rawk_names.specs.Table.{place_of, numbered, numbered_at}
use Rattle.rawk_names.specs.Arrays.{Stands}
use Rattle.rawk_names.specs.Mentions.{Mention, AsScalar, AsArray, Measured, Passed, Computed, Called, Pattern}
use Rattle.rawk_names.specs.Noted.{Word, Noted, with_use, outer_at, meant_at, meant, use_of, named, parameter_of, parameter_at, parameter, takes, manner_of, computed_at, computed, called, pattern, noted, noted_all}
use Rattle.rawk_names.specs.Statements.{action_mentions, pattern_mentions, given_mentions}
use Rattle.rawk_names.specs.Items.{with_variable, start, parameter_defined, parameters_defined, begun, function_in, function_at, function_defined, defined, all_defined, checked_at, parameter_checked, parameters_checked, inside, item_noted, all_noted}
use Rattle.rawk_names.specs.Items as x
use Rattle.rawk_special.specs.Special.{is_special}
use Rattle.rawk_resolution.specs.InOrder.{functions_behind}
use Rattle.rawk_syntax.proofs.Noting.{Stay, stay_more, last_stands, last_or, KeysStay, keys_stay, numbered_there, Later, later_item, later_items, grows_noted, grows_all, grows_parameters, later_inside, later_on}
use Rattle.rawk_syntax.proofs.NamesInOrder.{IsOwn, AreOwn}

-- ---- definitions

-- the parameters of functions stand behind the special variables, and no use passes an argument to these
pub record Ready (n : Noted) : Type 0 where
  pub first : (k : ℕ) (s : Signature) → slice_get n.signatures k ≡ Some s → SPECIALS ≤ s.first
  pub own : AreOwn n.uses
  pub room : SPECIALS ≤ length n.variables

-- what stood stands, and what was ready is
pub record Step (n m : Noted) : Type 0 where
  pub uses : Stay n.uses m.uses
  pub functions : KeysStay n.functions m.functions
  pub ready : Ready n → Ready m
  pub scope : m.scope ≡ n.scope

step_self : (n : Noted) → Step n n
step_self n = record { uses = λ k u h. h; functions = λ key v h. h; ready = λ r. r; scope = refl }

step_on : (n m o : Noted) → Step n m → Step m o → Step n o
step_on n m o a b = record { uses = λ k u h. b.uses k u (a.uses k u h); functions = λ key v h. b.functions key v (a.functions key v h); ready = λ r. b.ready (a.ready r); scope = b.scope ∙ a.scope }

own_more : (us : List Usage) (u : Usage) → AreOwn us → IsOwn u.what → AreOwn (us ++ u ∷ [])
own_more us u all here k v h = elim (last_or us u k v h) [ inl a ↦ all k v a | inr same ↦ subst (λ (z : Usage). IsOwn z.what) (sym same) here ]

step_misuse : (left : ℕ) (n : Noted) → Step n (with_use left what.Misuse n)
step_misuse left n = record {
  uses = stay_more n.uses (record { left = left; what = what.Misuse });
  functions = λ key v h. h;
  ready = λ r. record { first = r.first; own = own_more n.uses (record { left = left; what = what.Misuse }) r.own tt; room = r.room };
  scope = refl;
}

longer : (key : ArrayKey) (keys : List ArrayKey) → length keys ≤ length (numbered key keys).1
unfolding numbered
longer key keys = go (place_of key keys)
  where
    go : (o : Option ℕ) → length keys ≤ length (numbered_at key keys o).1
    go None = omega (arith, length-append keys (key ∷ []))
    go (Some p) = omega arith

step_variable : (scope : ℕ) (w : Word) (n : Noted) → Step n (with_variable scope w n)
step_variable scope w n = record {
  uses = λ k u h. h;
  functions = λ key v h. h;
  ready = λ r. record { first = r.first; own = r.own; room = (let more = longer (array_key scope w) n.variables in omega (arith, r.room, more)) };
  scope = refl;
}

step_parameter : (scope : ℕ) (f : Name) (n : Noted) → Step n (parameter_defined scope f n)
unfolding parameter_defined
step_parameter scope f n = go (is_special f.word)
  where
    there : (o : Option ℕ) → Step n (x.parameter_at scope f n o)
    there None = step_variable scope f.word n
    there (Some v) = step_misuse f.left n

    go : (b : Bool) → Step n (if b then with_use f.left what.Misuse n else x.parameter_at scope f n (place_of (array_key scope f.word) n.variables))
    go true = step_misuse f.left n
    go false = there (place_of (array_key scope f.word) n.variables)

step_parameters : (scope : ℕ) (ps : List Name) (n : Noted) → Step n (parameters_defined scope ps n)
step_parameters scope [] n = step_self n
step_parameters scope (p ∷ ps) n = step_on n (parameter_defined scope p n) (parameters_defined scope ps (parameter_defined scope p n)) (step_parameter scope p n) (step_parameters scope ps (parameter_defined scope p n))

step_signed : (ps : List Name) (n : Noted) → Step n (function_in ps n)
step_signed ps n = record { uses = s.uses; functions = s.functions; ready = λ r. record { first = first r (s.ready r); own = (s.ready r).own; room = (s.ready r).room }; scope = s.scope }
  where
    p : Noted
    p = parameters_defined (length n.functions) ps n

    s : Step n p
    s = step_parameters (length n.functions) ps n

    first : Ready n → Ready p → (k : ℕ) (g : Signature) → slice_get (p.signatures ++ record { first = length n.variables; end = length p.variables } ∷ []) k ≡ Some g → SPECIALS ≤ g.first
    first r q k g h = elim (last_or p.signatures (record { first = length n.variables; end = length p.variables }) k g h) [ inl a ↦ q.first k g a | inr same ↦ subst (λ (z : Signature). SPECIALS ≤ z.first) (sym same) r.room ]

step_begun : (f : Name) (n : Noted) → Step n (begun f n)
step_begun f n = record { uses = λ k u h. h; functions = keys_stay (array_key 0 f.word) n.functions; ready = λ r. record { first = r.first; own = r.own; room = r.room }; scope = refl }

step_function : (f : Name) (ps : List Name) (n : Noted) → Step n (function_defined f ps n)
unfolding function_defined
step_function f ps n = go (is_special f.word)
  where
    there : (o : Option ℕ) → Step n (function_at f ps n o)
    there None = step_on n (begun f n) (function_in ps (begun f n)) (step_begun f n) (step_signed ps (begun f n))
    there (Some v) = step_misuse f.left n

    go : (b : Bool) → Step n (if b then with_use f.left what.Misuse n else function_at f ps n (place_of (array_key 0 f.word) n.functions))
    go true = step_misuse f.left n
    go false = there (place_of (array_key 0 f.word) n.functions)

step_item : (i : Item) (n : Noted) → Step n (defined i n)
step_item (item.Function left f ps body) n = step_function f ps n
step_item _ n = step_self n

step_items : (is : List Item) (n : Noted) → Step n (all_defined is n)
step_items [] n = step_self n
step_items (i ∷ is) n = step_on n (defined i n) (all_defined is (defined i n)) (step_item i n) (step_items is (defined i n))

-- ---- functions by their numbers

abbrev pub IsNumbered : List ArrayKey → ℕ → Item → Type 0
IsNumbered fs functions (item.Function left f ps body) = place_of (array_key 0 f.word) fs ≡ Some functions
IsNumbered fs functions _ = Unit {0}

-- each function of the items, which stand behind `functions` functions, has its number
abbrev pub AreNumbered : List ArrayKey → ℕ → List Item → Type 0
AreNumbered fs functions [] = Unit {0}
AreNumbered fs functions (i ∷ is) = IsNumbered fs functions i × AreNumbered fs (functions_behind i functions) is

parameter_functions : (scope : ℕ) (p : Name) (n : Noted) → (parameter_defined scope p n).functions ≡ n.functions
unfolding parameter_defined
parameter_functions scope p n = go (is_special p.word)
  where
    there : (o : Option ℕ) → (x.parameter_at scope p n o).functions ≡ n.functions
    there None = refl
    there (Some v) = refl

    go : (b : Bool) → (if b then with_use p.left what.Misuse n else x.parameter_at scope p n (place_of (array_key scope p.word) n.variables)).functions ≡ n.functions
    go true = refl
    go false = there (place_of (array_key scope p.word) n.variables)

same_functions : (scope : ℕ) (ps : List Name) (n : Noted) → (parameters_defined scope ps n).functions ≡ n.functions
same_functions scope [] n = refl
same_functions scope (p ∷ ps) n = same_functions scope ps (parameter_defined scope p n) ∙ parameter_functions scope p n

-- a function that is no misuse is the next one
pub record IsNext (f : Name) (n m : Noted) : Type 0 where
  pub numbered : place_of (array_key 0 f.word) m.functions ≡ Some (length n.functions)
  pub more : length m.functions ≡ suc (length n.functions)

next_key : (key : ArrayKey) (keys : List ArrayKey) → place_of key keys ≡ None → ((numbered key keys).0 ≡ length keys) × (length (numbered key keys).1 ≡ suc (length keys))
unfolding numbered
next_key key keys none = rw none (refl, omega (arith, length-append keys (key ∷ [])))

next_function : (f : Name) (ps : List Name) (n : Noted) (uses : List Usage) → (Stands uses what.Misuse → ⊥) → Stay (function_defined f ps n).uses uses → IsNext f n (function_defined f ps n)
unfolding function_defined
next_function f ps n uses none stay = go (is_special f.word) stay
  where
    misused : {A : Type 0} → Stay (n.uses ++ record { left = f.left; what = what.Misuse } ∷ []) uses → A
    misused s = let l = last_stands n.uses (record { left = f.left; what = what.Misuse }) in absurd (none (l.0, l.1, s l.0 l.1 l.2, l.3))

    there : (o : Option ℕ) → place_of (array_key 0 f.word) n.functions ≡ o → Stay (function_at f ps n o).uses uses → IsNext f n (function_at f ps n o)
    there (Some v) e s = misused s
    there None e s =
        let key = next_key (array_key 0 f.word) n.functions e in
        let same : (function_in ps (begun f n)).functions ≡ (numbered (array_key 0 f.word) n.functions).1 = same_functions (length (begun f n).functions) ps (begun f n) in
        record {
          numbered = ap (place_of (array_key 0 f.word)) same ∙ numbered_there (array_key 0 f.word) n.functions ∙ ap Some key.0;
          more = ap (λ (fs : List ArrayKey). length fs) same ∙ key.1;
        }

    go : (b : Bool) → Stay (if b then with_use f.left what.Misuse n else function_at f ps n (place_of (array_key 0 f.word) n.functions)).uses uses
        → IsNext f n (if b then with_use f.left what.Misuse n else function_at f ps n (place_of (array_key 0 f.word) n.functions))
    go true s = misused s
    go false s = there (place_of (array_key 0 f.word) n.functions) refl s

numbers : (is : List Item) (n : Noted) (uses : List Usage) → (Stands uses what.Misuse → ⊥) → Stay (all_defined is n).uses uses → AreNumbered (all_defined is n).functions (length n.functions) is
numbers [] n uses none stay = tt
numbers (i ∷ is) n uses none stay = one i stay (numbers is (defined i n) uses none stay)
  where
    one : (i : Item) → Stay (all_defined is (defined i n)).uses uses → AreNumbered (all_defined is (defined i n)).functions (length (defined i n).functions) is
        → IsNumbered (all_defined is (defined i n)).functions (length n.functions) i × AreNumbered (all_defined is (defined i n)).functions (functions_behind i (length n.functions)) is
    one (item.Function left f ps body) s rest =
        let later = step_items is (function_defined f ps n) in
        let next = next_function f ps n uses none (λ k u h. s k u (later.uses k u h)) in
        (later.functions (array_key 0 f.word) (length n.functions) next.numbered, subst (λ (k : ℕ). AreNumbered (all_defined is (function_defined f ps n)).functions k is) next.more rest)
    one _ s rest = (tt, rest)

-- ---- mentions

own_name : (manner : Manner) (v : Option ℕ) → ((w : ℕ) → IsOwn (what.Named manner w)) → IsOwn (use_of manner v)
own_name manner None h = tt
own_name manner (Some v) h = h v

meant_uses : (w : Word) (n : Noted) → (meant w n).1.uses ≡ n.uses
unfolding meant
meant_uses w n = go (place_of (array_key n.scope w) n.variables)
  where
    outer : (o : Option ℕ) → (outer_at w n o).1.uses ≡ n.uses
    outer None = refl
    outer (Some f) = refl

    go : (o : Option ℕ) → (meant_at w n o).1.uses ≡ n.uses
    go None = outer (place_of (array_key 0 w) n.functions)
    go (Some v) = refl

own_named : (manner : Manner) (y : Name) (n : Noted) → ((w : ℕ) → IsOwn (what.Named manner w)) → AreOwn n.uses → AreOwn (named manner y n).uses
unfolding named
own_named manner y n h all =
    own_more (meant y.word n).1.uses (record { left = y.left; what = use_of manner (meant y.word n).0 }) (subst AreOwn (sym (meant_uses y.word n)) all) (own_name manner (meant y.word n).0 h)

abbrev Firsts : Noted → Type 0
Firsts n = (k : ℕ) (s : Signature) → slice_get n.signatures k ≡ Some s → SPECIALS ≤ s.first

own_parameter : (f : Name) (i : ℕ) (n : Noted) (p : ℕ) → Firsts n → parameter f.word i n ≡ Some p → SPECIALS ≤ p
unfolding parameter
own_parameter f i n p firsts is = by_function (place_of (array_key 0 f.word) n.functions) is
  where
    by_function : (o : Option ℕ) → parameter_at n.signatures o i ≡ Some p → SPECIALS ≤ p
    by_function None e = cc
    by_function (Some g) e = by_signature (slice_get n.signatures g) refl e
      where
        by_signature : (o : Option Signature) → slice_get n.signatures g ≡ o → parameter_of o i ≡ Some p → SPECIALS ≤ p
        by_signature None q e = cc
        by_signature (Some s) q e = by_place (nat_lt i (s.end - s.first)) e
          where
            by_place : (b : Bool) → (if b then Some (s.first + i) else None) ≡ Some p → SPECIALS ≤ p
            by_place true e = let same : s.first + i ≡ p = cc in omega (arith, same, firsts g s q)
            by_place false e = cc

own_passed : (y f : Name) (i : ℕ) (n : Noted) → Firsts n → AreOwn n.uses → AreOwn (noted (Passed y f i) n).uses
own_passed y f i n firsts all = go (parameter f.word i n) refl
  where
    go : (o : Option ℕ) → parameter f.word i n ≡ o → AreOwn (named (manner_of o) y n).uses
    go None e = own_named Either y n (λ w. tt) all
    go (Some p) e = own_named (Argument p) y n (λ w. own_parameter f i n p firsts e) all

own_computed : (f : Name) (i : ℕ) (n : Noted) → AreOwn n.uses → AreOwn (computed f i n).uses
unfolding computed
own_computed f i n all = go (parameter f.word i n)
  where
    go : (o : Option ℕ) → AreOwn (computed_at f.left n o).uses
    go None = all
    go (Some p) = own_more n.uses (record { left = f.left; what = what.Value p }) all tt

own_called : (f : Name) (count : ℕ) (n : Noted) → AreOwn n.uses → AreOwn (called f count n).uses
unfolding called
own_called f count n all = go (takes f.word count n)
  where
    go : (b : Bool) → AreOwn (if b then n else with_use f.left what.Misuse n).uses
    go true = all
    go false = own_more n.uses (record { left = f.left; what = what.Misuse }) all tt

own_pattern : (left : ℕ) (w : Word) (n : Noted) → AreOwn n.uses → AreOwn (pattern left w n).uses
unfolding pattern
own_pattern left w n all = own_more n.uses (record { left = left; what = what.Pattern (numbered (array_key 0 w) n.patterns).0 }) all tt

own_noted : (m : Mention) (n : Noted) → Firsts n → AreOwn n.uses → AreOwn (noted m n).uses
own_noted (AsScalar y) n firsts all = own_named Scalar y n (λ w. tt) all
own_noted (AsArray y) n firsts all = own_named Array y n (λ w. tt) all
own_noted (Measured y) n firsts all = own_named Either y n (λ w. tt) all
own_noted (Passed y f i) n firsts all = own_passed y f i n firsts all
own_noted (Computed f i) n firsts all = own_computed f i n all
own_noted (Called f count) n firsts all = own_called f count n all
own_noted (Pattern left w) n firsts all = own_pattern left w n all

firsts_later : (n m : Noted) → Later n m → Firsts n → Firsts m
firsts_later n m l firsts k s h = firsts k s (ap (λ ss. slice_get ss k) (sym l.signatures) ∙ h)

own_all : (ms : List Mention) (n : Noted) → Firsts n → AreOwn n.uses → AreOwn (noted_all ms n).uses
own_all [] n firsts all = all
own_all (m ∷ ms) n firsts all = own_all ms (noted m n) (firsts_later n (noted m n) (grows_noted m n).1 firsts) (own_noted m n firsts all)

own_checked : (y : Name) (n : Noted) → AreOwn n.uses → AreOwn (parameter_checked y n).uses
unfolding parameter_checked
own_checked y n all = go (place_of (array_key 0 y.word) n.functions)
  where
    go : (o : Option ℕ) → AreOwn (checked_at y n o).uses
    go None = all
    go (Some f) = own_more n.uses (record { left = y.left; what = what.Misuse }) all tt

own_parameters : (ps : List Name) (n : Noted) → AreOwn n.uses → AreOwn (parameters_checked ps n).uses
own_parameters [] n all = all
own_parameters (p ∷ ps) n all = own_parameters ps (parameter_checked p n) (own_checked p n all)

inside_uses : (f : Name) (n : Noted) → (inside f n).uses ≡ n.uses
unfolding inside
inside_uses f n = refl

own_item : (i : Item) (n : Noted) → Firsts n → AreOwn n.uses → AreOwn (item_noted i n).uses
own_item (item.Begin ss) n firsts all = own_all (action_mentions ss) n firsts all
own_item (item.End ss) n firsts all = own_all (action_mentions ss) n firsts all
own_item (item.Always left ss) n firsts all = own_all (action_mentions ss) n firsts all
own_item (item.Rule p a) n firsts all =
    own_all (given_mentions a) (noted_all (pattern_mentions p) n) (firsts_later n (noted_all (pattern_mentions p) n) (grows_all (pattern_mentions p) n).1 firsts) (own_all (pattern_mentions p) n firsts all)
own_item (item.Function left f ps body) n firsts all =
    let checked = parameters_checked ps (inside f n) in
    own_all (action_mentions body) checked (firsts_later n checked (later_on n (inside f n) checked (later_inside f n) (grows_parameters ps (inside f n)).1) firsts)
    (own_parameters ps (inside f n) (subst AreOwn (sym (inside_uses f n)) all))

own_items : (is : List Item) (n : Noted) → n.scope ≡ 0 → Firsts n → AreOwn n.uses → AreOwn (all_noted is n).uses
own_items [] n out firsts all = all
own_items (i ∷ is) n out firsts all = let here = later_item i n out in own_items is (item_noted i n) here.0 (firsts_later n (item_noted i n) here.1 firsts) (own_item i n firsts all)

-- ---- programs

start_ready : Ready start
unfolding start numbered
start_ready = record { first = λ k s h. absurd (omega (arith, slice_get_within [] k s h)); own = λ k u h. absurd (omega (arith, slice_get_within [] k u h)); room = omega arith }

start_functions : length start.functions ≡ 0
unfolding start
start_functions = refl

start_scope : start.scope ≡ 0
unfolding start
start_scope = refl

pub own : (is : List Item) → AreOwn (x.program is).uses
unfolding x.program
own is =
    let ready = (step_items is start).ready start_ready in
    own_items is (all_defined is start) ((step_items is start).scope ∙ start_scope) ready.first ready.own

pub known_later : (is : List Item) → ((all_defined is start).scope ≡ 0) × Later (all_defined is start) (x.program is)
unfolding x.program
known_later is = let out = (step_items is start).scope ∙ start_scope in (out, later_items is (all_defined is start) out)

pub are_numbered : (is : List Item) → (Stands (x.program is).uses what.Misuse → ⊥) → AreNumbered (x.program is).functions 0 is
are_numbered is none =
    let l = (known_later is).1 in
    subst (λ (fs : List ArrayKey). AreNumbered fs 0 is) (sym l.functions) (subst (λ (k : ℕ). AreNumbered (all_defined is start).functions k is) start_functions (numbers is start (x.program is).uses none l.uses))
