-- Where names are in order, they stand for what their mentions ask.
use Rattle.std.proofs.Common.{◌≡◌, ℕ, ◌+◌, ◌-◌, ◌≤◌, Bool, true, false, ◌||◌, ◌==◌, List, [], ◌∷◌, length, slice_get, Option, Some, None, refl, sym, ap, subst, ◌∙◌, arith, if◌then◌else◌}
use Rattle.std.specs.Prelude.{nat_lt}
use Rattle.std.proofs.lemmas.Bool.{ltb-true, ltb-false}
use Rattle.std.proofs.lemmas.Bool.Decides.{nat_tests}
use Rattle.std.proofs.lemmas.List.FromFn.{length-map-range_with_len}
use Rattle.rawk_keys.specs.ArrayKey.{array_key}
use Rattle.rawk_parsing.specs.declared.tree.Name.{Name}
use Rattle.rawk_names.specs.declared.names.Meaning.TheVariants as meaning
use Rattle.rawk_names.specs.declared.usage.Manner.{Manner}
use Rattle.rawk_names.specs.declared.usage.Manner.TheVariants.{Scalar, Array, Either, Argument}
use Rattle.rawk_names.specs.declared.usage.Signature.{Signature}
use Rattle.rawk_names.specs.declared.usage.TheConstants.{SPECIALS}
use Rattle.rawk_names.specs.declared.usage.Usage.{Usage}
use Rattle.rawk_names.specs.declared.usage.What.{What}
use Rattle.rawk_names.specs.declared.usage.What.TheVariants as what
use Rattle.rawk_names.specs.Table.{place_of}
use Rattle.rawk_names.specs.Arrays.{Stands, IsArray, used, given, taken, IsSpecial, IsMisuse}
use Rattle.rawk_names.specs.Marking.{is_marked}
use Rattle.rawk_names.specs.Mentions.{Mention, AsScalar, AsArray, Measured, Passed, Computed, Called, Pattern}
use Rattle.rawk_names.specs.Noted.{Word, Noted, with_use, outer_at, meant_at, meant, use_of, named, parameter_of, parameter_at, parameter, takes, takes_of, takes_at, manner_of, computed_at, computed, called, noted, noted_all}
use Rattle.rawk_names.specs.Named.{Known, IsNamed, inner_at, meaning_of, variable_of, end_of_last}
use Rattle.rawk_names.specs.Named as known
use Rattle.rawk_tree.specs.declared.tree.Kind.{Kind}
use Rattle.rawk_resolution.specs.Meant.{is_there, sense, scalar_at, array_at, variable_scalar, variable_array, kind_of, kinds_at, parameter_kinds}
use Rattle.rawk_resolution.specs.InOrder.{names_array, names_scalar}
use Rattle.rawk_resolution.specs.Globals.{kind_there, kind_past, no_kind}
use Rattle.rawk_syntax.proofs.Meets.{kind_at, Takes, Suits, IsNoArray, Meets, AllMeet}
use Rattle.rawk_syntax.proofs.Noting.{last_stands, numbered_there, inner_stays, Later, later_on, grows_use, grows_noted, grows_all}

-- an argument is passed to no special variable
abbrev pub IsOwn : What → Type 0
IsOwn (what.Named (Argument p) v) = SPECIALS ≤ p
IsOwn _ = Unit {0}

abbrev pub AreOwn : List Usage → Type 0
AreOwn uses = (k : ℕ) (u : Usage) → slice_get uses k ≡ Some u → IsOwn u.what

-- ---- marks

-- no use that stands can't be
unused : (n : Noted) (names : Known) → IsNamed n names → (w : What) → Stands n.uses w → IsMisuse n.uses w → ⊥
unused n names h w s bad = h.proper s.0 s.1 s.2 (subst (IsMisuse n.uses) (sym s.3) bad)

marked : (n : Noted) (names : Known) → IsNamed n names → (v : ℕ) → IsArray n.uses v → is_marked names.arrays v ≡ true
marked n names h v a = (h.arrays v).1 a

unmarked : (n : Noted) (names : Known) → IsNamed n names → (v : ℕ) → (IsArray n.uses v → ⊥) → is_marked names.arrays v ≡ false
unmarked n names h v none = go (is_marked names.arrays v) refl
  where
    go : (b : Bool) → is_marked names.arrays v ≡ b → is_marked names.arrays v ≡ false
    go true e = absurd (none ((h.arrays v).0 e))
    go false e = e

no_special : (n : Noted) (names : Known) → IsNamed n names → AreOwn n.uses → (v : ℕ) → IsArray n.uses v → IsSpecial v → ⊥
no_special n names h own v (used s) special = unused n names h (what.Named Array v) s special
no_special n names h own v (given {v = w} s a) special =
    let low : SPECIALS ≤ v = subst IsOwn s.3 (own s.0 s.1 s.2) in
    omega (arith, low, special)
no_special n names h own v (taken {p = p} s a) special = unused n names h (what.Named (Argument p) v) s (special, taken s a)

-- ---- what a variable stands for

is_scalar : (names : Known) (scope : ℕ) (x : Name) (v : ℕ) → meaning_of names scope x.word ≡ Some (meaning.Variable v) → is_marked names.arrays v ≡ false → names_scalar (sense names scope) x ≡ true
is_scalar names scope x v means not_marked =
    ap (λ o. is_there (scalar_at names scope o)) means ∙ ap (λ (b : Bool). is_there (if b then None else Some (variable_scalar names scope (variable_of names v)))) not_marked

array_there : (names : Known) (scope v : ℕ) → (IsSpecial v → ⊥) → is_there (variable_array names scope v (variable_of names v)) ≡ true
array_there names scope v own = at (v == 0) refl (nat_lt v SPECIALS) refl (nat_lt v (end_of_last names.signatures)) refl
  where
    zeroth : (v == 0) ≡ true → IsSpecial v
    zeroth e = let same : v ≡ 0 = search (arith, nat_tests, e) in omega (arith, same)

    at : (a : Bool) → (v == 0) ≡ a → (b : Bool) → nat_lt v SPECIALS ≡ b → (c : Bool) → nat_lt v (end_of_last names.signatures) ≡ c → is_there (variable_array names scope v (variable_of names v)) ≡ true
    at true e b f c g = absurd (own (zeroth e))
    at false e true f c g = absurd (own (ltb-true v SPECIALS f))
    at false e false f true g = rw (e, f, g) refl
    at false e false f false g = rw (e, f, g) (rw g refl)

is_array : (names : Known) (scope : ℕ) (x : Name) (v : ℕ) → meaning_of names scope x.word ≡ Some (meaning.Variable v) → is_marked names.arrays v ≡ true → (IsSpecial v → ⊥) → names_array (sense names scope) x ≡ true
is_array names scope x v means so own =
    ap (λ o. is_there (array_at names scope o)) means ∙ ap (λ (b : Bool). is_there (if b then variable_array names scope v (variable_of names v) else None)) so ∙ array_there names scope v own

-- what a parameter is
abbrev pub parameter_kind : Known → Option ℕ → Option Kind
parameter_kind names None = None
parameter_kind names (Some p) = Some (kind_of (is_marked names.arrays p))

kind_is : (names : Known) (scope : ℕ) (f : Option ℕ) (i : ℕ) → kind_at (sense names scope) f i ≡ parameter_kind names (parameter_at names.signatures f i)
kind_is names scope None i = refl
kind_is names scope (Some f) i = by_signature (slice_get names.signatures f) refl
  where
    by_signature : (o : Option Signature) → slice_get names.signatures f ≡ o → slice_get (parameter_kinds names f) i ≡ parameter_kind names (parameter_of o i)
    by_signature None e = sym (no_kind names f None i (λ s q. cc) (sym e))
    by_signature (Some s) e = by_place (nat_lt i (s.end - s.first)) refl
      where
        by_place : (b : Bool) → nat_lt i (s.end - s.first) ≡ b → slice_get (parameter_kinds names f) i ≡ parameter_kind names (if b then Some (s.first + i) else None)
        by_place true g = sym (kind_there names f s i (kind_of (is_marked names.arrays (s.first + i))) (sym e) (ltb-true i (s.end - s.first) g) refl)
        by_place false g = sym (kind_past names f s i (sym e) (ltb-false i (s.end - s.first) g))

-- ---- what a name means

-- what is noted of a name, and what is known of it in the end
meant_means : (word : Word) (n m : Noted) (names : Known) (v : ℕ) → IsNamed m names → Later (meant word n).1 m → (meant word n).0 ≡ Some v → meaning_of names n.scope word ≡ Some (meaning.Variable v)
unfolding meant meaning_of
meant_means word n m names v h later is = inner (place_of (array_key n.scope word) n.variables) refl later is
  where
    outside : place_of (array_key 0 word) m.functions ≡ None → place_of (array_key 0 word) m.variables ≡ Some v → known.outer_at names word (place_of (array_key 0 word) names.functions) ≡ Some (meaning.Variable v)
    outside none there =
        ap (λ fs. known.outer_at names word (place_of (array_key 0 word) fs)) h.functions ∙ ap (known.outer_at names word) none
        ∙ ap (λ vs. known.variable_at (place_of (array_key 0 word) vs)) h.variables ∙ ap known.variable_at there

    outer : (o : Option ℕ) → place_of (array_key 0 word) n.functions ≡ o → place_of (array_key n.scope word) n.variables ≡ None → Later (outer_at word n o).1 m → (outer_at word n o).0 ≡ Some v → inner_at names word (place_of (array_key n.scope word) names.variables) ≡ Some (meaning.Variable v)
    outer (Some f) e absent l is = cc
    outer None e absent l is = by_scope (n.scope == 0) refl
      where
        there : place_of (array_key 0 word) m.variables ≡ Some v
        there = l.variables (array_key 0 word) v (numbered_there (array_key 0 word) n.variables ∙ is)

        none : place_of (array_key 0 word) m.functions ≡ None
        none = ap (place_of (array_key 0 word)) l.functions ∙ e

        by_scope : (b : Bool) → (n.scope == 0) ≡ b → inner_at names word (place_of (array_key n.scope word) names.variables) ≡ Some (meaning.Variable v)
        by_scope true q =
            let out : n.scope ≡ 0 = search (arith, nat_tests, q) in
            ap (λ vs. inner_at names word (place_of (array_key n.scope word) vs)) h.variables ∙ ap (λ s. inner_at names word (place_of (array_key s word) m.variables)) out ∙ ap (inner_at names word) there
        by_scope false q =
            let within : n.scope ≡ 0 → ⊥ = λ z. (let no : false ≡ true = sym q ∙ ap (λ s. s == 0) z in cc) in
            let nowhere : place_of (array_key n.scope word) m.variables ≡ None = l.inner n.scope word within (inner_stays word n.variables n.scope word within absent) in
            ap (λ vs. inner_at names word (place_of (array_key n.scope word) vs)) h.variables ∙ ap (inner_at names word) nowhere ∙ outside none there

    inner : (o : Option ℕ) → place_of (array_key n.scope word) n.variables ≡ o → Later (meant_at word n o).1 m → (meant_at word n o).0 ≡ Some v → inner_at names word (place_of (array_key n.scope word) names.variables) ≡ Some (meaning.Variable v)
    inner (Some w) e l is =
        let there : place_of (array_key n.scope word) m.variables ≡ Some v = l.variables (array_key n.scope word) v (e ∙ is) in
        ap (λ vs. inner_at names word (place_of (array_key n.scope word) vs)) h.variables ∙ ap (inner_at names word) there
    inner None e l is = outer (place_of (array_key 0 word) n.functions) refl e l is

-- ---- mentions

named_later : (manner : Manner) (x : Name) (n m : Noted) → Later (named manner x n) m → Later (meant x.word n).1 m
unfolding named
named_later manner x n m l = later_on (meant x.word n).1 (named manner x n) m (grows_use x.left (use_of manner (meant x.word n).0) (meant x.word n).1).1 l

named_stands : (manner : Manner) (x : Name) (n m : Noted) → Later (named manner x n) m → Stands m.uses (use_of manner (meant x.word n).0)
unfolding named
named_stands manner x n m l = let s = last_stands (meant x.word n).1.uses (record { left = x.left; what = use_of manner (meant x.word n).0 }) in (s.0, s.1, l.uses s.0 s.1 s.2, s.3)

-- a name that is used stands for a variable
pub record IsUsed (m : Noted) (names : Known) (scope : ℕ) (x : Name) (manner : Manner) : Type 0 where
  pub variable : ℕ
  pub stands : Stands m.uses (what.Named manner variable)
  pub means : meaning_of names scope x.word ≡ Some (meaning.Variable variable)

used_name : (manner : Manner) (x : Name) (n m : Noted) (names : Known) → IsNamed m names → Later (named manner x n) m → IsUsed m names n.scope x manner
used_name manner x n m names h l = go (meant x.word n).0 refl
  where
    stands : (o : Option ℕ) → (meant x.word n).0 ≡ o → Stands m.uses (use_of manner o)
    stands o e = subst (λ (z : Option ℕ). Stands m.uses (use_of manner z)) e (named_stands manner x n m l)

    go : (o : Option ℕ) → (meant x.word n).0 ≡ o → IsUsed m names n.scope x manner
    go None e = absurd (unused m names h what.Misuse (stands None e) tt)
    go (Some v) e = record { variable = v; stands = stands (Some v) e; means = meant_means x.word n m names v h (named_later manner x n m l) e }

or_second : (a b : Bool) → b ≡ true → (a || b) ≡ true
or_second true b h = refl
or_second false b h = h

scalar_meets : (x : Name) (n m : Noted) (names : Known) → IsNamed m names → Later (named Scalar x n) m → names_scalar (sense names n.scope) x ≡ true
scalar_meets x n m names h l =
    let u = used_name Scalar x n m names h l in
    is_scalar names n.scope x u.variable u.means (unmarked m names h u.variable (λ a. unused m names h (what.Named Scalar u.variable) u.stands a))

array_meets : (x : Name) (n m : Noted) (names : Known) → IsNamed m names → Later (named Array x n) m → names_array (sense names n.scope) x ≡ true
array_meets x n m names h l =
    let u = used_name Array x n m names h l in
    is_array names n.scope x u.variable u.means (marked m names h u.variable (used u.stands)) (λ special. unused m names h (what.Named Array u.variable) u.stands special)

measured_meets : (x : Name) (n m : Noted) (names : Known) → IsNamed m names → AreOwn m.uses → Later (named Either x n) m → (names_array (sense names n.scope) x || names_scalar (sense names n.scope) x) ≡ true
measured_meets x n m names h own l = go (is_marked names.arrays u.variable) refl
  where
    u : IsUsed m names n.scope x Either
    u = used_name Either x n m names h l

    go : (b : Bool) → is_marked names.arrays u.variable ≡ b → (names_array (sense names n.scope) x || names_scalar (sense names n.scope) x) ≡ true
    go true e = ap (λ b. b || names_scalar (sense names n.scope) x) (is_array names n.scope x u.variable u.means e (no_special m names h own u.variable ((h.arrays u.variable).0 e)))
    go false e = or_second (names_array (sense names n.scope) x) (names_scalar (sense names n.scope) x) (is_scalar names n.scope x u.variable u.means e)

-- the parameter that takes an argument
parameter_here : (f : Name) (i : ℕ) (n m : Noted) (names : Known) → IsNamed m names → Later n m → kind_at (sense names n.scope) ((sense names n.scope).function f.word) i ≡ parameter_kind names (parameter f.word i n)
unfolding parameter
parameter_here f i n m names h l =
    kind_is names n.scope (place_of (array_key 0 f.word) names.functions) i
    ∙ ap (λ fs. parameter_kind names (parameter_at names.signatures (place_of (array_key 0 f.word) fs) i)) (h.functions ∙ l.functions)
    ∙ ap (λ ss. parameter_kind names (parameter_at ss (place_of (array_key 0 f.word) n.functions) i)) (h.signatures ∙ l.signatures)

passed_meets : (x f : Name) (i : ℕ) (n m : Noted) (names : Known) → IsNamed m names → Later (noted (Passed x f i) n) m → Meets (sense names n.scope) (Passed x f i)
passed_meets x f i n m names h l =
    subst (λ (o : Option Kind). Suits (sense names n.scope) o x) (sym (parameter_here f i n m names h (later_on n (noted (Passed x f i) n) m (grows_noted (Passed x f i) n).1 l))) (go (parameter f.word i n) l)
  where
    go : (o : Option ℕ) → Later (named (manner_of o) x n) m → Suits (sense names n.scope) (parameter_kind names o) x
    go None later = tt
    go (Some p) later = by_mark (is_marked names.arrays p) refl
      where
        u : IsUsed m names n.scope x (Argument p)
        u = used_name (Argument p) x n m names h later

        by_mark : (b : Bool) → is_marked names.arrays p ≡ b → Suits (sense names n.scope) (Some (kind_of b)) x
        by_mark true e =
            let a : IsArray m.uses u.variable = taken u.stands ((h.arrays p).0 e) in
            is_array names n.scope x u.variable u.means (marked m names h u.variable a) (λ special. unused m names h (what.Named (Argument p) u.variable) u.stands (special, a))
        by_mark false e =
            is_scalar names n.scope x u.variable u.means (unmarked m names h u.variable (λ a. (let no : false ≡ true = sym e ∙ marked m names h p (given u.stands a) in cc)))

computed_meets : (f : Name) (i : ℕ) (n m : Noted) (names : Known) → IsNamed m names → Later (computed f i n) m → IsNoArray (kind_at (sense names n.scope) ((sense names n.scope).function f.word) i)
unfolding computed
computed_meets f i n m names h l =
    subst IsNoArray (sym (parameter_here f i n m names h (later_on n (computed f i n) m (grows_noted (Computed f i) n).1 l))) (go (parameter f.word i n) l)
  where
    go : (o : Option ℕ) → Later (computed_at f.left n o) m → IsNoArray (parameter_kind names o)
    go None later = tt
    go (Some p) later = by_mark (is_marked names.arrays p) refl
      where
        stands : Stands m.uses (what.Value p)
        stands = let s = last_stands n.uses (record { left = f.left; what = what.Value p }) in (s.0, s.1, later.uses s.0 s.1 s.2, s.3)

        by_mark : (b : Bool) → is_marked names.arrays p ≡ b → IsNoArray (Some (kind_of b))
        by_mark true e = absurd (unused m names h (what.Value p) stands ((h.arrays p).0 e))
        by_mark false e = tt

-- a function takes `count` arguments
takes_so_many : (names : Known) (scope : ℕ) (f : Option ℕ) (count : ℕ) → takes_at names.signatures f count ≡ true → Takes (sense names scope) f count
takes_so_many names scope None count h = cc
takes_so_many names scope (Some f) count h = go (slice_get names.signatures f) refl h
  where
    go : (o : Option Signature) → slice_get names.signatures f ≡ o → takes_of o count ≡ true → count ≤ length (parameter_kinds names f)
    go None e g = cc
    go (Some s) e g =
        let enough : count ≤ s.end - s.first = search (arith, nat_tests, g) in
        let size : length (parameter_kinds names f) ≡ s.end - s.first = ap (λ o. length (kinds_at names o)) e ∙ length-map-range_with_len (λ v. kind_of (is_marked names.arrays v)) s.first (s.end - s.first) in
        omega (arith, enough, size)

called_meets : (f : Name) (count : ℕ) (n m : Noted) (names : Known) → IsNamed m names → Later (called f count n) m → Takes (sense names n.scope) ((sense names n.scope).function f.word) count
unfolding called takes
called_meets f count n m names h l = go (takes f.word count n) refl l (later_on n (called f count n) m (grows_noted (Called f count) n).1 l)
  where
    go : (b : Bool) → takes f.word count n ≡ b → Later (if b then n else with_use f.left what.Misuse n) m → Later n m → Takes (sense names n.scope) (place_of (array_key 0 f.word) names.functions) count
    go true e later on =
        takes_so_many names n.scope (place_of (array_key 0 f.word) names.functions) count
        (ap (λ fs. takes_at names.signatures (place_of (array_key 0 f.word) fs) count) (h.functions ∙ on.functions) ∙ ap (λ ss. takes_at ss (place_of (array_key 0 f.word) n.functions) count) (h.signatures ∙ on.signatures) ∙ e)
    go false e later on = let s = last_stands n.uses (record { left = f.left; what = what.Misuse }) in absurd (unused m names h what.Misuse (s.0, s.1, later.uses s.0 s.1 s.2, s.3) tt)

meets : (x : Mention) (n m : Noted) (names : Known) → IsNamed m names → AreOwn m.uses → Later (noted x n) m → Meets (sense names n.scope) x
meets (AsScalar x) n m names h own l = scalar_meets x n m names h l
meets (AsArray x) n m names h own l = array_meets x n m names h l
meets (Measured x) n m names h own l = measured_meets x n m names h own l
meets (Passed x f i) n m names h own l = passed_meets x f i n m names h l
meets (Computed f i) n m names h own l = computed_meets f i n m names h l
meets (Called f count) n m names h own l = called_meets f count n m names h l
meets (Pattern left w) n m names h own l = tt

pub all_meet : (xs : List Mention) (n m : Noted) (names : Known) → IsNamed m names → AreOwn m.uses → Later (noted_all xs n) m → AllMeet (sense names n.scope) xs
all_meet [] n m names h own l = tt
all_meet (x ∷ xs) n m names h own l =
    let step = grows_noted x n in (
      meets x n m names h own (later_on (noted x n) (noted_all xs (noted x n)) m (grows_all xs (noted x n)).1 l),
      subst (λ (s : ℕ). AllMeet (sense names s) xs) step.0 (all_meet xs (noted x n) m names h own l),
    )
