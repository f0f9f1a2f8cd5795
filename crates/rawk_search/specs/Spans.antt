-- The first of the spans that begin at places after one another.
use Rattle.std.proofs.Common.{◌≡◌, ℕ, zero, suc, ◌+◌, ◌<◌, ◌≤◌, ◌⊎◌, inl, inr, max, Bool, true, false, ◌||◌, true≢false, List, [], ◌∷◌, Option, Some, None, refl, sym, ap, ◌∙◌, subst, arith, ltb-true, ltb-false, lt-ltb, le-ltb}
use Rattle.std.specs.Prelude.{if◌then◌else◌, nat_lt}
use Rattle.std.proofs.lemmas.Bool.{cases_lt, cases_eq}
use Rattle.rawk_search.specs.declared.span.Span.{Span}
use Rattle.rawk_search.specs.Matches.{greater, greatest, span_past, or_span, first_span, any_place}
use Rattle.rawk_search.specs.Repeats.{IsAmong, or_left, or_right}

-- what `greatest` gives
abbrev pub IsGreatest : List ℕ → Option ℕ → Type 0
IsGreatest js None = (j : ℕ) → IsAmong js j → ⊥
IsGreatest js (Some g) = IsAmong js g × ((k : ℕ) → IsAmong js k → k ≤ g)

greater_is : (j : ℕ) (js : List ℕ) (o : Option ℕ) → IsGreatest js o → IsGreatest (j ∷ js) (Some (greater j o))
greater_is j js None h = (inl refl, λ k a. elim a [ inl e ↦ omega arith | inr b ↦ absurd (h k b) ])
greater_is j js (Some g) h = elim (cases_lt j g) [
  | inl lt ↦ (let e : g ≡ max j g = omega arith in (inr (subst (IsAmong js) e h.0), λ k a. elim a [ inl x ↦ omega arith | inr b ↦ omega (arith, h.1 k b) ]))
  | inr ge ↦ (let e : j ≡ max j g = omega arith in (inl e, λ k a. elim a [ inl x ↦ omega arith | inr b ↦ omega (arith, h.1 k b) ]))
]

pub greatest_is : (js : List ℕ) → IsGreatest js (greatest js)
greatest_is [] = λ j h. h
greatest_is (j ∷ js) = greater_is j js (greatest js) (greatest_is js)

abbrev span : ℕ → ℕ → Span
span i j = record { start = i; end = j }

none_some : (j : ℕ) → None ≡ Some j → ⊥
none_some j e = cc

or_false : (x y : Bool) → (x || y) ≡ false → (x ≡ false) × (y ≡ false)
or_false true y h = absurd (true≢false h)
or_false false y h = (refl, h)

if_some : (b : Bool) (x m : Span) → (if b then Some x else None) ≡ Some m → (b ≡ true) × (x ≡ m)
if_some true x m h = (refl, cc)
if_some false x m h = cc

if_none : (b : Bool) (x : Span) → (if b then Some x else None) ≡ None → b ≡ false
if_none true x h = cc
if_none false x h = refl

pub past_some : (i : ℕ) (o : Option ℕ) (m : Span) → span_past i o ≡ Some m → (o ≡ Some m.end) × (m.start ≡ i) × (i < m.end)
past_some i None m h = cc
past_some i (Some j) m h =
    let r = if_some (nat_lt i j) (span i j) m h in
    (ap (λ x. Some x.end) r.1, sym (ap (λ x. x.start) r.1), subst (λ x. i < x.end) r.1 (ltb-true i j r.0))

pub some_past : (i j : ℕ) (o : Option ℕ) → o ≡ Some j → i < j → span_past i o ≡ Some (span i j)
some_past i j o e lt = ap (span_past i) e ∙ ap (λ b. if b then Some (span i j) else None) (lt-ltb i j lt)

pub past_none : (i : ℕ) (o : Option ℕ) (j : ℕ) → span_past i o ≡ None → o ≡ Some j → j ≤ i
past_none i None j h e = (let n : None ≡ Some j = e in absurd (none_some j n))
past_none i (Some k) j h e = (let same : k ≡ j = cc in subst (λ x. x ≤ i) same (ltb-false i k (if_none (nat_lt i k) (span i k) h)))

pub none_past : (i : ℕ) (o : Option ℕ) → ((j : ℕ) → o ≡ Some j → j ≤ i) → span_past i o ≡ None
none_past i None h = refl
none_past i (Some j) h = ap (λ b. if b then Some (span i j) else None) (le-ltb i j (h j refl))

-- the first span that `at` gives, of n places from p on, is m
pub record IsFirstAt (at : ℕ → Option Span) (p n : ℕ) (m : Span) : Type 0 where
  pub place : ℕ
  pub low : p ≤ place
  pub high : place < p + n
  pub here : at place ≡ Some m
  pub before : (i : ℕ) → p ≤ i → i < place → at i ≡ None

or_none : (a b : Option Span) → or_span a b ≡ None → (a ≡ None) × (b ≡ None)
or_none None b h = (refl, h)
or_none (Some m) b h = cc

or_some : (a b : Option Span) (m : Span) → or_span a b ≡ Some m → (a ≡ Some m) ⊎ ((a ≡ None) × (b ≡ Some m))
or_some None b m h = inr (refl, h)
or_some (Some x) b m h = inl h

pub spans_none : (at : ℕ → Option Span) (p n : ℕ) → first_span at p n ≡ None → (k : ℕ) → p ≤ k → k < p + n → at k ≡ None
spans_none at p zero h k le lt = absurd (omega arith)
spans_none at p (suc n) h k le lt =
    let r = or_none (at p) (first_span at (p + 1) n) h in
    elim (cases_eq p k) [
      | inl e ↦ ap at (sym e) ∙ r.0
      | inr other ↦ (let ne : p ≡ k → ⊥ = other in spans_none at (p + 1) n r.1 k (omega (arith, ne)) (omega arith))
    ]

pub none_spans : (at : ℕ → Option Span) (p n : ℕ) → ((k : ℕ) → p ≤ k → k < p + n → at k ≡ None) → first_span at p n ≡ None
none_spans at p zero h = refl
none_spans at p (suc n) h = ap (λ o. or_span o (first_span at (p + 1) n)) (h p (omega arith) (omega arith)) ∙ none_spans at (p + 1) n (λ k le lt. h k (omega arith) (omega arith))

pub spans_some : (at : ℕ → Option Span) (p n : ℕ) (m : Span) → first_span at p n ≡ Some m → IsFirstAt at p n m
spans_some at p zero m h = cc
spans_some at p (suc n) m h = elim (or_some (at p) (first_span at (p + 1) n) m h) [
  | inl a ↦ record { place = p; low = omega arith; high = omega arith; here = a; before = λ i le lt. absurd (omega arith) }
  | inr b ↦ (let r = spans_some at (p + 1) n m b.1 in
      record {
        place = r.place;
        low = omega (arith, r.low);
        high = omega (arith, r.high);
        here = r.here;
        before = λ i le lt. elim (cases_eq p i) [ inl e ↦ ap at (sym e) ∙ b.0 | inr other ↦ (let ne : p ≡ i → ⊥ = other in r.before i (omega (arith, ne)) lt) ];
      })
]

pub some_spans : (at : ℕ → Option Span) (p n : ℕ) (m : Span) → IsFirstAt at p n m → first_span at p n ≡ Some m
some_spans at p zero m r = absurd (omega (arith, r.low, r.high))
some_spans at p (suc n) m r = elim (cases_eq p r.place) [
  | inl e ↦ ap (λ o. or_span o (first_span at (p + 1) n)) (ap at e ∙ r.here)
  | inr other ↦ (let ne : p ≡ r.place → ⊥ = other in
      ap (λ o. or_span o (first_span at (p + 1) n)) (r.before p (omega arith) (omega (arith, ne, r.low)))
      ∙ some_spans at (p + 1) n m (record { place = r.place; low = omega (arith, ne, r.low); high = omega (arith, r.high); here = r.here; before = λ i le lt. r.before i (omega arith) lt }))
]

pub any_none : (test : ℕ → Bool) (p n : ℕ) → any_place test p n ≡ false → (k : ℕ) → p ≤ k → k < p + n → test k ≡ false
any_none test p zero h k le lt = absurd (omega arith)
any_none test p (suc n) h k le lt =
    let r = or_false (test p) (any_place test (p + 1) n) h in
    elim (cases_eq p k) [
      | inl e ↦ ap test (sym e) ∙ r.0
      | inr other ↦ (let ne : p ≡ k → ⊥ = other in any_none test (p + 1) n r.1 k (omega (arith, ne)) (omega arith))
    ]

pub none_any : (test : ℕ → Bool) (p n : ℕ) → ((k : ℕ) → p ≤ k → k < p + n → test k ≡ false) → any_place test p n ≡ false
none_any test p zero h = refl
none_any test p (suc n) h = ap (λ b. b || any_place test (p + 1) n) (h p (omega arith) (omega arith)) ∙ none_any test (p + 1) n (λ k le lt. h k (omega arith) (omega arith))

pub any_some : (test : ℕ → Bool) (p n k : ℕ) → p ≤ k → k < p + n → test k ≡ true → any_place test p n ≡ true
any_some test p zero k le lt h = absurd (omega arith)
any_some test p (suc n) k le lt h = elim (cases_eq p k) [
  | inl e ↦ or_left (test p) (any_place test (p + 1) n) (ap test e ∙ h)
  | inr other ↦ (let ne : p ≡ k → ⊥ = other in or_right (test p) (any_place test (p + 1) n) (any_some test (p + 1) n k (omega (arith, ne)) (omega arith) h))
]
