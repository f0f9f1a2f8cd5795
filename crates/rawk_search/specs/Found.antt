-- What the functions find is what the relations say.
use Rattle.std.proofs.Common.{◌≡◌, ℕ, ◌+◌, ◌-◌, ◌<◌, ◌≤◌, ◌⊎◌, inl, inr, Bool, true, false, true≢false, List, length, Option, Some, None, refl, sym, ap, ◌∙◌, subst, arith}
use Rattle.std.specs.Prelude.{if◌then◌else◌}
use Rattle.std.proofs.lemmas.Bool.{cases_lt, cases_Bool}
use Rattle.rawk_ere_tree.specs.Tree.{Tree}
use Rattle.rawk_ere_tree.specs.Ends.{Ends, IsMatch}
use Rattle.rawk_ere_tree.specs.Open.{Needs, IsNonempty, IsOpenMatch}
use Rattle.rawk_search.specs.declared.span.Span.{Span}
use Rattle.rawk_search.specs.Matches.{ends, needs, greatest, span_to, span_past, places_from, any_place, if_settled, first_match, first_nonempty, open_match}
use Rattle.rawk_search.specs.Repeats.{IsAmong}
use Rattle.rawk_ere_tree.specs.Longer.{ends_reach}
use Rattle.rawk_search.specs.EndsOf.{ends_in, ends_of, needs_in, needs_of}
use Rattle.rawk_search.specs.Spans.{IsGreatest, greatest_is, past_some, some_past, past_none, none_past, spans_none, none_spans, spans_some, some_spans, any_none, none_any, any_some}

-- a begin and an end as a span
abbrev pub span_of : ℕ × ℕ → Span
span_of m = record { start = m.0; end = m.1 }

abbrev pub spans_of : Option (ℕ × ℕ) → Option Span
spans_of None = None
spans_of (Some m) = Some (span_of m)

-- a match stands within the text, from p on; it may be empty
abbrev pub IsWithin : ℕ → List ℕ → Span → Type 0
IsWithin p s m = (p ≤ m.start) × (m.start ≤ m.end) × (m.end ≤ length s)

pub cases_span : (o : Option Span) → (o ≡ None) ⊎ ((m : Span) × (o ≡ Some m))
cases_span None = inl refl
cases_span (Some m) = inr (m, refl)

greatest_at : (js : List ℕ) (o : Option ℕ) → IsGreatest js o → (j : ℕ) → IsAmong js j → ((k : ℕ) → IsAmong js k → k ≤ j) → o ≡ Some j
greatest_at js None h j a up = absurd (h j a)
greatest_at js (Some g) h j a up = ap Some (omega (arith, h.1 j a, up g h.0))

greatest_none : (js : List ℕ) (o : Option ℕ) → IsGreatest js o → ((j : ℕ) → IsAmong js j → ⊥) → o ≡ None
greatest_none js None h n = refl
greatest_none js (Some g) h n = absurd (n g h.0)

past_all : (i : ℕ) (js : List ℕ) (o : Option ℕ) → IsGreatest js o → span_past i o ≡ None → (j : ℕ) → IsAmong js j → j ≤ i
past_all i js None h e j a = absurd (h j a)
past_all i js (Some g) h e j a = omega (arith, h.1 j a, past_none i (Some g) g e refl)

module _ (closed : Bool) (s : List ℕ) (e : Tree) where
  pub longest_is : (i j : ℕ) → greatest (ends closed s e i) ≡ Some j → Ends closed s e i j × ((k : ℕ) → Ends closed s e i k → k ≤ j)
  longest_is i j h =
      let g = subst (IsGreatest (ends closed s e i)) h (greatest_is (ends closed s e i)) in
      (ends_of closed s e i j g.0, λ k x. g.1 k (ends_in closed s e i k x))

  pub is_longest : (i j : ℕ) → Ends closed s e i j → ((k : ℕ) → Ends closed s e i k → k ≤ j) → greatest (ends closed s e i) ≡ Some j
  is_longest i j h up = greatest_at (ends closed s e i) (greatest (ends closed s e i)) (greatest_is (ends closed s e i)) j (ends_in closed s e i j h) (λ k a. up k (ends_of closed s e i k a))

  none_longest : (i : ℕ) → ((j : ℕ) → Ends closed s e i j → ⊥) → greatest (ends closed s e i) ≡ None
  none_longest i n = greatest_none (ends closed s e i) (greatest (ends closed s e i)) (greatest_is (ends closed s e i)) (λ j a. n j (ends_of closed s e i j a))

  -- a match that is not empty begins within the text
  pub begins_within : (i j : ℕ) → i < j → Ends closed s e i j → j ≤ length s
  begins_within i j lt h = omega (arith, (ends_reach closed s e i j h).1)

  no_past : (i j : ℕ) → span_past i (greatest (ends closed s e i)) ≡ None → i < j → Ends closed s e i j → ⊥
  no_past i j n lt h = absurd (omega (arith, past_all i (ends closed s e i) (greatest (ends closed s e i)) (greatest_is (ends closed s e i)) n j (ends_in closed s e i j h)))

  past_no : (i : ℕ) → ((j : ℕ) → i < j → Ends closed s e i j → ⊥) → span_past i (greatest (ends closed s e i)) ≡ None
  past_no i n = none_past i (greatest (ends closed s e i)) (λ j g. elim (cases_lt i j) [ inl lt ↦ absurd (n j lt (longest_is i j g).0) | inr ge ↦ ge ])

  pub nonempty_is : (p : ℕ) (m : Span) → first_nonempty closed s e p ≡ Some m → IsNonempty closed s e p (m.start, m.end)
  unfolding first_nonempty
  nonempty_is p m h =
      let r = spans_some (λ i. span_past i (greatest (ends closed s e i))) p (places_from p s) m h in
      let here = past_some r.place (greatest (ends closed s e r.place)) m r.here in
      let start : m.start ≡ r.place = here.1 in
      let long = longest_is r.place m.end here.0 in (
        omega (arith, r.low),
        omega (arith, here.2),
        subst (λ i. Ends closed s e i m.end) (sym start) long.0,
        λ i j from lt x. elim (cases_lt i r.place) [ inl before ↦ absurd (no_past i j (r.before i from before) lt x) | inr ge ↦ omega arith ],
        λ k x. long.1 k (subst (λ i. Ends closed s e i k) start x),
      )

  pub is_nonempty : (p : ℕ) (m : ℕ × ℕ) → IsNonempty closed s e p m → first_nonempty closed s e p ≡ Some (span_of m)
  unfolding first_nonempty
  is_nonempty p m h =
      some_spans (λ i. span_past i (greatest (ends closed s e i))) p (places_from p s) (span_of m) (record {
        place = m.0;
        low = h.0;
        high = omega (arith, h.0, h.1, begins_within m.0 m.1 h.1 h.2);
        here = some_past m.0 m.1 (greatest (ends closed s e m.0)) (is_longest m.0 m.1 h.2 h.4) h.1;
        before = λ i from lt. past_no i (λ j up x. absurd (omega (arith, lt, h.3 i j from up x)));
      })

  pub none_is : (p : ℕ) → first_nonempty closed s e p ≡ None → (i j : ℕ) → p ≤ i → i < j → Ends closed s e i j → ⊥
  unfolding first_nonempty
  none_is p h i j from lt x =
      no_past i j (spans_none (λ k. span_past k (greatest (ends closed s e k))) p (places_from p s) h i from (omega (arith, begins_within i j lt x))) lt x

  pub is_none : (p : ℕ) → ((i j : ℕ) → p ≤ i → i < j → Ends closed s e i j → ⊥) → first_nonempty closed s e p ≡ None
  unfolding first_nonempty
  is_none p n = none_spans (λ k. span_past k (greatest (ends closed s e k))) p (places_from p s) (λ k from lt. past_no k (λ j up x. n k j from up x))

module _ (s : List ℕ) (e : Tree) (p : ℕ) where
  no_needs : (k : ℕ) → (Needs s e k → ⊥) → needs s e k ≡ false
  no_needs k n = elim (cases_Bool (needs s e k)) [ inl t ↦ absurd (n (needs_of s e k t)) | inr f ↦ f ]

  -- no place from p up to there needs to know what follows
  abbrev pub NeedsNone : ℕ → Type 0
  NeedsNone upto = (k : ℕ) → p ≤ k → k ≤ upto → Needs s e k → ⊥

  settled_some : (o : Option Span) (m : Span) → if_settled s e p o ≡ Some m → (o ≡ Some m) × (any_place (needs s e) p (m.start + 1 - p) ≡ false)
  settled_some None m h = cc
  settled_some (Some x) m h = settled_by (any_place (needs s e) p (x.start + 1 - p)) refl h
    where
      settled_by : (b : Bool) → any_place (needs s e) p (x.start + 1 - p) ≡ b → (if b then None else Some x) ≡ Some m → (Some x ≡ Some m) × (any_place (needs s e) p (m.start + 1 - p) ≡ false)
      settled_by true eq is = cc
      settled_by false eq is = (is, (let same : x ≡ m = cc in subst (λ y. any_place (needs s e) p (y.start + 1 - p) ≡ false) same eq))

  pub open_is : (m : Span) → open_match s e p ≡ Some m → (first_nonempty false s e p ≡ Some m) × NeedsNone m.start
  unfolding open_match
  open_is m h =
      let r = settled_some (first_nonempty false s e p) m h in
      (r.0, λ k from upto n. true≢false (sym (needs_in s e k n) ∙ any_none (needs s e) p (m.start + 1 - p) r.1 k from (omega arith)))

  pub is_open : (m : Span) → first_nonempty false s e p ≡ Some m → NeedsNone m.start → open_match s e p ≡ Some m
  unfolding open_match
  is_open m h n =
      ap (if_settled s e p) h
      ∙ ap (λ b. if b then None else Some m) (none_any (needs s e) p (m.start + 1 - p) (λ k from lt. no_needs k (n k from (omega (arith, from, lt)))))

  pub open_none : ((m : Span) → first_nonempty false s e p ≡ Some m → (k : ℕ) × (p ≤ k) × (k ≤ m.start) × Needs s e k) → open_match s e p ≡ None
  unfolding open_match
  open_none h = elim (cases_span (first_nonempty false s e p)) [
    | inl none ↦ ap (if_settled s e p) none
    | inr some ↦ (let n = h some.0 some.1 in
        ap (if_settled s e p) some.1
        ∙ ap (λ b. if b then None else Some some.0) (any_some (needs s e) p (some.0.start + 1 - p) n.0 n.1 (omega (arith, n.1, n.2)) (needs_in s e n.0 n.3)))
  ]

  pub open_of : (o : Option (ℕ × ℕ)) → IsOpenMatch s e p o → open_match s e p ≡ spans_of o
  open_of None h = open_none (λ m is. (let x = nonempty_is false s e p m is in h m.start m.end x.0 x.1 x.2))
  open_of (Some m) h = is_open (span_of m) (is_nonempty false s e p m h.0) h.1

  pub match_none : IsMatch s e p None → first_match s e p ≡ None
  unfolding first_match
  match_none h =
      none_spans (λ i. span_to i (greatest (ends true s e i))) p (places_from p s)
      (λ k from lt. ap (span_to k) (none_longest true s e k (λ j x. h k j from (omega arith) x)))

  pub match_some : (m : ℕ × ℕ) → m.0 ≤ length s → IsMatch s e p (Some m) → first_match s e p ≡ Some (span_of m)
  unfolding first_match
  match_some m le h =
      some_spans (λ i. span_to i (greatest (ends true s e i))) p (places_from p s) (span_of m) (record {
        place = m.0;
        low = h.0;
        high = omega (arith, h.0);
        here = ap (span_to m.0) (is_longest true s e m.0 m.1 h.1 h.3);
        before = λ i from lt. ap (span_to i) (none_longest true s e i (λ j x. absurd (omega (arith, lt, h.2 i j from x))));
      })
