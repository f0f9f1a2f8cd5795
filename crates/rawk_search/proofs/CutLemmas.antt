-- The match that is cut next is the next match, or where that is empty and stands directly after one that is not, the one after it.
use Rattle.std.proofs.Common.{◌≡◌, ℕ, ◌+◌, ◌<◌, ◌≤◌, inl, inr, Bool, true, false, not, eqb, true≢false, List, length, Option, None, Some, refl, sym, ap, ◌∙◌, subst, arith, eqb-true, ne_eqb, eq-eqb}
use Rattle.std.specs.Prelude.{if◌then◌else◌, nat_eq}
use Rattle.std.specs.Option.{option_eq}
use Rattle.std.proofs.lemmas.Bool.{cases_order, cases_eq, and_left, and_right, and_from}
use Rattle.rawk_ere_tree.specs.Tree.{Tree}
use Rattle.rawk_search.specs.declared.span.Span.{Span}
use Rattle.rawk_search.specs.Matches.{ends, greatest, span_to, first_span, places_from, first_match}
use Rattle.rawk_search.specs.Replacements.{ended_at, span_after, next_cut}
use Rattle.rawk_search.specs.Spans.{spans_none, none_spans, spans_some, some_spans}
use Rattle.rawk_search.specs.Found.{span_of, cases_span}

to_none : (i : ℕ) (o : Option ℕ) → span_to i o ≡ None → o ≡ None
to_none i None h = refl
to_none i (Some j) h = cc

to_some : (i : ℕ) (o : Option ℕ) (m : Span) → span_to i o ≡ Some m → (o ≡ Some m.end) × (m.start ≡ i)
to_some i None m h = cc
to_some i (Some j) m h = let same : span_of (i, j) ≡ m = cc in (ap (λ x. Some x.end) same, sym (ap (λ x. x.start) same))

after_none : (after : Option ℕ) (i : ℕ) (o : Option ℕ) → span_to i o ≡ None → span_after after i o ≡ None
after_none after i o h = ap (span_after after i) (to_none i o h)

after_other : (after : Option ℕ) (i : ℕ) (o : Option ℕ) → ended_at after i ≡ false → span_after after i o ≡ span_to i o
after_other after i None h = refl
after_other after i (Some j) h = ap (λ b. if b then None else Some (span_of (i, j))) (and_right (nat_eq i j) (ended_at after i) h)

after_long : (after : Option ℕ) (i j : ℕ) → i < j → span_after after i (Some j) ≡ Some (span_of (i, j))
after_long after i j lt = ap (λ b. if b then None else Some (span_of (i, j))) (and_left (nat_eq i j) (ended_at after i) (ne_eqb i j (λ e. omega arith)))

after_short : (after : Option ℕ) (i j : ℕ) → i ≡ j → ended_at after i ≡ true → span_after after i (Some j) ≡ None
after_short after i j e h = ap (λ b. if b then None else Some (span_of (i, j))) (and_from (nat_eq i j) (ended_at after i) (eq-eqb i j e) h)

other_place : (after : Option ℕ) (q i : ℕ) → ended_at after q ≡ true → (q ≡ i → ⊥) → ended_at after i ≡ false
other_place None q i h n = refl
other_place (Some x) q i h n = ne_eqb x i (λ e. n (sym (eqb-true x q h) ∙ e))

same_test : (after : Option ℕ) (i : ℕ) → option_eq eqb after (Some i) ≡ ended_at after i
same_test None i = refl
same_test (Some q) i = refl

not_true : (b : Bool) → true ≡ not b → b ≡ false
not_true true h = absurd (true≢false h)
not_true false h = refl

not_false : (b : Bool) → false ≡ not b → b ≡ true
not_false true h = refl
not_false false h = absurd (true≢false (sym h))

module _ (s : List ℕ) (e : Tree) (after : Option ℕ) (p : ℕ) where
  pub cut_missing : (o : Option Span) → o ≡ first_match s e p → o ≡ None → None ≡ next_cut s e p after
  unfolding first_match next_cut
  cut_missing o is none =
      sym (none_spans (λ i. span_after after i (greatest (ends true s e i))) p (places_from p s) (λ k from lt.
      after_none after k (greatest (ends true s e k)) (spans_none (λ i. span_to i (greatest (ends true s e i))) p (places_from p s) (sym is ∙ none) k from lt)))

  taken : (m : Span) → first_match s e p ≡ Some m → span_after after m.start (Some m.end) ≡ Some m → next_cut s e p after ≡ Some m
  unfolding first_match next_cut
  taken m is cut =
      let r = spans_some (λ i. span_to i (greatest (ends true s e i))) p (places_from p s) m is in
      let here = to_some r.place (greatest (ends true s e r.place)) m r.here in
      some_spans (λ i. span_after after i (greatest (ends true s e i))) p (places_from p s) m (record {
        place = r.place;
        low = r.low;
        high = r.high;
        here = ap (span_after after r.place) here.0 ∙ ap (λ i. span_after after i (Some m.end)) (sym here.1) ∙ cut;
        before = λ i from lt. after_none after i (greatest (ends true s e i)) (r.before i from lt);
      })

  pub cut_long : (o : Option Span) (m : Span) → o ≡ first_match s e p → o ≡ Some m → m.start < m.end → Some m ≡ next_cut s e p after
  cut_long o m is some lt = sym (taken m (sym is ∙ some) (after_long after m.start m.end lt))

  pub cut_apart : (o : Option Span) (m : Span) → o ≡ first_match s e p → o ≡ Some m → true ≡ not (option_eq eqb after (Some m.start)) → Some m ≡ next_cut s e p after
  cut_apart o m is some apart = sym (taken m (sym is ∙ some) (after_other after m.start (Some m.end) (sym (same_test after m.start) ∙ not_true (option_eq eqb after (Some m.start)) apart)))

  further : (m : Span) → first_match s e p ≡ Some m → m.end ≤ m.start → ended_at after m.start ≡ true → m.start ≤ m.end → first_match s e (m.start + 1) ≡ next_cut s e p after
  unfolding first_match next_cut
  further m is short ended up =
      let to : ℕ → Option Span = λ i. span_to i (greatest (ends true s e i)) in
      let cut : ℕ → Option Span = λ i. span_after after i (greatest (ends true s e i)) in
      let r = spans_some to p (places_from p s) m is in
      let here = to_some r.place (greatest (ends true s e r.place)) m r.here in
      let low = r.low in
      let high = r.high in
      let start = here.1 in
      let early : (i : ℕ) → p ≤ i → i ≤ m.start → cut i ≡ None = λ i from upto. elim (cases_eq m.start i) [
        | inl same ↦
            let at : r.place ≡ i = sym start ∙ same in
            subst (λ k. cut k ≡ None) at (ap (span_after after r.place) here.0 ∙ after_short after r.place m.end (omega arith) (subst (λ k. ended_at after k ≡ true) start ended))
        | inr other ↦ (let ne : m.start ≡ i → ⊥ = other in after_none after i (greatest (ends true s e i)) (r.before i from (omega arith)))
      ] in
      let late : (i : ℕ) → m.start < i → cut i ≡ to i = λ i lt. after_other after i (greatest (ends true s e i)) (other_place after m.start i ended (λ same. omega arith)) in
      elim (cases_span (first_span to (m.start + 1) (places_from (m.start + 1) s))) [
        | inl none ↦
            none ∙ sym (none_spans cut p (places_from p s) (λ k from lt. elim (cases_order k m.start) [
              | inl same ↦ early k from (omega arith)
              | inr apart ↦ elim apart [
                | inl before ↦ early k from (omega arith)
                | inr past ↦ late k past ∙ spans_none to (m.start + 1) (places_from (m.start + 1) s) none k (omega arith) (omega arith)
              ]
            ]))
        | inr some ↦
            let f = spans_some to (m.start + 1) (places_from (m.start + 1) s) some.0 some.1 in
            let after_start = f.low in
            let within = f.high in
            some.1 ∙ sym (some_spans cut p (places_from p s) some.0 (record {
              place = f.place;
              low = omega arith;
              high = omega arith;
              here = late f.place (omega arith) ∙ f.here;
              before = λ i from lt. elim (cases_order i m.start) [
                | inl same ↦ early i from (omega arith)
                | inr apart ↦ elim apart [ inl before ↦ early i from (omega arith) | inr past ↦ late i past ∙ f.before i (omega arith) lt ]
              ];
            }))
      ]

  pub cut_further : (o : Option Span) (m : Span) → o ≡ first_match s e p → o ≡ Some m → m.start ≤ m.end → m.end ≤ m.start → false ≡ not (option_eq eqb after (Some m.start)) → first_match s e (m.start + 1) ≡ next_cut s e p after
  cut_further o m is some up short ended = further m (sym is ∙ some) short (sym (same_test after m.start) ∙ not_false (option_eq eqb after (Some m.start)) ended) up

-- beyond the end of the text there is no match
pub no_match_past : (s : List ℕ) (e : Tree) (p : ℕ) → length s < p → first_match s e p ≡ None
unfolding first_match
no_match_past s e p lt = none_spans (λ i. span_to i (greatest (ends true s e i))) p (places_from p s) (λ k from below. absurd (omega arith))
