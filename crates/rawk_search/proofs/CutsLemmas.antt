-- The list of cuts that is computed is one of the relation.
use Rattle.std.proofs.Common.{◌≡◌, ℕ, zero, suc, ◌+◌, ◌≤◌, inl, inr, Bool, true, false, ◌&&◌, List, [], ◌∷◌, map, length, Option, None, Some, refl, sym, ap, ◌∙◌, subst, arith, eqb-true, eq-eqb}
use Rattle.std.specs.Prelude.{nat_eq}
use Rattle.std.proofs.lemmas.Bool.{cases_lt, and_parts}
use Rattle.rawk_ere_tree.specs.Tree.{Tree}
use Rattle.rawk_ere_tree.specs.Ends.{Ends}
use Rattle.rawk_ere_tree.specs.Cuts.{MayCut, IsCut, Cuts, no_more, nonempty, empty, AreCuts}
use Rattle.rawk_search.specs.declared.span.Span.{Span}
use Rattle.rawk_search.specs.Matches.{ends, greatest, places_from}
use Rattle.rawk_search.specs.Replacements.{ended_at, span_after, next_cut, cuts_from, cuts_on, cuts}
use Rattle.rawk_ere_tree.specs.Longer.{ends_reach}
use Rattle.rawk_search.specs.EndsOf.{ends_in}
use Rattle.rawk_search.specs.Spans.{IsGreatest, greatest_is, spans_none, spans_some}
use Rattle.rawk_search.specs.Found.{span_of, cases_span, longest_is}
use Rattle.rawk_search.specs.CutsOf.{ended_is, is_ended, refuted, same_or_none, after_some, span_some, cut_within, further, no_places, after_long, after_empty}

abbrev pair_of : Span → ℕ × ℕ
pair_of m = (m.start, m.end)

none_if : (b : Bool) (m : Span) → same_or_none b m ≡ None → b ≡ true
none_if true m h = refl
none_if false m h = cc

module _ (s : List ℕ) (e : Tree) (after : Option ℕ) where
  may_not : (k : ℕ) (o : Option ℕ) → greatest (ends true s e k) ≡ o → span_after after k o ≡ None → MayCut s e after k → ⊥
  may_not k None is h may = subst (IsGreatest (ends true s e k)) is (greatest_is (ends true s e k)) may.0 (ends_in true s e k may.0 may.1)
  may_not k (Some g) is h may =
      let long = longest_is true s e k g is in
      let b = and_parts (nat_eq k g) (ended_at after k) (none_if (nat_eq k g && ended_at after k) (span_of (k, g)) h) in
      let same = eqb-true k g b.0 in
      elim may.2 [
        | inl lt ↦ absurd (omega (arith, long.1 may.0 may.1))
        | inr both ↦ both.1 (ended_is after k b.1)
      ]

  is_cut_none : (p : ℕ) → next_cut s e p after ≡ None → IsCut s e p after None
  unfolding next_cut
  is_cut_none p h = λ k from le may. may_not k (greatest (ends true s e k)) refl (spans_none (λ i. span_after after i (greatest (ends true s e i))) p (places_from p s) h k from (omega arith)) may

  may_here : (i j : ℕ) → Ends true s e i j → (nat_eq i j && ended_at after i) ≡ false → MayCut s e after i
  may_here i j x b = (
    j,
    x,
    elim (cases_lt i j) [
      | inl lt ↦ inl lt
      | inr ge ↦ (let same : i ≡ j = omega (arith, (ends_reach true s e i j x).0) in inr (same, λ q. refuted (nat_eq i j) (ended_at after i) b (eq-eqb i j same) (is_ended after i q)))
    ],
  )

  taken_by : (i : ℕ) (o : Option ℕ) (m : Span) → span_after after i o ≡ Some m → (nat_eq i m.end && ended_at after i) ≡ false
  taken_by i None m h = cc
  taken_by i (Some j) m h = let r = after_some (nat_eq i j && ended_at after i) (span_of (i, j)) m h in subst (λ x. (nat_eq i x.end && ended_at after i) ≡ false) r.1 r.0

  is_cut_some : (p : ℕ) (m : Span) → next_cut s e p after ≡ Some m → IsCut s e p after (Some (pair_of m))
  unfolding next_cut
  is_cut_some p m h =
      let r = spans_some (λ i. span_after after i (greatest (ends true s e i))) p (places_from p s) m h in
      let here = span_some after r.place (greatest (ends true s e r.place)) m r.here in
      let long = longest_is true s e r.place m.end here.0 in
      let start = here.1 in (
        omega (arith, r.low),
        omega (arith, r.low, r.high),
        subst (MayCut s e after) (sym start) (may_here r.place m.end long.0 (taken_by r.place (greatest (ends true s e r.place)) m r.here)),
        λ i from lt may. may_not i (greatest (ends true s e i)) refl (r.before i from (omega arith)) may,
        subst (λ i. Ends true s e i m.end) (sym start) long.0,
        λ k x. long.1 k (subst (λ i. Ends true s e i k) start x),
      )

from_empty : (s : List ℕ) (e : Tree) (p : ℕ) (after : Option ℕ) (m : Span) (ms : List (ℕ × ℕ)) → m.start ≡ m.end → IsCut s e p after (Some (pair_of m)) → Cuts s e (m.start + 1) None ms → Cuts s e p after (pair_of m ∷ ms)
from_empty s e p after m ms same c rest =
    let is : pair_of m ≡ (m.start, m.start) = ap (λ j. (m.start, j)) (sym same) in
    subst (λ x. Cuts s e p after (x ∷ ms)) (sym is) (empty (subst (λ x. IsCut s e p after (Some x)) is c) rest)

are_cuts : (s : List ℕ) (e : Tree) (more p : ℕ) (after : Option ℕ) → length s + 1 ≤ p + more → Cuts s e p after (map pair_of (cuts_from s e more p after))
are_cuts s e zero p after le = no_more (is_cut_none s e after p (no_places s e p after (omega arith)))
are_cuts s e (suc more) p after le = elim (cases_span (next_cut s e p after)) [
  | inl none ↦ subst (λ l. Cuts s e p after (map pair_of l)) (sym (ap (further s e more) none)) (no_more (is_cut_none s e after p none))
  | inr some ↦
      let m = some.0 in
      let w = cut_within s e p after m some.1 in
      let c = is_cut_some s e after p m some.1 in
      elim (cases_lt m.start m.end) [
        | inl lt ↦ subst (λ l. Cuts s e p after (map pair_of l)) (sym (ap (further s e more) some.1 ∙ after_long s e more m lt)) (nonempty c lt (are_cuts s e more m.end (Some m.end) (omega (arith, w.0))))
        | inr ge ↦
            subst (λ l. Cuts s e p after (map pair_of l)) (sym (ap (further s e more) some.1 ∙ after_empty s e more m ge))
            (from_empty s e p after m (map pair_of (cuts_from s e more (m.start + 1) None)) (omega (arith, w.1)) c (are_cuts s e more (m.start + 1) None (omega (arith, w.0))))
      ]
]

pairs_back : (ms : List (ℕ × ℕ)) → map pair_of (map span_of ms) ≡ ms
pairs_back [] = refl
pairs_back (m ∷ ms) = ap (λ l. m ∷ l) (pairs_back ms)

cuts_are : (s : List ℕ) (e : Tree) → AreCuts s e (map pair_of (cuts s e))
unfolding cuts_on
cuts_are s e = are_cuts s e (places_from 0 s) 0 None (omega arith)

pub of_cuts : (s : List ℕ) (e : Tree) (ms : List (ℕ × ℕ)) → cuts s e ≡ map span_of ms → AreCuts s e ms
of_cuts s e ms h = subst (AreCuts s e) (ap (map pair_of) h ∙ pairs_back ms) (cuts_are s e)
