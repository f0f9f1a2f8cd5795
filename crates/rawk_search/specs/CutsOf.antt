-- The matches that are computed for a replacement are those of the relation.
use Rattle.std.proofs.Common.{◌≡◌, ℕ, zero, suc, ◌+◌, ◌<◌, ◌≤◌, inl, inr, Bool, true, false, ◌&&◌, true≢false, List, [], ◌∷◌, map, length, Option, None, Some, refl, sym, ap, ◌∙◌, arith, eqb-true, eq-eqb, lt-ltb, le-ltb}
use Rattle.std.specs.Prelude.{if◌then◌else◌, nat_eq, nat_lt}
use Rattle.std.proofs.lemmas.Bool.{cases_lt, cases_Bool, and_from}
use Rattle.rawk_ere_tree.specs.Tree.{Tree}
use Rattle.rawk_ere_tree.specs.Ends.{Ends}
use Rattle.rawk_ere_tree.specs.Cuts.{MayCut, IsCut, Cuts, no_more, nonempty, empty, AreCuts}
use Rattle.rawk_search.specs.declared.span.Span.{Span}
use Rattle.rawk_search.specs.Matches.{ends, greatest, places_from}
use Rattle.rawk_search.specs.Replacements.{ended_at, span_after, next_cut, cuts_from, cuts_on, cuts}
use Rattle.rawk_ere_tree.specs.Longer.{ends_reach}
use Rattle.rawk_search.specs.Spans.{none_spans, spans_some, some_spans}
use Rattle.rawk_search.specs.Found.{span_of, cases_span, longest_is, is_longest, IsWithin}

pub ended_is : (after : Option ℕ) (i : ℕ) → ended_at after i ≡ true → after ≡ Some i
ended_is None i h = cc
ended_is (Some q) i h = ap Some (eqb-true q i h)

pub is_ended : (after : Option ℕ) (i : ℕ) → after ≡ Some i → ended_at after i ≡ true
is_ended after i h = ap (λ o. ended_at o i) h ∙ eq-eqb i i refl

pub refuted : (x y : Bool) → (x && y) ≡ false → x ≡ true → y ≡ true → ⊥
refuted x y not_so a b = true≢false (sym (and_from x y a b) ∙ not_so)

allowed : (x y : Bool) → (x ≡ true → y ≡ true → ⊥) → (x && y) ≡ false
allowed true true n = absurd (n refl refl)
allowed true false n = refl
allowed false y n = refl

module _ (s : List ℕ) (e : Tree) (after : Option ℕ) where
  -- the match that may be cut at i
  abbrev cut_at : ℕ → Option Span
  cut_at i = span_after after i (greatest (ends true s e i))

  no_cut_by : (i : ℕ) → (MayCut s e after i → ⊥) → (o : Option ℕ) → greatest (ends true s e i) ≡ o → span_after after i o ≡ None
  no_cut_by i n None is = refl
  no_cut_by i n (Some j) is =
      let long = longest_is true s e i j is in
      let up = (ends_reach true s e i j long.0).0 in
      elim (cases_Bool (nat_eq i j && ended_at after i)) [
        | inl is_so ↦ ap (λ b. if b then None else Some (span_of (i, j))) is_so
        | inr not_so ↦ absurd (n (
          j,
          long.0,
          (elim (cases_lt i j) [
            | inl lt ↦ inl lt
            | inr ge ↦ (let same : i ≡ j = omega (arith, up, ge) in inr (same, λ q. refuted (nat_eq i j) (ended_at after i) not_so (eq-eqb i j same) (is_ended after i q)))
          ]),
        ))
      ]

  no_cut : (i : ℕ) → (MayCut s e after i → ⊥) → cut_at i ≡ None
  no_cut i n = no_cut_by i n (greatest (ends true s e i)) refl

  a_cut : (i j : ℕ) → Ends true s e i j → ((k : ℕ) → Ends true s e i k → k ≤ j) → MayCut s e after i → cut_at i ≡ Some (span_of (i, j))
  a_cut i j h up may =
      ap (span_after after i) (is_longest true s e i j h up)
      ∙ ap (λ b. if b then None else Some (span_of (i, j))) (allowed (nat_eq i j) (ended_at after i) (λ same ended.
      let e : i ≡ j = eqb-true i j same in
      elim may.2 [ inl lt ↦ absurd (omega (arith, up may.0 may.1)) | inr both ↦ both.1 (ended_is after i ended) ]))

  pub cut_none : (p : ℕ) → IsCut s e p after None → next_cut s e p after ≡ None
  unfolding next_cut
  cut_none p h = none_spans cut_at p (places_from p s) (λ k from lt. no_cut k (h k from (omega arith)))

  pub cut_some : (p i j : ℕ) → IsCut s e p after (Some (i, j)) → next_cut s e p after ≡ Some (span_of (i, j))
  unfolding next_cut
  cut_some p i j h = some_spans cut_at p (places_from p s) (span_of (i, j)) (record {
    place = i;
    low = h.0;
    high = omega (arith, h.0, h.1);
    here = a_cut i j h.4 h.5 h.2;
    before = λ k from lt. no_cut k (h.3 k from lt);
  })

abbrev pub same_or_none : Bool → Span → Option Span
same_or_none b m = if b then None else Some m

pub after_some : (b : Bool) (x m : Span) → same_or_none b x ≡ Some m → (b ≡ false) × (x ≡ m)
after_some true x m h = cc
after_some false x m h = (refl, cc)

pub span_some : (after : Option ℕ) (i : ℕ) (o : Option ℕ) (m : Span) → span_after after i o ≡ Some m → (o ≡ Some m.end) × (m.start ≡ i)
span_some after i None m h = cc
span_some after i (Some j) m h = let r = after_some (nat_eq i j && ended_at after i) (span_of (i, j)) m h in (ap (λ x. Some x.end) r.1, sym (ap (λ x. x.start) r.1))

-- a match that is cut stands within the text, from p on
pub cut_within : (s : List ℕ) (e : Tree) (p : ℕ) (after : Option ℕ) (m : Span) → next_cut s e p after ≡ Some m → IsWithin p s m
unfolding next_cut
cut_within s e p after m h =
    let r = spans_some (λ i. span_after after i (greatest (ends true s e i))) p (places_from p s) m h in
    let here = span_some after r.place (greatest (ends true s e r.place)) m r.here in
    let long = (longest_is true s e r.place m.end here.0).0 in
    let reach = ends_reach true s e r.place m.end long in
    (omega (arith, here.1, r.low), omega (arith, here.1, reach.0), omega (arith, r.low, r.high, reach.1))

-- the cuts after this one
abbrev pub further : List ℕ → Tree → ℕ → Option Span → List Span
further s e more o = elim o as (λ _. List Span) [
  | None ↦ []
  | Some m ↦ m ∷ (if nat_lt m.start m.end then cuts_from s e more m.end (Some m.end) else cuts_from s e more (m.start + 1) None)
]

cuts_by : (s : List ℕ) (e : Tree) {p : ℕ} {after : Option ℕ} {ms : List (ℕ × ℕ)} → Cuts s e p after ms → (more : ℕ) → length s + 1 ≤ p + more → cuts_from s e more p after ≡ map span_of ms
cuts_by s e (no_more c) zero le = refl
cuts_by s e (no_more {p = p} {after = after} c) (suc more) le = ap (further s e more) (cut_none s e after p c)
cuts_by s e (nonempty c lt rest) zero le = absurd (omega (arith, c.0, c.1))
cuts_by s e (nonempty {p = p} {i = i} {j = j} {after = after} c lt rest) (suc more) le =
    ap (further s e more) (cut_some s e after p i j c)
    ∙ ap (λ b. span_of (i, j) ∷ (if b then cuts_from s e more j (Some j) else cuts_from s e more (i + 1) None)) (lt-ltb i j lt)
    ∙ ap (λ l. span_of (i, j) ∷ l) (cuts_by s e rest more (omega (arith, c.0)))
cuts_by s e (empty c rest) zero le = absurd (omega (arith, c.0, c.1))
cuts_by s e (empty {p = p} {i = i} {after = after} c rest) (suc more) le =
    ap (further s e more) (cut_some s e after p i i c)
    ∙ ap (λ b. span_of (i, i) ∷ (if b then cuts_from s e more i (Some i) else cuts_from s e more (i + 1) None)) (le-ltb i i (omega arith))
    ∙ ap (λ l. span_of (i, i) ∷ l) (cuts_by s e rest more (omega (arith, c.0)))

-- the matches of the relation are those that are computed
pub cuts_of : (s : List ℕ) (e : Tree) (ms : List (ℕ × ℕ)) → AreCuts s e ms → cuts s e ≡ map span_of ms
unfolding cuts_on
cuts_of s e ms h = cuts_by s e h (places_from 0 s) (omega arith)

-- beyond the end of the text there is none
pub no_places : (s : List ℕ) (e : Tree) (p : ℕ) (after : Option ℕ) → length s < p → next_cut s e p after ≡ None
unfolding next_cut
no_places s e p after lt = none_spans (λ i. span_after after i (greatest (ends true s e i))) p (places_from p s) (λ k from below. absurd (omega arith))

pub after_long : (s : List ℕ) (e : Tree) (more : ℕ) (m : Span) → m.start < m.end → further s e more (Some m) ≡ m ∷ cuts_from s e more m.end (Some m.end)
after_long s e more m lt = ap (λ b. m ∷ (if b then cuts_from s e more m.end (Some m.end) else cuts_from s e more (m.start + 1) None)) (lt-ltb m.start m.end lt)

pub after_empty : (s : List ℕ) (e : Tree) (more : ℕ) (m : Span) → m.end ≤ m.start → further s e more (Some m) ≡ m ∷ cuts_from s e more (m.start + 1) None
after_empty s e more m le = ap (λ b. m ∷ (if b then cuts_from s e more m.end (Some m.end) else cuts_from s e more (m.start + 1) None)) (le-ltb m.start m.end le)

-- any number of places that is enough gives the same
cuts_enough : (s : List ℕ) (e : Tree) (more less p : ℕ) (after : Option ℕ) → length s + 1 ≤ p + more → length s + 1 ≤ p + less → cuts_from s e more p after ≡ cuts_from s e less p after
cuts_enough s e zero zero p after a b = refl
cuts_enough s e zero (suc less) p after a b = sym (ap (further s e less) (no_places s e p after (omega arith)))
cuts_enough s e (suc more) zero p after a b = ap (further s e more) (no_places s e p after (omega arith))
cuts_enough s e (suc more) (suc less) p after a b = elim (cases_span (next_cut s e p after)) [
  | inl none ↦ ap (further s e more) none ∙ sym (ap (further s e less) none)
  | inr some ↦
      let m = some.0 in
      let w = cut_within s e p after m some.1 in
      ap (further s e more) some.1
      ∙ elim (cases_lt m.start m.end) as (λ _. further s e more (Some m) ≡ further s e less (Some m)) [
        | inl lt ↦ after_long s e more m lt ∙ ap (λ l. m ∷ l) (cuts_enough s e more less m.end (Some m.end) (omega (arith, w.0)) (omega (arith, w.0))) ∙ sym (after_long s e less m lt)
        | inr ge ↦ after_empty s e more m ge ∙ ap (λ l. m ∷ l) (cuts_enough s e more less (m.start + 1) None (omega (arith, w.0)) (omega (arith, w.0))) ∙ sym (after_empty s e less m ge)
      ]
      ∙ sym (ap (further s e less) some.1)
]

module _ (s : List ℕ) (e : Tree) (p : ℕ) (after : Option ℕ) where
  one_more : cuts_on s e p after ≡ further s e (places_from p s) (next_cut s e p after)
  unfolding cuts_on
  one_more = cuts_enough s e (places_from p s) (suc (places_from p s)) p after (omega arith) (omega arith)

  -- no match is left
  pub cuts_none : next_cut s e p after ≡ None → cuts_on s e p after ≡ []
  cuts_none h = one_more ∙ ap (further s e (places_from p s)) h

  -- after a match that is not empty it goes on at its end
  pub cuts_long : (m : Span) → next_cut s e p after ≡ Some m → m.start < m.end → cuts_on s e p after ≡ m ∷ cuts_on s e m.end (Some m.end)
  unfolding cuts_on
  cuts_long m h lt =
      let w = cut_within s e p after m h in
      one_more ∙ ap (further s e (places_from p s)) h ∙ after_long s e (places_from p s) m lt
      ∙ ap (λ l. m ∷ l) (cuts_enough s e (places_from p s) (places_from m.end s) m.end (Some m.end) (omega (arith, w.0, w.1)) (omega arith))

  -- after an empty one a place further
  pub cuts_empty : (m : Span) → next_cut s e p after ≡ Some m → m.end ≤ m.start → cuts_on s e p after ≡ m ∷ cuts_on s e (m.start + 1) None
  unfolding cuts_on
  cuts_empty m h le =
      let w = cut_within s e p after m h in
      one_more ∙ ap (further s e (places_from p s)) h ∙ after_empty s e (places_from p s) m le
      ∙ ap (λ l. m ∷ l) (cuts_enough s e (places_from p s) (places_from (m.start + 1) s) (m.start + 1) None (omega (arith, w.0)) (omega arith))
