-- What a search has found.
use Rattle.std.proofs.Common.{◌≡◌, ℕ, ◌+◌, ◌<◌, ◌≤◌, inl, inr, Bool, true, false, true≢false, List, length, Option, Some, None, refl, ap, sym, ◌∙◌, subst, arith}
use Rattle.std.specs.Prelude.{IsTrue, ◌↔◌}
use Rattle.std.specs.Option.{IfSome, option_map, is_some}
use Rattle.std.proofs.lemmas.Bool.{cases_eq}
use Rattle.rawk_ere_tree.specs.Tree.{Tree}
use Rattle.rawk_ere_tree.specs.Ends.{Ends, IsMatch, HasMatch}
use Rattle.rawk_ere.specs.Search.{AreBetween}
use Rattle.rawk_search.specs.declared.span.Span.{Span}
use Rattle.rawk_search.specs.Matches.{ends, greatest, span_to, places_from, first_match, first_nonempty, open_match}
use Rattle.rawk_search.specs.Expressions.{ere_of}
use Rattle.rawk_search.specs.Patterns.{is_found}
use Rattle.rawk_search.specs.Repeats.{IsAmong}
use Rattle.rawk_search.specs.EndsOf.{ends_in}
use Rattle.rawk_search.specs.Spans.{IsGreatest, greatest_is, spans_none}
use Rattle.rawk_search.specs.Found.{IsWithin, span_of, spans_of, begins_within, is_nonempty, is_none, match_none, match_some}
use Rattle.rawk_search.specs.Laws.{IsSpan, nonempty_from, open_within}

module _ (s : List ℕ) (e : Tree) (at : ℕ) where
  pub found_long : (o : Option (ℕ × ℕ)) (start end : ℕ) → o ≡ Some (start, end) → IsMatch s e at o → start < end → first_nonempty true s e at ≡ Some (span_of (start, end))
  found_long o start end is h lt =
      let m = subst (IsMatch s e at) is h in
      is_nonempty true s e at (start, end) (m.0, lt, m.1, λ i j from up x. m.2 i j from x, m.3)

  pub found_short : (o : Option (ℕ × ℕ)) (start end : ℕ) → o ≡ Some (start, end) → IsMatch s e at o → end ≤ start → first_nonempty true s e at ≡ first_nonempty true s e (start + 1)
  found_short o start end is h le =
      let m = subst (IsMatch s e at) is h in
      nonempty_from true s e at (start + 1) (omega (arith, m.0)) (λ i j from lt x. elim (cases_eq i start) [
        | inl here ↦ absurd (omega (arith, m.3 j (subst (λ z. Ends true s e z j) here x)))
        | inr other ↦ (let ne : i ≡ start → ⊥ = other in omega (arith, ne, m.2 i j from x))
      ])

  pub found_end : (o : Option (ℕ × ℕ)) (start end : ℕ) → o ≡ Some (start, end) → IsMatch s e at o → end ≤ start → start ≡ length s → first_nonempty true s e at ≡ None
  found_end o start end is h le last = found_short o start end is h le ∙ is_none true s e (start + 1) (λ i j from lt x. absurd (omega (arith, begins_within true s e i j lt x)))

  pub found_none : (o : Option (ℕ × ℕ)) → o ≡ None → IsMatch s e at o → first_nonempty true s e at ≡ None
  found_none o is h =
      let n = subst (IsMatch s e at) is h in
      is_none true s e at (λ i j from lt x. n i j from (omega (arith, begins_within true s e i j lt x)) x)

pub match_between : (s : List ℕ) (e : Tree) (p : ℕ) (o : Option (ℕ × ℕ)) → IsMatch s e p o → AreBetween p (length s) o → first_match s e p ≡ spans_of o
match_between s e p None h b = match_none s e p h
match_between s e p (Some m) h b = match_some s e p m (omega (arith, b.1, b.2)) h

pub between_within : (s : List ℕ) (p : ℕ) (o : Option (ℕ × ℕ)) → AreBetween p (length s) o → IfSome (spans_of o) (IsWithin p s)
between_within s p None b = tt
between_within s p (Some m) b = b

pub open_spans : (s : List ℕ) (e : Tree) (p : ℕ) (o : Option Span) → o ≡ open_match s e p → IfSome o (IsSpan p s)
open_spans s e p None is = tt
open_spans s e p (Some m) is = open_within s e p m (sym is)

no_span : (i : ℕ) (js : List ℕ) (o : Option ℕ) → IsGreatest js o → span_to i o ≡ None → (j : ℕ) → IsAmong js j → ⊥
no_span i js None h none j a = h j a
no_span i js (Some g) h none j a = cc

-- where a text has a match, one is the leftmost
pub first_has : (s : List ℕ) (e : Tree) → first_match s e 0 ≡ None → HasMatch s e → ⊥
unfolding first_match
first_has s e none m =
    let at_none = spans_none (λ i. span_to i (greatest (ends true s e i))) 0 (places_from 0 s) none m.0 (omega arith) (omega (arith, m.2)) in
    no_span m.0 (ends true s e m.0) (greatest (ends true s e m.0)) (greatest_is (ends true s e m.0)) at_none m.1 (ends_in true s e m.0 m.1 m.3)

found_tells : (s : List ℕ) (e : Tree) (b : Bool) (o : Option Span) → first_match s e 0 ≡ o → IsTrue b ↔ HasMatch s e → b ≡ is_some o
found_tells s e true None none f = absurd (first_has s e none (f.0 refl))
found_tells s e true (Some m) is f = refl
found_tells s e false None none f = refl
found_tells s e false (Some m) is f = absurd (true≢false (ap is_some (sym is ∙ match_none s e 0 (λ i j le end h. absurd (true≢false (sym (f.1 (i, j, end, h))))))))

pub found_is : (pattern text : List ℕ) (e : Tree) (b : Bool) → Some e ≡ ere_of pattern → IsTrue b ↔ HasMatch text e → Some b ≡ is_found pattern text
found_is pattern text e b is f =
    subst (λ (o : Option Tree). Some b ≡ option_map is_some (option_map (λ x. first_match text x 0) o)) is (ap Some (found_tells text e b (first_match text e 0) refl f))
