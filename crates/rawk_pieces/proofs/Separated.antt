-- What stands between separators.
use Rattle.std.proofs.Common.{◌≡◌, ◌≤◌, ◌<◌, ◌+◌, ◌-◌, ℕ, suc, Bool, true, cond, ◌⊎◌, inl, inr, List, [], ◌∷◌, ◌++◌, length, slice_range, Option, None, Some, arith, sym, ◌∙◌, ap, append_assoc}
use Rattle.std.proofs.lemmas.Bool.{cases_Bool, ne_eqb}
use Rattle.std.proofs.lemmas.List.{map_push, length_push}
use Rattle.rawk_value.specs.Values.{Bytes}
use Rattle.rawk_ere_tree.specs.Tree.{Tree}
use Rattle.rawk_search.specs.declared.span.Span.{Span}
use Rattle.rawk_search.specs.Matches.{first_nonempty}
use Rattle.rawk_search.specs.Laws.{IsSpan, nonempty_within}
use Rattle.rawk_pieces.specs.Fields.{comes_first, nearer, newline_from, next_separator, between, ere_parts}
use Rattle.rawk_pieces.specs.Laws.{AllInRange-push}
use Rattle.rawk_pieces.specs.Pieces.{texts, AllInRange}
use Rattle.rawk_pieces.specs.Separators.{IsAhead, IsParted}
use Rattle.rawk_pieces.specs.declared.pieces.Piece.{Piece}
use Rattle.rawk_pieces.specs.declared.matches.Ahead.{Ahead}
use Rattle.rawk_pieces.proofs.Newlines.{line_within}

nearer_one : (a b : Option Span) (m : Span) → nearer a b ≡ Some m → (a ≡ Some m) ⊎ (b ≡ Some m)
nearer_one None b m h = inr h
nearer_one (Some x) None m h = inl h
nearer_one (Some x) (Some y) m h =
    elim (cases_Bool (comes_first x y)) [
      | inl t ↦ inr (sym (ap (λ c. cond c (Some y) (Some x)) t) ∙ h)
      | inr f ↦ inl (sym (ap (λ c. cond c (Some y) (Some x)) f) ∙ h)
    ]

pub separator_within : (e : Tree) (newline : Bool) (s : Bytes) (p : ℕ) (m : Span) → next_separator e newline s p ≡ Some m → IsSpan p s m
separator_within e newline s p m h =
    elim (nearer_one (first_nonempty true s e p) (newline_from newline s p) m h) [
      | inl found ↦ nonempty_within true s e p m found
      | inr line ↦ line_within newline s p m line
    ]

-- what comes next by a pair is the next separator
pub ahead_is : (e : Tree) (newline : Bool) (s : Bytes) (a : Ahead) (o : Option Span) → IsAhead e newline s a → nearer a.found a.line ≡ o → next_separator e newline s a.from ≡ o
ahead_is e newline s a o h is = sym (ap (λ (x : Option Span). nearer x a.line) h.found ∙ ap (nearer (first_nonempty true s e a.from)) h.line) ∙ is

between-some : (next : ℕ → Option Span) (s : Bytes) (n p : ℕ) (cut : Span) → next p ≡ Some cut → between next s (suc n) p ≡ slice_range s p cut.start ∷ between next s n cut.end
between-some next s n p cut h =
    ap (λ (o : Option Span). elim o as (λ _. List Bytes) [ None ↦ slice_range s p (length s) ∷ [] | Some c ↦ slice_range s p c.start ∷ between next s n c.end ]) h

between-none : (next : ℕ → Option Span) (s : Bytes) (n p : ℕ) → next p ≡ None → between next s (suc n) p ≡ slice_range s p (length s) ∷ []
between-none next s n p h =
    ap (λ (o : Option Span). elim o as (λ _. List Bytes) [ None ↦ slice_range s p (length s) ∷ [] | Some c ↦ slice_range s p c.start ∷ between next s n c.end ]) h

texts-push : (s : Bytes) (old new : List Piece) (start end : ℕ) → new ≡ old ++ record { start = start; end = end } ∷ [] → texts s new ≡ texts s old ++ slice_range s start end ∷ []
texts-push s old new start end e = ap (texts s) e ∙ map_push (λ (q : Piece). slice_range s q.start q.end) old (record { start = start; end = end })

count-push : (old new : List Piece) (p : Piece) → new ≡ old ++ p ∷ [] → length new ≡ length old + 1
count-push old new p e = ap length e ∙ length_push old p

-- a separator
pub parted-step : (e : Tree) (newline : Bool) (s : Bytes) (old new : List Piece) (from : ℕ) (cut : Span) → IsParted e newline s old from → next_separator e newline s from ≡ Some cut → new ≡ old ++ record { start = from; end = cut.start } ∷ [] → IsParted e newline s new cut.end
parted-step e newline s old new from cut w is push =
    let next = next_separator e newline s in
    let span = separator_within e newline s from cut is in
    let n : length new ≡ length old + 1 = count-push old new (record { start = from; end = cut.start }) push in
    let few = w.few in
    let in_text : from < length s = omega (arith, span.0, span.1, span.2) in
    let turns : length s + 1 - length old ≡ suc (length s + 1 - length new) = omega arith in
    let here : between next s (length s + 1 - length old) from ≡ slice_range s from cut.start ∷ between next s (length s + 1 - length new) cut.end = ap (λ k. between next s k from) turns ∙ between-some next s (length s + 1 - length new) from cut is in
    record {
      so_far =
          ap (λ (x : List Bytes). x ++ between next s (length s + 1 - length new) cut.end) (texts-push s old new from cut.start push)
          ∙ (append_assoc (texts s old) (slice_range s from cut.start ∷ []) (between next s (length s + 1 - length new) cut.end)
          ∙ (ap (λ (x : List Bytes). texts s old ++ x) (sym here) ∙ w.so_far));
      few = omega (arith, span.0, span.1);
      in_range = AllInRange-push s old new from cut.start push w.in_range span.0 (omega (arith, span.1, span.2));
    }

-- the end of the text
pub parted-last : (e : Tree) (newline : Bool) (s : Bytes) (old new : List Piece) (from : ℕ) → IsParted e newline s old from → next_separator e newline s from ≡ None → 0 < length s → from ≤ length s → new ≡ old ++ record { start = from; end = length s } ∷ [] →
    (texts s new ≡ ere_parts e newline s) × AllInRange s new
parted-last e newline s old new from w is some inside push =
    let next = next_separator e newline s in
    let few = w.few in
    let turns : length s + 1 - length old ≡ suc (length s - length old) = omega arith in
    let here : between next s (length s + 1 - length old) from ≡ slice_range s from (length s) ∷ [] = ap (λ k. between next s k from) turns ∙ between-none next s (length s - length old) from is in
    let whole : ere_parts e newline s ≡ between next s (length s + 1) 0 = ap (λ b. cond b [] (between next s (length s + 1) 0)) (ne_eqb (length s) 0 (omega arith)) in (
      texts-push s old new from (length s) push ∙ (ap (λ (x : List Bytes). texts s old ++ x) (sym here) ∙ (w.so_far ∙ sym whole)),
      AllInRange-push s old new from (length s) push w.in_range inside (omega arith),
    )
