-- Newlines that come next.
use Rattle.std.proofs.Common.{◌≡◌, ◌≤◌, ◌<◌, ◌+◌, ◌-◌, ℕ, Bool, true, false, cond, eqb, inl, inr, List, length, drop, get_or, None, Some, arith, subst, sym, ◌∙◌, ap, refl}
use Rattle.std.specs.List.{position_or_len}
use Rattle.std.proofs.lemmas.List.{length-drop, get_or-drop}
use Rattle.std.proofs.lemmas.List.Sums.{position_or_len_is, fails_before_first, passes_at_first}
use Rattle.std.proofs.lemmas.Bool.{cases_Bool, cases_lt, lt-ltb, le-ltb}
use Rattle.memchr.specs.Find.{Nowhere, NoneBefore, Passes, is_byte}
use Rattle.rawk_search.specs.declared.span.Span.{Span}
use Rattle.rawk_search.specs.Laws.{IsSpan}
use Rattle.rawk_pieces.specs.Fields.{one_byte, next_newline, newline_from}

abbrev is_newline : ℕ → Bool
is_newline b = eqb b 10

-- the first newline from a place on
record IsNewline (s : List ℕ) (p : ℕ) (m : Span) : Type 0 where
  low : p ≤ m.start
  inside : m.start < length s
  one : m.end ≡ m.start + 1
  before : (k : ℕ) → p ≤ k → k < m.start → is_newline (get_or s k 0) ≡ false
  here : is_newline (get_or s m.start 0) ≡ true

one_byte-inside : (s : List ℕ) (i : ℕ) → i < length s → one_byte s i ≡ Some (record { start = i; end = i + 1 })
one_byte-inside s i l = let m : Span = record { start = i; end = i + 1 } in ap (λ b. cond b (Some m) None) (lt-ltb i (length s) l)

one_byte-past : (s : List ℕ) (i : ℕ) → length s ≤ i → one_byte s i ≡ None
one_byte-past s i l = let m : Span = record { start = i; end = i + 1 } in ap (λ b. cond b (Some m) None) (le-ltb i (length s) l)

first_is : (s : List ℕ) (p i : ℕ) → p ≤ i → i < length s → ((k : ℕ) → p ≤ k → k < i → is_newline (get_or s k 0) ≡ false) → is_newline (get_or s i 0) ≡ true → next_newline s p ≡ Some (record { start = i; end = i + 1 })
first_is s p i low inside before here =
    let j : p + (i - p) ≡ i = omega arith in
    let n : position_or_len is_newline (drop p s) ≡ i - p =
    position_or_len_is is_newline (drop p s) (i - p) 0 (omega (arith, length-drop p s)) (λ k l. rw get_or-drop (before (p + k) (omega arith) (omega arith))) (λ l. rw (get_or-drop, j) here) in
    ap (λ k. one_byte s (p + k)) n ∙ (ap (one_byte s) j ∙ one_byte-inside s i inside)

none_is : (s : List ℕ) (p : ℕ) → ((k : ℕ) → p ≤ k → k < length s → is_newline (get_or s k 0) ≡ false) → next_newline s p ≡ None
none_is s p none =
    let n = position_or_len is_newline (drop p s) in
    elim (cases_lt (p + n) (length s)) [
      | inl l ↦
          let here : is_newline (get_or s (p + n) 0) ≡ true = rw get_or-drop at (passes_at_first is_newline (drop p s) 0 (omega (arith, length-drop p s))) in
          absurd (cc (none (p + n) (omega arith) l, here))
      | inr g ↦ one_byte-past s (p + n) g
    ]

newline_is : (s : List ℕ) (p : ℕ) (m : Span) → next_newline s p ≡ Some m → IsNewline s p m
newline_is s p m h =
    let n = position_or_len is_newline (drop p s) in
    elim (cases_lt (p + n) (length s)) [
      | inl l ↦
          let first : Span = record { start = p + n; end = p + n + 1 } in
          let is : first ≡ m = cc (one_byte-inside s (p + n) l, h) in
          let short : n < length (drop p s) = omega (arith, length-drop p s) in
          let found : IsNewline s p first = record {
            low = omega arith;
            inside = l;
            one = refl;
            before = λ k a b. let j : p + (k - p) ≡ k = omega arith in rw (get_or-drop, j) at (fails_before_first is_newline (drop p s) (k - p) 0 (omega arith));
            here = rw get_or-drop at (passes_at_first is_newline (drop p s) 0 short);
          } in
          subst (IsNewline s p) is found
      | inr g ↦ absurd (cc (one_byte-past s (p + n) g, h))
    ]

newline_none : (s : List ℕ) (p : ℕ) → next_newline s p ≡ None → (k : ℕ) → p ≤ k → k < length s → is_newline (get_or s k 0) ≡ false
newline_none s p h k low high =
    let n = position_or_len is_newline (drop p s) in
    elim (cases_lt (p + n) (length s)) [
      | inl l ↦ absurd (cc (one_byte-inside s (p + n) l, h))
      | inr g ↦ let j : p + (k - p) ≡ k = omega arith in rw (get_or-drop, j) at (fails_before_first is_newline (drop p s) (k - p) 0 (omega arith))
    ]

pub line_within : (newline : Bool) (s : List ℕ) (p : ℕ) (m : Span) → newline_from newline s p ≡ Some m → IsSpan p s m
line_within true s p m h = let w = newline_is s p m h in (w.low, omega (arith, w.one), omega (arith, w.one, w.inside))
line_within false s p m h = absurd cc

-- a newline stays the next one until it is passed
pub line_later : (newline : Bool) (s : List ℕ) (p q : ℕ) (m : Span) → newline_from newline s p ≡ Some m → p ≤ q → q ≤ m.start → newline_from newline s q ≡ Some m
line_later true s p q m h low high =
    let w = newline_is s p m h in
    let is : record { start = m.start; end = m.start + 1 } ≡ m = λ i. record { start = m.start; end = sym w.one i } in
    first_is s q m.start high w.inside (λ k a b. w.before k (omega arith) b) w.here ∙ ap Some is
line_later false s p q m h low high = absurd cc

pub line_never : (newline : Bool) (s : List ℕ) (p q : ℕ) → newline_from newline s p ≡ None → p ≤ q → newline_from newline s q ≡ None
line_never true s p q h low = none_is s q (λ k a b. newline_none s p h k (omega arith) b)
line_never false s p q h low = refl

-- a newline that is found in the rest of a text
pub line_found : (newline : Bool) (s rest : List ℕ) (p at : ℕ) → newline ≡ true → rest ≡ drop p s → p ≤ length s → (NoneBefore (Passes (is_byte 10) rest) 0 (length rest) at × Passes (is_byte 10) rest at) → Some (record { start = p + at; end = p + at + 1 }) ≡ newline_from newline s p
line_found newline s rest p at on e low h =
    let w = subst (λ (r : List ℕ). NoneBefore (Passes (is_byte 10) r) 0 (length r) at × Passes (is_byte 10) r at) e h in
    let short = w.0.high in
    let not_yet : (k : ℕ) → p ≤ k → k < p + at → is_newline (get_or s k 0) ≡ false = λ k a b.
    elim (cases_Bool (is_newline (get_or s k 0))) [
      | inl t ↦ let j : p + (k - p) ≡ k = omega arith in absurd (w.0.before (k - p) (omega arith) (omega arith) (rw (get_or-drop, j) t))
      | inr f ↦ f
    ] in
    sym (ap (λ b. newline_from b s p) on ∙ first_is s p (p + at) (omega arith) (omega (arith, short, length-drop p s)) not_yet (rw get_or-drop at w.1))

pub line_missing : (newline : Bool) (s rest : List ℕ) (p : ℕ) → newline ≡ true → rest ≡ drop p s → p ≤ length s → Nowhere (Passes (is_byte 10) rest) 0 (length rest) → None ≡ newline_from newline s p
line_missing newline s rest p on e low h =
    let w = subst (λ (r : List ℕ). Nowhere (Passes (is_byte 10) r) 0 (length r)) e h in
    let never : (k : ℕ) → p ≤ k → k < length s → is_newline (get_or s k 0) ≡ false = λ k a b.
    elim (cases_Bool (is_newline (get_or s k 0))) [
      | inl t ↦ let j : p + (k - p) ≡ k = omega arith in absurd (w (k - p) (omega arith) (omega (arith, length-drop p s)) (rw (get_or-drop, j) t))
      | inr f ↦ f
    ] in
    sym (ap (λ b. newline_from b s p) on ∙ none_is s p never)
