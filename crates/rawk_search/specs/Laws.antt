-- Laws of what is found.
use Rattle.std.proofs.Common.{◌≡◌, ℕ, ◌<◌, ◌≤◌, inl, inr, Bool, false, ◌++◌, length, None, Some, sym, ◌∙◌, subst, append_assoc, arith, length-append}
use Rattle.std.proofs.lemmas.Bool.{cases_lt}
use Rattle.rawk_value.specs.Values.{Bytes}
use Rattle.rawk_ere_tree.specs.Tree.{Tree}
use Rattle.rawk_ere_tree.specs.Ends.{Ends}
use Rattle.rawk_ere_tree.specs.Open.{Needs, IsOpenFrom}
use Rattle.rawk_search.specs.declared.span.Span.{Span}
use Rattle.rawk_search.specs.Matches.{first_nonempty, open_match}
use Rattle.rawk_ere_tree.specs.Longer.{ends_kept, ends_open, needs_before}
use Rattle.rawk_search.specs.Found.{cases_span, begins_within, nonempty_is, is_nonempty, none_is, is_none, open_is, is_open}

-- a match that is not empty stands within the text, from p on
abbrev pub IsSpan : ℕ → Bytes → Span → Type 0
IsSpan p s m = (p ≤ m.start) × (m.start < m.end) × (m.end ≤ length s)

pub nonempty_within : (closed : Bool) (s : Bytes) (e : Tree) (p : ℕ) (m : Span) → first_nonempty closed s e p ≡ Some m → IsSpan p s m
nonempty_within closed s e p m is = let h = nonempty_is closed s e p m is in (h.0, h.1, begins_within closed s e m.start m.end h.1 h.2)

pub nonempty_later : (closed : Bool) (s : Bytes) (e : Tree) (p q : ℕ) (m : Span) → first_nonempty closed s e p ≡ Some m → p ≤ q → q ≤ m.start → first_nonempty closed s e q ≡ Some m
nonempty_later closed s e p q m is low high =
    let h = nonempty_is closed s e p m is in
    is_nonempty closed s e q (m.start, m.end) (high, h.1, h.2, λ i j from lt x. h.3 i j (omega arith) lt x, h.4)

pub nonempty_never : (closed : Bool) (s : Bytes) (e : Tree) (p q : ℕ) → first_nonempty closed s e p ≡ None → p ≤ q → first_nonempty closed s e q ≡ None
nonempty_never closed s e p q is low = is_none closed s e q (λ i j from lt x. none_is closed s e p is i j (omega arith) lt x)

pub open_within : (s : Bytes) (e : Tree) (p : ℕ) (m : Span) → open_match s e p ≡ Some m → IsSpan p s m
open_within s e p m is = nonempty_within false s e p m (open_is s e p m is).0

-- a match that is settled stays the answer in every longer text, whether or not that goes on
pub open_closed : (closed : Bool) (s more : Bytes) (e : Tree) (p : ℕ) (m : Span) → open_match s e p ≡ Some m → first_nonempty closed (s ++ more) e p ≡ Some m
open_closed closed s more e p m is =
    let o = open_is s e p m is in
    let h = nonempty_is false s e p m o.0 in
    let within = begins_within false s e m.start m.end h.1 h.2 in
    is_nonempty closed (s ++ more) e p (m.start, m.end) (
      h.0,
      h.1,
      ends_kept s more closed e m.start m.end h.2,
      λ i j from lt x. elim (cases_lt i m.start) [
        | inl before ↦ elim (ends_open s more closed e i j (omega (arith, before, within, h.1)) x) [
          | inl y ↦ h.3 i j from lt y
          | inr n ↦ absurd (o.1 i from (omega (arith, before)) n)
        ]
        | inr ge ↦ ge
      ],
      λ k x. elim (ends_open s more closed e m.start k (omega (arith, within, h.1)) x) [ inl y ↦ h.4 k y | inr n ↦ absurd (o.1 m.start h.0 (omega arith) n) ],
    )

pub open_longer : (s more : Bytes) (e : Tree) (p : ℕ) (m : Span) → open_match s e p ≡ Some m → open_match (s ++ more) e p ≡ Some m
open_longer s more e p m is =
    let o = open_is s e p m is in
    let w = open_within s e p m is in
    is_open (s ++ more) e p m (open_closed false s more e p m is) (λ k from upto n. o.1 k from upto (needs_before s more e k (omega (arith, w.1, w.2)) n))

-- a search from p on may go on from f, in this text and in every longer one
pub record IsSkip (s : Bytes) (e : Tree) (p f : ℕ) : Type 0 where
  pub low : p ≤ f
  pub high : f ≤ length s
  pub settled : (more : Bytes) → open_match (s ++ more) e p ≡ open_match (s ++ more) e f
  pub nonempty : (closed : Bool) (more : Bytes) → first_nonempty closed (s ++ more) e p ≡ first_nonempty closed (s ++ more) e f

pub skip_longer : (s more : Bytes) (e : Tree) (p f : ℕ) → IsSkip s e p f → IsSkip (s ++ more) e p f
skip_longer s more e p f h = record {
  low = h.low;
  high = omega (arith, h.high, length-append s more);
  settled = λ m. subst (λ t. open_match t e p ≡ open_match t e f) (sym (append_assoc s more m)) (h.settled (more ++ m));
  nonempty = λ c m. subst (λ t. first_nonempty c t e p ≡ first_nonempty c t e f) (sym (append_assoc s more m)) (h.nonempty c (more ++ m));
}

pub skip_trans : (s : Bytes) (e : Tree) (p f g : ℕ) → IsSkip s e p f → IsSkip s e f g → IsSkip s e p g
skip_trans s e p f g a b = record {
  low = omega (arith, a.low, b.low);
  high = b.high;
  settled = λ m. a.settled m ∙ b.settled m;
  nonempty = λ c m. a.nonempty c m ∙ b.nonempty c m;
}

-- where no match that is not empty begins from p up to f, the first one from p on is that from f on
pub nonempty_from : (closed : Bool) (s : Bytes) (e : Tree) (p f : ℕ) → p ≤ f → ((i j : ℕ) → p ≤ i → i < j → Ends closed s e i j → f ≤ i) → first_nonempty closed s e p ≡ first_nonempty closed s e f
nonempty_from closed s e p f le n = elim (cases_span (first_nonempty closed s e p)) [
  | inl none ↦ none ∙ sym (nonempty_never closed s e p f none le)
  | inr some ↦ (let h = nonempty_is closed s e p some.0 some.1 in some.1 ∙ sym (nonempty_later closed s e p f some.0 some.1 le (n some.0.start some.0.end h.0 h.1 h.2)))
]

-- the same in a text that may go on, where no place from p up to f needs to know what follows
pub open_from : (s : Bytes) (e : Tree) (p f : ℕ) → p ≤ f → ((i j : ℕ) → p ≤ i → i < j → Ends false s e i j → f ≤ i) → ((k : ℕ) → p ≤ k → k < f → Needs s e k → ⊥) → open_match s e p ≡ open_match s e f
open_from s e p f le n needless =
    let same = nonempty_from false s e p f le n in
    elim (cases_span (open_match s e f)) [
      | inr some ↦
          let o = open_is s e f some.0 some.1 in
          is_open s e p some.0 (same ∙ o.0) (λ k from upto x. elim (cases_lt k f) [ inl before ↦ needless k from before x | inr ge ↦ o.1 k ge upto x ]) ∙ sym some.1
      | inl none ↦ elim (cases_span (open_match s e p)) [
        | inl other ↦ other ∙ sym none
        | inr some ↦ (let o = open_is s e p some.0 some.1 in some.1 ∙ sym (is_open s e f some.0 (sym same ∙ o.0) (λ k from upto x. o.1 k (omega arith) upto x)))
      ]
    ]

-- the first place where a match that is not empty may begin is one to go on from
pub skip_of : (s : Bytes) (e : Tree) (p f : ℕ) → IsOpenFrom s e p f → IsSkip s e p f
skip_of s e p f h = record {
  low = h.within.0;
  high = h.within.1;
  settled = λ more. open_from (s ++ more) e p f h.within.0 (h.settled more false)
      (λ k from lt n. h.before k from lt (inl (needs_before s more e k (omega (arith, lt, h.within.1)) n)));
  nonempty = λ closed more. nonempty_from closed (s ++ more) e p f h.within.0 (h.settled more closed);
}
