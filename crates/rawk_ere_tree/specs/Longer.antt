-- What is found in a text that may go on, in every longer one.
use Rattle.std.proofs.Common.{◌≡◌, ℕ, zero, suc, ◌<◌, ◌≤◌, ◌⊎◌, inl, inr, max, Bool, false, true≢false, Some, List, ◌++◌, length, refl, sym, ap, ◌∙◌, arith, length-append}
use Rattle.std.specs.Prelude.{slice_get}
use Rattle.std.proofs.Math.ListN.{get_or-append}
use Rattle.std.proofs.lemmas.Bool.{cases_lt}
use Rattle.std.proofs.lemmas.Option.{slice_get_within, slice_get-get_or, get_or_from_slice_get}
use Rattle.rawk_ere_tree.specs.declared.node.Count.{Count}
use Rattle.rawk_ere_tree.specs.declared.node.Count.TheVariants.{Star, Plus, Maybe, AtLeast, Between}
use Rattle.rawk_ere_tree.specs.Tree.{Tree, Empty, OneOf, Start, End, Join, Either, Group, Repeat}
use Rattle.rawk_ere_tree.specs.Ends.{Allows, Times, Ends}
use Rattle.rawk_ere_tree.specs.Open.{AllowsMore, Needs}

-- a match leads forward, and not beyond the end of the text
pub times_reach : (R : ℕ → ℕ → Type 0) (end : ℕ) → ((i j : ℕ) → R i j → (i ≤ j) × (j ≤ max i end)) → (k i j : ℕ) → Times R k i j → (i ≤ j) × (j ≤ max i end)
times_reach R end up zero i j t = (omega (arith, t), omega (arith, t))
times_reach R end up (suc k) i j t =
    let a = up i t.0 t.1 in
    let b = times_reach R end up k t.0 j t.2 in
    (omega (arith, a.0, b.0), omega (arith, a.1, b.1))

pub ends_reach : (closed : Bool) (s : List ℕ) (e : Tree) (i j : ℕ) → Ends closed s e i j → (i ≤ j) × (j ≤ max i (length s))
ends_reach closed s Empty i j h = (omega (arith, h), omega (arith, h))
ends_reach closed s (OneOf set) i j h = let lt = slice_get_within s i h.0 h.1 in (omega (arith, h.3), omega (arith, h.3, lt))
ends_reach closed s Start i j h = (omega (arith, h.1), omega (arith, h.1))
ends_reach closed s End i j h = (omega (arith, h.1), omega (arith, h.1))
ends_reach closed s (Join a b) i j h =
    let x = ends_reach closed s a i h.0 h.1 in
    let y = ends_reach closed s b h.0 j h.2 in
    (omega (arith, x.0, y.0), omega (arith, x.1, y.1))
ends_reach closed s (Either a b) i j (inl h) = ends_reach closed s a i j h
ends_reach closed s (Either a b) i j (inr h) = ends_reach closed s b i j h
ends_reach closed s (Group a) i j h = ends_reach closed s a i j h
ends_reach closed s (Repeat a count) i j h = times_reach (Ends closed s a) (length s) (ends_reach closed s a) h.0 i j h.2

ends_within : (closed : Bool) (s : List ℕ) (e : Tree) (i j : ℕ) → i ≤ length s → Ends closed s e i j → j ≤ length s
ends_within closed s e i j le h = omega (arith, (ends_reach closed s e i j h).1)

allows_more : (count : Count) (k m : ℕ) → k < m → Allows count m → AllowsMore count k
allows_more Star k m lt a = tt
allows_more Plus k m lt a = tt
allows_more Maybe k m lt a = omega arith
allows_more (AtLeast n) k m lt a = tt
allows_more (Between n more) k m lt a = omega (arith, a.1)

still_more : (count : Count) (k m : ℕ) → k < m → AllowsMore count m → AllowsMore count k
still_more Star k m lt a = tt
still_more Plus k m lt a = tt
still_more Maybe k m lt a = omega arith
still_more (AtLeast n) k m lt a = tt
still_more (Between n more) k m lt a = omega arith

-- a byte of the text is one of the longer text
byte_kept : (s more : List ℕ) (i b : ℕ) → slice_get s i ≡ Some b → slice_get (s ++ more) i ≡ Some b
byte_kept s more i b h =
    let lt = slice_get_within s i b h in
    let long : i < length (s ++ more) = omega (arith, length-append s more, lt) in
    slice_get-get_or (s ++ more) i 0 long ∙ ap Some (get_or-append s more 0 i lt ∙ get_or_from_slice_get s i b 0 h)

byte_before : (s more : List ℕ) (i b : ℕ) → i < length s → slice_get (s ++ more) i ≡ Some b → slice_get s i ≡ Some b
byte_before s more i b lt h =
    slice_get-get_or s i 0 lt ∙ ap Some (sym (get_or-append s more 0 i lt) ∙ get_or_from_slice_get (s ++ more) i b 0 h)

times_kept : (R Q : ℕ → ℕ → Type 0) → ((i j : ℕ) → R i j → Q i j) → (k i j : ℕ) → Times R k i j → Times Q k i j
times_kept R Q f zero i j t = t
times_kept R Q f (suc k) i j t = (t.0, f i t.0 t.1, times_kept R Q f k t.0 j t.2)

-- a match of a text that may go on is one of each longer text
pub ends_kept : (s more : List ℕ) (closed : Bool) (e : Tree) (i j : ℕ) → Ends false s e i j → Ends closed (s ++ more) e i j
ends_kept s more closed Empty i j h = h
ends_kept s more closed (OneOf set) i j h = (h.0, byte_kept s more i h.0 h.1, h.2, h.3)
ends_kept s more closed Start i j h = h
ends_kept s more closed End i j h = absurd (true≢false (sym h.0.0))
ends_kept s more closed (Join a b) i j h = (h.0, ends_kept s more closed a i h.0 h.1, ends_kept s more closed b h.0 j h.2)
ends_kept s more closed (Either a b) i j (inl h) = inl (ends_kept s more closed a i j h)
ends_kept s more closed (Either a b) i j (inr h) = inr (ends_kept s more closed b i j h)
ends_kept s more closed (Group a) i j h = ends_kept s more closed a i j h
ends_kept s more closed (Repeat a count) i j h = (h.0, h.1, times_kept (Ends false s a) (Ends closed (s ++ more) a) (ends_kept s more closed a) h.0 i j h.2)

-- k are matches of the text that may go on, or one of them wants to know what follows
abbrev TimesOr : (ℕ → ℕ → Type 0) → (ℕ → Type 0) → ℕ → ℕ → ℕ → Type 0
TimesOr R N k i j = Times R k i j ⊎ ((m : ℕ) × (middle : ℕ) × (m < k) × Times R m i middle × N middle)

times_open : (end : ℕ) (R Q : ℕ → ℕ → Type 0) (N : ℕ → Type 0) → ((i j : ℕ) → i ≤ end → Q i j → j ≤ end) → ((i j : ℕ) → i ≤ end → R i j → Q i j ⊎ N i)
    → (k i j : ℕ) → i ≤ end → Times R k i j → TimesOr Q N k i j
times_open end R Q N w f zero i j le t = inl t
times_open end R Q N w f (suc k) i j le t = elim (f i t.0 le t.1) [
  | inl q ↦ elim (times_open end R Q N w f k t.0 j (w i t.0 le q) t.2) [
    | inl rest ↦ inl (t.0, q, rest)
    | inr x ↦ inr (suc x.0, x.1, omega (arith, x.2), (t.0, q, x.3), x.4)
  ]
  | inr n ↦ inr (0, i, omega arith, refl, n)
]

times_within : (end : ℕ) (R : ℕ → ℕ → Type 0) → ((i j : ℕ) → i ≤ end → R i j → j ≤ end) → (k i j : ℕ) → i ≤ end → Times R k i j → j ≤ end
times_within end R w zero i j le t = omega (arith, t)
times_within end R w (suc k) i j le t = times_within end R w k t.0 j (w i t.0 le t.1) t.2

-- a match of a longer text is one of the text that may go on, or wants to know what follows
pub ends_open : (s more : List ℕ) (closed : Bool) (e : Tree) (i j : ℕ) → i ≤ length s → Ends closed (s ++ more) e i j → Ends false s e i j ⊎ Needs s e i
ends_open s more closed Empty i j le h = inl h
ends_open s more closed (OneOf set) i j le h = elim (cases_lt i (length s)) [
  | inl lt ↦ inl (h.0, byte_before s more i h.0 lt h.1, h.2, h.3)
  | inr ge ↦ inr (omega arith)
]
ends_open s more closed Start i j le h = inl h
ends_open s more closed End i j le h = inr (omega (arith, h.0.1, length-append s more))
ends_open s more closed (Join a b) i j le h = elim (ends_open s more closed a i h.0 le h.1) [
  | inr n ↦ inr (inl n)
  | inl x ↦ elim (ends_open s more closed b h.0 j (ends_within false s a i h.0 le x) h.2) [
    | inl y ↦ inl (h.0, x, y)
    | inr n ↦ inr (inr (h.0, x, n))
  ]
]
ends_open s more closed (Either a b) i j le (inl h) = elim (ends_open s more closed a i j le h) [ inl x ↦ inl (inl x) | inr n ↦ inr (inl n) ]
ends_open s more closed (Either a b) i j le (inr h) = elim (ends_open s more closed b i j le h) [ inl x ↦ inl (inr x) | inr n ↦ inr (inr n) ]
ends_open s more closed (Group a) i j le h = ends_open s more closed a i j le h
ends_open s more closed (Repeat a count) i j le h =
    elim (times_open (length s) (Ends closed (s ++ more) a) (Ends false s a) (Needs s a) (ends_within false s a) (ends_open s more closed a) h.0 i j le h.2) [
      | inl t ↦ inl (h.0, h.1, t)
      | inr x ↦ inr (x.0, x.1, allows_more count x.0 h.0 x.2 h.1, x.3, x.4)
    ]

-- where a longer text needs to know what follows, so does the text
pub needs_before : (s more : List ℕ) (e : Tree) (i : ℕ) → i ≤ length s → Needs (s ++ more) e i → Needs s e i
needs_before s more Empty i le h = h
needs_before s more (OneOf set) i le h = omega (arith, h, length-append s more)
needs_before s more Start i le h = h
needs_before s more End i le h = omega (arith, h, length-append s more)
needs_before s more (Join a b) i le (inl h) = inl (needs_before s more a i le h)
needs_before s more (Join a b) i le (inr h) = elim (ends_open s more false a i h.0 le h.1) [
  | inl x ↦ inr (h.0, x, needs_before s more b h.0 (ends_within false s a i h.0 le x) h.2)
  | inr n ↦ inl n
]
needs_before s more (Either a b) i le (inl h) = inl (needs_before s more a i le h)
needs_before s more (Either a b) i le (inr h) = inr (needs_before s more b i le h)
needs_before s more (Group a) i le h = needs_before s more a i le h
needs_before s more (Repeat a count) i le h =
    elim (times_open (length s) (Ends false (s ++ more) a) (Ends false s a) (Needs s a) (ends_within false s a) (ends_open s more false a) h.0 i h.1 le h.3) [
      | inl t ↦ (h.0, h.1, h.2, t, needs_before s more a h.1 (times_within (length s) (Ends false s a) (ends_within false s a) h.0 i h.1 le t) h.4)
      | inr x ↦ (x.0, x.1, still_more count x.0 h.0 x.2 h.2, x.3, x.4)
    ]
