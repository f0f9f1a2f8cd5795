-- Searches from one place after the other.
use Rattle.std.proofs.Common.{◌≡◌, ℕ, zero, suc, ◌+◌, ◌-◌, ◌<◌, ◌≤◌, ◌⊎◌, inl, inr, Bool, true, false, Option, Some, None, List, length, refl, sym, ap, ◌∙◌, subst, arith, true≢false}
use Rattle.std.specs.Prelude.{IsTrue, ◌↔◌}
use Rattle.std.specs.Option.{is_some}
use Rattle.std.proofs.lemmas.Bool.{cases_eq, cases_lt}
use Rattle.std.proofs.lemmas.Option.{slice_get_within}
use Rattle.rawk_ere_tree.specs.declared.code.Instruction.{Instruction}
use Rattle.rawk_ere_tree.specs.Code.{Path}
use Rattle.rawk_ere_walks.specs.Sets.{IsFarthest, WantsFrom}
use Rattle.rawk_ere_walks.specs.Ways.{Way, BeginsIn, EndsFrom, MayStart, MayIn, MayBy}
use Rattle.rawk_ere_automaton.specs.Search.{IsBetween, AreBetween, BeginsNone, IsFirstBegin, IsFirst, IsFound, IsFirstOpen, NoneMay, IsAhead, IsOpenStart, IsOpening, IsOpened}
use Rattle.rawk_ere_automaton.specs.declared.progress.Opening.{Opening}
use Rattle.rawk_ere_automaton.specs.declared.progress.Opening.TheVariants.{At, After}
use Rattle.rawk_ere_walks.specs.WalkLemmas.{path_up, path_within}

abbrev is_at : Opening → Bool
is_at (At begin longest asks) = true
is_at (After at) = false

pub at_not_after : (begin : ℕ) (longest : Option ℕ) (asks : Bool) (at : ℕ) → At begin longest asks ≡ After at → ⊥
at_not_after begin longest asks at e = true≢false (ap is_at e)

module _ (code : List Instruction) (s : List ℕ) where
  pub way_between : (closed : Bool) (i : ℕ) (o : Option ℕ) → i ≤ length s → IsFarthest code closed s i o → IsBetween i (length s) o
  way_between closed i None le f = tt
  way_between closed i (Some j) le f = (path_up code closed s f.0.0 0 i (length code) j f.0.1, path_within code closed s f.0.0 0 i (length code) j le f.0.1)

  -- a way that reads a byte begins before the end of the text
  pub reading_path : (closed : Bool) (n q i f j : ℕ) → i < j → Path code closed s n q i f j → i < length s
  reading_path closed zero q i f j lt p = absurd (omega (arith, p.1))
  reading_path closed (suc n) q i f j lt p = elim p.2.2 [
    | inl h ↦ (let lt' : p.1 < j = omega (arith, h.1) in let l = reading_path closed n p.0 p.1 f j lt' p.3 in omega (arith, h.1, l))
    | inr h ↦ slice_get_within s i h.0 h.1
  ]

  pub none_more : (p here : ℕ) (o : Option ℕ) → o ≡ None → BeginsNone code s p here → IsFarthest code true s here o → BeginsNone code s p (here + 1)
  none_more p here o e n f = λ i j le lt w. elim (cases_eq i here) [
    | inl is ↦ (let g = subst (λ x. IsFarthest code true s here x) e f in g j w.0 (subst (λ x. Path code true s w.0 0 x (length code) j) is w.1))
    | inr other ↦ (let o : i ≡ here → ⊥ = other in n i j le (omega (arith, o)) w)
  ]

  pub none_more_way : (p here : ℕ) → ((j : ℕ) → Way code s true here j → ⊥) → BeginsNone code s p here → BeginsNone code s p (here + 1)
  none_more_way p here not n = λ i j le lt w. elim (cases_eq i here) [
    | inl is ↦ not j (w.0, subst (λ x. Path code true s w.0 0 x (length code) j) is w.1)
    | inr other ↦ (let o : i ≡ here → ⊥ = other in n i j le (omega (arith, o)) w)
  ]

  -- a search for whether there is a way: one was found, none begins before the place and the rest was passed over, or none but at the end of the text
  pub found_way : (at : ℕ) → at ≤ length s → (j : ℕ) × Way code s true at j → BeginsIn code s 0 (length s)
  found_way at le h = (at, h.0, omega arith, le, h.1)

  pub found_passed : (at : ℕ) (o : Option ℕ) (b : Bool) → b ≡ is_some o → BeginsNone code s 0 at → EndsFrom code s at (length s) o → IsTrue b ↔ BeginsIn code s 0 (length s)
  found_passed at None b is n f = (
    λ h. absurd (true≢false (sym h ∙ is)),
    λ w. elim (cases_lt w.0 at) as (λ _. IsTrue b) [ inl before ↦ absurd (n w.0 w.1 w.2 before w.4) | inr ge ↦ absurd (f (w.0, w.1, ge, w.3, w.4)) ],
  )
  found_passed at (Some j) b is n f = (λ h. (f.0, j, omega arith, f.2, f.3), λ w. is)

  pub found_last : (at : ℕ) (b : Bool) → at ≡ length s → BeginsNone code s 0 at → IsTrue b ↔ ((j : ℕ) × Way code s true at j) → IsTrue b ↔ BeginsIn code s 0 (length s)
  found_last at b e n f = (
    λ h. found_way at (omega (arith, e)) (f.0 h),
    λ w. elim (cases_lt w.0 at) as (λ _. IsTrue b) [
      | inl before ↦ absurd (n w.0 w.1 w.2 before w.4)
      | inr ge ↦
          let high = w.3 in
          let here : w.0 ≡ at = omega (arith, ge, high, e) in
          f.1 (w.1, subst (λ x. Way code s true x w.1) here w.4)
    ],
  )

  pub first_none : (p here : ℕ) → length s < here → BeginsNone code s p here → IsFirst code s p None
  first_none p here lt n = λ i j le end w. n i j le (omega arith) w

  pub first_here : (p here j : ℕ) (o : Option ℕ) → o ≡ Some j → p ≤ here → BeginsNone code s p here → IsFarthest code true s here o → IsFirst code s p (Some (here, j))
  first_here p here j o e le n f =
      let g = subst (λ x. IsFarthest code true s here x) e f in
      (le, g.0, λ i k from w. elim (cases_lt i here) [ inl lt ↦ absurd (n i k from lt w) | inr ge ↦ ge ], λ k w. g.1 k w.0 w.1)

  -- half of the places are left
  pub half_ends : (low upto end middle : ℕ) (r : Option ℕ) (j : ℕ) → r ≡ Some j → EndsFrom code s low middle r → BeginsIn code s low middle
  half_ends low upto end middle r j e f = let g = subst (EndsFrom code s low middle) e f in (g.0, j, g.1, g.2, g.3)

  pub half_none : (p low high middle : ℕ) (r : Option ℕ) → r ≡ None → EndsFrom code s low middle r → BeginsNone code s p low → BeginsNone code s p (middle + 1)
  half_none p low high middle r e f n = λ i j le lt w. elim (cases_lt i low) [
    | inl before ↦ n i j le before w
    | inr ge ↦ (let g = subst (EndsFrom code s low middle) e f in g (i, j, ge, omega arith, w))
  ]

  pub half_left : (low high middle : ℕ) (r : Option ℕ) → r ≡ None → EndsFrom code s low middle r → BeginsIn code s low high → BeginsIn code s (middle + 1) high
  half_left low high middle r e f b = elim (cases_lt middle b.0) [
    | inl after ↦ (b.0, b.1, omega arith, b.3, b.4)
    | inr upto ↦ (let g = subst (EndsFrom code s low middle) e f in absurd (g (b.0, b.1, b.2, upto, b.4)))
  ]

  pub half_done : (p low high : ℕ) → p ≤ low → high ≤ low → BeginsNone code s p low → BeginsIn code s low high → IsFirstBegin code s p low
  half_done p low high le done n b =
      let is : b.0 ≡ low = (let l = b.2 in let h = b.3 in omega (arith, l, h)) in
      record { low = le; here = (b.1, subst (λ x. Way code s true x b.1) is b.4); before = n }

  -- the longest way from a place before which none begins
  pub found_here : (p here j : ℕ) (o : Option ℕ) → o ≡ Some j → p ≤ here → here ≤ length s → BeginsNone code s p here → IsFarthest code true s here o → IsFound code s p (Some (here, j))
  found_here p here j o e le end n f =
      let g = subst (IsBetween here (length s)) e (way_between true here o end f) in (first_here p here j o e le n f, (le, g.0, g.1))

  -- the longest way from where the first one begins
  pub first_longest : (p b : ℕ) (o : Option ℕ) (r : Option (ℕ × ℕ)) → b ≤ length s → IsFirstBegin code s p b → IsFarthest code true s b o → ((j : ℕ) → o ≡ Some j → r ≡ Some (b, j)) → IsFound code s p r
  first_longest p b None r end is f sp = absurd (f is.here.0 is.here.1.0 is.here.1.1)
  first_longest p b (Some l) r end is f sp = subst (IsFound code s p) (sym (sp l refl)) (found_here p b l (Some l) refl is.low end is.before f)

  -- what is found further on, where none begins before
  pub found_from : (p q : ℕ) (r : Option (ℕ × ℕ)) → p ≤ q → BeginsNone code s p q → IsFound code s q r → IsFound code s p r
  found_from p q None le n f = (λ i j from end w. elim (cases_lt i q) [ inl lt ↦ n i j from lt w | inr ge ↦ f.0 i j ge end w ], tt)
  found_from p q (Some m) le n f = (
    (omega (arith, f.1.0), f.0.1, λ i j from w. elim (cases_lt i q) [ inl lt ↦ absurd (n i j from lt w) | inr ge ↦ f.0.2 i j ge w ], f.0.3),
    (omega (arith, f.1.0), f.1.1, f.1.2),
  )

  pub none_join : (p q r : ℕ) → BeginsNone code s p q → BeginsNone code s q r → BeginsNone code s p r
  none_join p q r a b = λ i j from lt w. elim (cases_lt i q) [ inl before ↦ a i j from before w | inr ge ↦ b i j ge lt w ]

  -- what is known at the end of the text
  pub found_none : (p : ℕ) (o : Option ℕ) → o ≡ None → BeginsNone code s p (length s) → IsFarthest code true s (length s) o → IsFound code s p None
  found_none p o e n f = (first_none p (length s + 1) (omega arith) (none_more p (length s) o e n f), tt)

  -- a way that begins by some place begins after those where none does
  pub begins_left : (p at upto end : ℕ) (r : Option ℕ) → r ≡ Some end → upto ≤ length s → EndsFrom code s p upto r → BeginsNone code s p at → (at ≤ end) × (end ≤ length s) × BeginsIn code s at end
  begins_left p at upto end r e le f n =
      let g = subst (EndsFrom code s p upto) e f in
      let up = path_up code true s g.3.0 0 g.0 (length code) end g.3.1 in
      let down = path_within code true s g.3.0 0 g.0 (length code) end (omega (arith, g.2)) g.3.1 in
      let past : at ≤ g.0 = elim (cases_lt g.0 at) [ inl lt ↦ absurd (n g.0 end g.1 lt g.3) | inr ge ↦ ge ] in
      (omega (arith, past), down, (g.0, end, past, up, g.3))

  -- an end tells of a begin
  pub begins_of : (p upto end : ℕ) (r : Option ℕ) → r ≡ Some end → upto ≤ length s → EndsFrom code s p upto r → (p ≤ end) × (end ≤ length s) × BeginsIn code s p end
  begins_of p upto end r e le f =
      let g = subst (EndsFrom code s p upto) e f in
      let up = path_up code true s g.3.0 0 g.0 (length code) end g.3.1 in
      let down = path_within code true s g.3.0 0 g.0 (length code) end (omega (arith, g.2)) g.3.1 in
      (omega (arith, g.1), down, (g.0, end, g.1, up, g.3))

  pub none_first : (p : ℕ) (r : Option ℕ) → r ≡ None → EndsFrom code s p (length s) r → IsFound code s p None
  none_first p r e f = let g = subst (EndsFrom code s p (length s)) e f in (λ i j le end w. g (i, j, le, end, w), tt)

  pub first_between : (p here j : ℕ) (o : Option ℕ) → o ≡ Some j → p ≤ here → IsBetween here (length s) o → AreBetween p (length s) (Some (here, j))
  first_between p here j o e le b = let g = subst (IsBetween here (length s)) e b in (le, g.0, g.1)

  abbrev longer : ℕ → Option ℕ → Type 0
  longer j None = ⊥
  longer j (Some l) = j ≤ l

  farthest_has : (i j : ℕ) (o : Option ℕ) → IsFarthest code false s i o → Way code s false i j → longer j o
  farthest_has i j None f w = f j w.0 w.1
  farthest_has i j (Some l) f w = f.1 j w.0 w.1

  ahead_of : (i j : ℕ) (o : Option ℕ) → i < j → longer j o → IsAhead i o
  ahead_of i j None lt h = absurd h
  ahead_of i j (Some l) lt h = (l, refl, omega (arith, h))

  pub may_here : (here : ℕ) (o : Option ℕ) (asks : Bool) → IsFarthest code false s here o → IsTrue asks ↔ WantsFrom code false s here → IsTrue asks ⊎ IsAhead here o → MayStart code s here
  may_here here o asks f e (inl a) = inl (e.0 a)
  may_here here o asks f e (inr h) = let g = subst (λ x. IsFarthest code false s here x) h.1 f in inr (h.0, h.2, g.0)

  pub may_more : (p here : ℕ) (o : Option ℕ) (asks : Bool) → NoneMay code s p here → IsFarthest code false s here o → IsTrue asks ↔ WantsFrom code false s here → (IsTrue asks → ⊥) → (IsAhead here o → ⊥) → NoneMay code s p (here + 1)
  may_more p here o asks n f e na nh = λ i le lt m. elim (cases_eq i here) [
    | inl is ↦ (let m' = subst (MayStart code s) is m in elim m' [ inl w ↦ na (e.1 w) | inr w ↦ nh (ahead_of here w.0 o w.1 (farthest_has here w.0 o f w.2)) ])
    | inr other ↦ (let o : i ≡ here → ⊥ = other in n i le (omega (arith, o)) m)
  ]

  -- a way asks
  pub open_asks : (p here : ℕ) (asks : Bool) → p ≤ here → NoneMay code s p here → IsTrue asks ↔ WantsFrom code false s here → IsTrue asks → IsFirstOpen code s p None
  open_asks p here asks le n e a = λ i j from lt w. elim (cases_lt i here) [ inl before ↦ absurd (n i from before (inr (j, lt, w))) | inr ge ↦ (here, le, ge, e.0 a) ]

  -- no way reads a byte
  pub open_none : (p here : ℕ) → length s ≤ here → NoneMay code s p here → IsFirstOpen code s p None
  open_none p here le n = λ i j from lt w.
      let within = reading_path false w.0 0 i (length code) j lt w.1 in
      absurd (n i from (omega (arith, within)) (inr (j, lt, w)))

  pub open_here : (p here : ℕ) (o : Option ℕ) (r : Option (ℕ × ℕ)) (asks : Bool) → p ≤ here → here ≤ length s → NoneMay code s p here → IsFarthest code false s here o → IsTrue asks ↔ WantsFrom code false s here → (IsTrue asks → ⊥) → (h : IsAhead here o)
      → ((j : ℕ) → o ≡ Some j → r ≡ Some (here, j)) → IsFirstOpen code s p r
  open_here p here o r asks le end n f e na h sp =
      let g = subst (λ x. IsFarthest code false s here x) h.1 f in
      subst (IsFirstOpen code s p) (sym (sp h.0 h.1)) (
        le,
        h.2,
        end,
        g.0,
        λ i k from lt w. elim (cases_lt i here) [ inl before ↦ absurd (n i from before (inr (k, lt, w))) | inr ge ↦ ge ],
        λ k w. g.1 k w.0 w.1,
        λ k from upto w. elim (cases_lt k here) [
          | inl before ↦ n k from before (inl w)
          | inr ge ↦ (let is : k ≡ here = omega arith in na (e.1 (subst (λ x. WantsFrom code false s x) is w)))
        ],
      )

  pub open_between : (p here : ℕ) (o : Option ℕ) (r : Option (ℕ × ℕ)) → p ≤ here → IsBetween here (length s) o → (h : IsAhead here o) → ((j : ℕ) → o ≡ Some j → r ≡ Some (here, j)) → AreBetween p (length s) r
  open_between p here o r le b h sp = let g = subst (IsBetween here (length s)) h.1 b in subst (AreBetween p (length s)) (sym (sp h.0 h.1)) (le, g.0, g.1)

  pub start_here : (p here : ℕ) → p ≤ here → here ≤ length s → NoneMay code s p here → MayStart code s here → IsOpenStart code s p here
  start_here p here le end n m = record { within = (le, end); before = n; here = λ _. m }

  pub start_end : (p here : ℕ) → p ≤ here → here ≡ length s → NoneMay code s p here → IsOpenStart code s p (length s)
  start_end p here le e n = record { within = (omega arith, omega arith); before = λ i from lt m. n i from (omega arith) m; here = λ lt. absurd (omega arith) }

  pub none_may_join : (p q r : ℕ) → NoneMay code s p q → NoneMay code s q r → NoneMay code s p r
  none_may_join p q r a b = λ i from lt m. elim (cases_lt i q) [ inl before ↦ a i from before m | inr ge ↦ b i ge lt m ]

  -- half of the places are left
  pub may_none : (p low middle : ℕ) (r : Option ℕ) → r ≡ None → MayBy code s low middle r → NoneMay code s p low → NoneMay code s p (middle + 1)
  may_none p low middle r e f n = λ i from lt m. elim (cases_lt i low) [
    | inl before ↦ n i from before m
    | inr ge ↦ (let g = subst (MayBy code s low middle) e f in g (i, ge, omega (arith, lt), m))
  ]

  pub may_left : (low high middle : ℕ) (r : Option ℕ) → r ≡ None → MayBy code s low middle r → MayIn code s low high → MayIn code s (middle + 1) high
  may_left low high middle r e f m = elim (cases_lt middle m.0) [
    | inl after ↦ (m.0, omega (arith, after), m.2, m.3)
    | inr upto ↦ (let g = subst (MayBy code s low middle) e f in absurd (g (m.0, m.1, upto, m.3)))
  ]

  pub may_by : (low middle by : ℕ) (r : Option ℕ) → r ≡ Some by → MayBy code s low middle r → (low ≤ by) × (by ≤ middle) × MayIn code s low by
  may_by low middle by r e f = subst (MayBy code s low middle) e f

  pub may_done : (low high : ℕ) → high ≤ low → MayIn code s low high → MayStart code s low
  may_done low high done m = let is : m.0 ≡ low = (let l = m.1 in let h = m.2 in omega (arith, l, h, done)) in subst (MayStart code s) is m.3

  -- none up to the last byte is none
  pub may_nowhere : (from : ℕ) (r : Option ℕ) → from < length s → r ≡ None → MayBy code s from (length s - 1) r → NoneMay code s from (length s)
  may_nowhere from r lt e f = λ i low high m. let g = subst (MayBy code s from (length s - 1)) e f in g (i, low, omega (arith, high), m)

  -- a place where a way may begin that reads a byte: it asks, or it is ahead
  pub asks_or_ahead : (here : ℕ) (o : Option ℕ) (asks : Bool) → IsFarthest code false s here o → IsTrue asks ↔ WantsFrom code false s here → MayStart code s here → IsTrue asks ⊎ IsAhead here o
  asks_or_ahead here o asks f e (inl w) = inl (e.1 w)
  asks_or_ahead here o asks f e (inr h) = inr (ahead_of here h.0 o h.1 (farthest_has here h.0 o f h.2))

  -- what is found further on, where none may begin before
  pub opening_from : (p q : ℕ) (o : Opening) → p ≤ q → NoneMay code s p q → IsOpened code s q o → IsOpened code s p o
  opening_from p q (At begin longest asks) le n f = ((omega (arith, le, f.0.0), f.0.1, none_may_join p q begin n f.0.2, f.0.3, f.0.4, f.0.5), f.1)
  opening_from p q (After at) le n f = ((omega (arith, le, f.0.0), f.0.1, none_may_join p q at n f.0.2), f.1)

  -- what an opening tells
  pub opened_asks : (p begin : ℕ) (longest : Option ℕ) (asks : Bool) → IsOpening code s p (At begin longest asks) → IsTrue asks → IsFirstOpen code s p None
  opened_asks p begin longest asks f a = open_asks p begin asks f.0 f.2 f.4 a

  pub opened_here : (p begin : ℕ) (longest : Option ℕ) (asks : Bool) (r : Option (ℕ × ℕ)) → IsOpening code s p (At begin longest asks) → (IsTrue asks → ⊥) → ((j : ℕ) → longest ≡ Some j → r ≡ Some (begin, j))
      → IsFirstOpen code s p r × AreBetween p (length s) r
  opened_here p begin longest asks r f na sp =
      let lt = f.1 in
      let ahead : IsAhead begin longest = elim f.5 as (λ _. IsAhead begin longest) [ inl a ↦ absurd (na a) | inr h ↦ h ] in (
        open_here p begin longest r asks f.0 (omega (arith, lt)) f.2 f.3 f.4 na ahead sp,
        open_between p begin longest r f.0 (way_between false begin longest (omega (arith, lt)) f.3) ahead sp,
      )

  pub opened_none : (p at : ℕ) → IsOpening code s p (After at) → at ≡ length s → IsFirstOpen code s p None
  opened_none p at f e = open_none p at (omega (arith, e)) f.2

  pub opened_start : (p begin : ℕ) (longest : Option ℕ) (asks : Bool) → IsOpening code s p (At begin longest asks) → IsOpenStart code s p begin
  opened_start p begin longest asks f = (let lt = f.1 in start_here p begin f.0 (omega (arith, lt)) f.2 (may_here begin longest asks f.3 f.4 f.5))

  pub opened_end : (p at : ℕ) → IsOpening code s p (After at) → at ≡ length s → IsOpenStart code s p at
  opened_end p at f e = subst (IsOpenStart code s p) (sym e) (start_end p at f.0 e f.2)
