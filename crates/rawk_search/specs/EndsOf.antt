-- The lists of ends are the ends of matches, and the test of what is needed is the relation.
use Rattle.std.proofs.Common.{◌≡◌, ℕ, ◌+◌, ◌/◌, ◌%◌, ◌^◌, ◌<◌, ◌≤◌, inl, inr, Bool, true, false, ◌&&◌, true≢false, List, [], ◌∷◌, length, Option, Some, None, refl, sym, ap, ◌∙◌, arith, eqb-true, eq-eqb}
use Rattle.std.specs.Prelude.{if◌then◌else◌, nat_eq, slice_get, slice_index}
use Rattle.std.specs.List.{list_any}
use Rattle.std.proofs.lemmas.Bool.{or_cases, and_from, and_parts}
use Rattle.rawk_ere_tree.specs.declared.node.Count.{Count}
use Rattle.rawk_ere_tree.specs.declared.node.Count.TheVariants.{Star, Plus, Maybe, AtLeast, Between}
use Rattle.rawk_ere_tree.specs.ByteSets.{IsIn}
use Rattle.rawk_ere_tree.specs.Tree.{Tree, Empty, OneOf, Start, End, Join, Either, Group, Repeat}
use Rattle.rawk_ere_tree.specs.Ends.{Allows, Times, Ends}
use Rattle.rawk_ere_tree.specs.Open.{AllowsMore, Needs}
use Rattle.rawk_ere_tree.specs.Longer.{times_reach, ends_reach}
use Rattle.rawk_search.specs.Matches.{is_member_there, ends_of_counts, least, enough, enough_before, ends, needs}
use Rattle.rawk_search.specs.Repeats.{IsAmong, among_left, among_right, among_either, among_all, among_one, or_left, or_right, any_among, one_any, few, times_in, times_of, counts_in, counts_of}

ends_up : (closed : Bool) (s : List ℕ) (e : Tree) (i j : ℕ) → Ends closed s e i j → i ≤ j
ends_up closed s e i j h = (ends_reach closed s e i j h).0

times_near : (closed : Bool) (s : List ℕ) (e : Tree) (k i j : ℕ) → Times (Ends closed s e) k i j → j ≤ i + length s
times_near closed s e k i j t = omega (arith, (times_reach (Ends closed s e) (length s) (ends_reach closed s e) k i j t).1)

allows_of : (count : Count) (n k : ℕ) → least count ≤ k → k < least count + enough count n → Allows count k
allows_of Star n k low high = tt
allows_of Plus n k low high = low
allows_of Maybe n k low high = omega arith
allows_of (AtLeast m) n k low high = low
allows_of (Between m more) n k low high = (low, omega arith)

allowed_few : (R : ℕ → ℕ → Type 0) → ((i j : ℕ) → R i j → i ≤ j) → (count : Count) (n k i j : ℕ) → j ≤ i + n → Allows count k → Times R k i j
    → (m : ℕ) × (least count ≤ m) × (m < least count + enough count n) × Times R m i j
allowed_few R up Star n k i j near a t = let x = few R up 0 n k i j (omega arith) near t in (x.0, x.1, omega (arith, x.2), x.3)
allowed_few R up Plus n k i j near a t = let x = few R up 1 n k i j a near t in (x.0, x.1, omega (arith, x.2), x.3)
allowed_few R up Maybe n k i j near a t = (k, omega arith, omega arith, t)
allowed_few R up (AtLeast m) n k i j near a t = let x = few R up m n k i j a near t in (x.0, x.1, omega (arith, x.2), x.3)
allowed_few R up (Between m more) n k i j near a t = (k, a.0, omega (arith, a.1), t)

more_of : (count : Count) (n k : ℕ) → k < enough_before count n → AllowsMore count k
more_of Star n k lt = tt
more_of Plus n k lt = tt
more_of Maybe n k lt = lt
more_of (AtLeast m) n k lt = tt
more_of (Between m more) n k lt = lt

more_few : (R : ℕ → ℕ → Type 0) → ((i j : ℕ) → R i j → i ≤ j) → (count : Count) (n k i j : ℕ) → j ≤ i + n → AllowsMore count k → Times R k i j
    → (m : ℕ) × (m < enough_before count n) × Times R m i j
more_few R up Star n k i j near a t = let x = few R up 0 n k i j (omega arith) near t in (x.0, omega (arith, x.2), x.3)
more_few R up Plus n k i j near a t = let x = few R up 0 n k i j (omega arith) near t in (x.0, omega (arith, x.2), x.3)
more_few R up Maybe n k i j near a t = (k, a, t)
more_few R up (AtLeast m) n k i j near a t = let x = few R up 0 n k i j (omega arith) near t in (x.0, omega (arith, x.2), x.3)
more_few R up (Between m more) n k i j near a t = (k, a, t)

in_if : (b : Bool) (x j : ℕ) → b ≡ true → x ≡ j → IsAmong (if b then x ∷ [] else []) j
in_if true x j h e = inl e
in_if false x j h e = absurd (true≢false (sym h))

of_if : (b : Bool) (x j : ℕ) → IsAmong (if b then x ∷ [] else []) j → (b ≡ true) × (x ≡ j)
of_if true x j h = elim h [ inl e ↦ (refl, e) | inr n ↦ absurd n ]
of_if false x j h = absurd h

member_of : (set : List ℕ) (o : Option ℕ) → is_member_there set o ≡ true → (b : ℕ) × (o ≡ Some b) × IsIn b set
member_of set None h = absurd (true≢false (sym h))
member_of set (Some b) h = (b, refl, eqb-true (slice_index set (b / 64) / 2 ^ (b % 64) % 2) 1 h)

pub ends_in : (closed : Bool) (s : List ℕ) (e : Tree) (i j : ℕ) → Ends closed s e i j → IsAmong (ends closed s e i) j
unfolding ends
ends_in closed s Empty i j h = inl h
ends_in closed s (OneOf set) i j h =
    let here : is_member_there set (slice_get s i) ≡ true = ap (is_member_there set) h.1 ∙ eq-eqb (slice_index set (h.0 / 64) / 2 ^ (h.0 % 64) % 2) 1 h.2 in
    in_if (is_member_there set (slice_get s i)) (i + 1) j here h.3
ends_in closed s Start i j h = in_if (nat_eq i 0) i j (eq-eqb i 0 h.0) h.1
ends_in closed s End i j h = in_if (closed && nat_eq i (length s)) i j (and_from closed (nat_eq i (length s)) h.0.0 (eq-eqb i (length s) h.0.1)) h.1
ends_in closed s (Join a b) i j h = among_all (ends closed s b) (ends closed s a i) h.0 j (ends_in closed s a i h.0 h.1) (ends_in closed s b h.0 j h.2)
ends_in closed s (Either a b) i j (inl h) = among_left (ends closed s a i) (ends closed s b i) j (ends_in closed s a i j h)
ends_in closed s (Either a b) i j (inr h) = among_right (ends closed s a i) (ends closed s b i) j (ends_in closed s b i j h)
ends_in closed s (Group a) i j h = ends_in closed s a i j h
ends_in closed s (Repeat a count) i j h =
    let x = allowed_few (Ends closed s a) (ends_up closed s a) count (length s) h.0 i j (times_near closed s a h.0 i j h.2) h.1 h.2 in
    counts_in (ends closed s a) (least count) (enough count (length s)) x.0 i j x.1 x.2 (times_in (Ends closed s a) (ends closed s a) (ends_in closed s a) x.0 i j x.3)

pub ends_of : (closed : Bool) (s : List ℕ) (e : Tree) (i j : ℕ) → IsAmong (ends closed s e i) j → Ends closed s e i j
unfolding ends
ends_of closed s Empty i j h = elim h [ inl e ↦ e | inr n ↦ absurd n ]
ends_of closed s (OneOf set) i j h =
    let x = of_if (is_member_there set (slice_get s i)) (i + 1) j h in
    let m = member_of set (slice_get s i) x.0 in
    (m.0, m.1, m.2, x.1)
ends_of closed s Start i j h = let x = of_if (nat_eq i 0) i j h in (eqb-true i 0 x.0, x.1)
ends_of closed s End i j h =
    let x = of_if (closed && nat_eq i (length s)) i j h in
    let y = and_parts closed (nat_eq i (length s)) x.0 in
    ((y.0, eqb-true i (length s) y.1), x.1)
ends_of closed s (Join a b) i j h =
    let x = among_one (ends closed s b) (ends closed s a i) j h in
    (x.0, ends_of closed s a i x.0 x.1, ends_of closed s b x.0 j x.2)
ends_of closed s (Either a b) i j h = elim (among_either (ends closed s a i) (ends closed s b i) j h) [
  | inl x ↦ inl (ends_of closed s a i j x)
  | inr x ↦ inr (ends_of closed s b i j x)
]
ends_of closed s (Group a) i j h = ends_of closed s a i j h
ends_of closed s (Repeat a count) i j h =
    let x = counts_of (ends closed s a) (least count) (enough count (length s)) i j h in
    (x.0, allows_of count (length s) x.0 x.1 x.2, times_of (Ends closed s a) (ends closed s a) (ends_of closed s a) x.0 i j x.3)

pub needs_in : (s : List ℕ) (e : Tree) (i : ℕ) → Needs s e i → needs s e i ≡ true
unfolding needs
needs_in s Empty i h = absurd h
needs_in s (OneOf set) i h = eq-eqb i (length s) h
needs_in s Start i h = absurd h
needs_in s End i h = eq-eqb i (length s) h
needs_in s (Join a b) i (inl h) = or_left (needs s a i) (list_any (needs s b) (ends false s a i)) (needs_in s a i h)
needs_in s (Join a b) i (inr h) =
    or_right (needs s a i) (list_any (needs s b) (ends false s a i)) (any_among (needs s b) (ends false s a i) h.0 (ends_in false s a i h.0 h.1) (needs_in s b h.0 h.2))
needs_in s (Either a b) i (inl h) = or_left (needs s a i) (needs s b i) (needs_in s a i h)
needs_in s (Either a b) i (inr h) = or_right (needs s a i) (needs s b i) (needs_in s b i h)
needs_in s (Group a) i h = needs_in s a i h
needs_in s (Repeat a count) i h =
    let x = more_few (Ends false s a) (ends_up false s a) count (length s) h.0 i h.1 (times_near false s a h.0 i h.1 h.3) h.2 h.3 in
    any_among (needs s a) (ends_of_counts (ends false s a) 0 (enough_before count (length s)) i) h.1
    (counts_in (ends false s a) 0 (enough_before count (length s)) x.0 i h.1 (omega arith) (omega (arith, x.1)) (times_in (Ends false s a) (ends false s a) (ends_in false s a) x.0 i h.1 x.2))
    (needs_in s a h.1 h.4)

pub needs_of : (s : List ℕ) (e : Tree) (i : ℕ) → needs s e i ≡ true → Needs s e i
unfolding needs
needs_of s Empty i h = absurd (true≢false (sym h))
needs_of s (OneOf set) i h = eqb-true i (length s) h
needs_of s Start i h = absurd (true≢false (sym h))
needs_of s End i h = eqb-true i (length s) h
needs_of s (Join a b) i h = elim (or_cases (needs s a i) (list_any (needs s b) (ends false s a i)) h) [
  | inl x ↦ inl (needs_of s a i x)
  | inr y ↦ (let x = one_any (needs s b) (ends false s a i) y in inr (x.0, ends_of false s a i x.0 x.1, needs_of s b x.0 x.2))
]
needs_of s (Either a b) i h = elim (or_cases (needs s a i) (needs s b i) h) [ inl x ↦ inl (needs_of s a i x) | inr x ↦ inr (needs_of s b i x) ]
needs_of s (Group a) i h = needs_of s a i h
needs_of s (Repeat a count) i h =
    let x = one_any (needs s a) (ends_of_counts (ends false s a) 0 (enough_before count (length s)) i) h in
    let y = counts_of (ends false s a) 0 (enough_before count (length s)) i x.0 x.1 in
    (y.0, x.0, more_of count (length s) y.0 (omega (arith, y.2)), times_of (Ends false s a) (ends false s a) (ends_of false s a) y.0 i x.0 y.3, needs_of s a x.0 x.2)
