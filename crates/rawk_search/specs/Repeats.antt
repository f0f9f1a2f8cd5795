-- Matches that stand one after the other: how many are enough, and the list of the places where they end.
use Rattle.std.proofs.Common.{◌≡◌, ℕ, zero, suc, ◌+◌, ◌<◌, ◌≤◌, ◌⊎◌, inl, inr, Bool, true, false, ◌||◌, true≢false, List, [], ◌∷◌, ◌++◌, refl, sym, subst, arith}
use Rattle.std.specs.List.{flat_map, list_any}
use Rattle.std.proofs.lemmas.Bool.{cases_lt, cases_eq, or_cases}
use Rattle.rawk_ere_tree.specs.Ends.{Times}
use Rattle.rawk_search.specs.Matches.{ends_of_times, ends_of_counts}

-- the place is in the list
abbrev pub IsAmong : List ℕ → ℕ → Type 0
IsAmong [] j = ⊥
IsAmong (x ∷ xs) j = (x ≡ j) ⊎ IsAmong xs j

pub among_left : (xs ys : List ℕ) (j : ℕ) → IsAmong xs j → IsAmong (xs ++ ys) j
among_left [] ys j h = absurd h
among_left (x ∷ xs) ys j (inl e) = inl e
among_left (x ∷ xs) ys j (inr h) = inr (among_left xs ys j h)

pub among_right : (xs ys : List ℕ) (j : ℕ) → IsAmong ys j → IsAmong (xs ++ ys) j
among_right [] ys j h = h
among_right (x ∷ xs) ys j h = inr (among_right xs ys j h)

pub among_either : (xs ys : List ℕ) (j : ℕ) → IsAmong (xs ++ ys) j → IsAmong xs j ⊎ IsAmong ys j
among_either [] ys j h = inr h
among_either (x ∷ xs) ys j (inl e) = inl (inl e)
among_either (x ∷ xs) ys j (inr h) = elim (among_either xs ys j h) [ inl a ↦ inl (inr a) | inr b ↦ inr b ]

pub among_all : (f : ℕ → List ℕ) (xs : List ℕ) (x j : ℕ) → IsAmong xs x → IsAmong (f x) j → IsAmong (flat_map f xs) j
among_all f [] x j h k = absurd h
among_all f (y ∷ ys) x j (inl e) k = among_left (f y) (flat_map f ys) j (subst (λ z. IsAmong (f z) j) (sym e) k)
among_all f (y ∷ ys) x j (inr h) k = among_right (f y) (flat_map f ys) j (among_all f ys x j h k)

pub among_one : (f : ℕ → List ℕ) (xs : List ℕ) (j : ℕ) → IsAmong (flat_map f xs) j → (x : ℕ) × IsAmong xs x × IsAmong (f x) j
among_one f [] j h = absurd h
among_one f (y ∷ ys) j h = elim (among_either (f y) (flat_map f ys) j h) [
  | inl a ↦ (y, inl refl, a)
  | inr b ↦ (let r = among_one f ys j b in (r.0, inr r.1, r.2))
]

pub or_left : (x y : Bool) → x ≡ true → (x || y) ≡ true
or_left true y h = refl
or_left false y h = absurd (true≢false (sym h))

pub or_right : (x y : Bool) → y ≡ true → (x || y) ≡ true
or_right true y h = refl
or_right false y h = h

pub any_among : (test : ℕ → Bool) (xs : List ℕ) (x : ℕ) → IsAmong xs x → test x ≡ true → list_any test xs ≡ true
any_among test [] x h t = absurd h
any_among test (y ∷ ys) x (inl e) t = or_left (test y) (list_any test ys) (subst (λ z. test z ≡ true) (sym e) t)
any_among test (y ∷ ys) x (inr h) t = or_right (test y) (list_any test ys) (any_among test ys x h t)

pub one_any : (test : ℕ → Bool) (xs : List ℕ) → list_any test xs ≡ true → (x : ℕ) × IsAmong xs x × (test x ≡ true)
one_any test [] h = absurd (true≢false (sym h))
one_any test (y ∷ ys) h = elim (or_cases (test y) (list_any test ys) h) [
  | inl t ↦ (y, inl refl, t)
  | inr r ↦ (let x = one_any test ys r in (x.0, inr x.1, x.2))
]

-- of more matches than places one is empty and can be left out
fewer : (R : ℕ → ℕ → Type 0) → ((i j : ℕ) → R i j → i ≤ j) → (k i j : ℕ) → Times R (suc k) i j → j < i + suc k → Times R k i j
fewer R up zero i j t lt = omega (arith, up i t.0 t.1, t.2)
fewer R up (suc k) i j t lt = elim (cases_eq i t.0) [
  | inl e ↦ subst (λ x. Times R (suc k) x j) (sym e) t.2
  | inr n ↦ (let ne : i ≡ t.0 → ⊥ = n in let to = up i t.0 t.1 in (t.0, t.1, fewer R up k t.0 j t.2 (omega (arith, ne, to))))
]

-- what matches lead to over n places, n more than the least number lead to
pub few : (R : ℕ → ℕ → Type 0) → ((i j : ℕ) → R i j → i ≤ j) → (low n k i j : ℕ) → low ≤ k → j ≤ i + n → Times R k i j → (m : ℕ) × (low ≤ m) × (m ≤ low + n) × Times R m i j
few R up low n zero i j le near t = (0, le, omega arith, t)
few R up low n (suc k) i j le near t = elim (cases_lt (low + n) (suc k)) [
  | inl great ↦ few R up low n k i j (omega arith) near (fewer R up k i j t (omega arith))
  | inr small ↦ (suc k, le, small, t)
]

pub times_in : (R : ℕ → ℕ → Type 0) (part : ℕ → List ℕ) → ((i j : ℕ) → R i j → IsAmong (part i) j) → (k i j : ℕ) → Times R k i j → IsAmong (ends_of_times part k i) j
times_in R part f zero i j t = inl t
times_in R part f (suc k) i j t = among_all (ends_of_times part k) (part i) t.0 j (f i t.0 t.1) (times_in R part f k t.0 j t.2)

pub times_of : (R : ℕ → ℕ → Type 0) (part : ℕ → List ℕ) → ((i j : ℕ) → IsAmong (part i) j → R i j) → (k i j : ℕ) → IsAmong (ends_of_times part k i) j → Times R k i j
times_of R part f zero i j h = elim h [ inl e ↦ e | inr n ↦ absurd n ]
times_of R part f (suc k) i j h = let x = among_one (ends_of_times part k) (part i) j h in (x.0, f i x.0 x.1, times_of R part f k x.0 j x.2)

pub counts_in : (part : ℕ → List ℕ) (low numbers k i j : ℕ) → low ≤ k → k < low + numbers → IsAmong (ends_of_times part k i) j → IsAmong (ends_of_counts part low numbers i) j
counts_in part low zero k i j le lt h = absurd (omega arith)
counts_in part low (suc numbers) k i j le lt h = elim (cases_eq low k) [
  | inl e ↦ among_left (ends_of_times part low i) (ends_of_counts part (low + 1) numbers i) j (subst (λ x. IsAmong (ends_of_times part x i) j) (sym e) h)
  | inr n ↦ (let ne : low ≡ k → ⊥ = n in among_right (ends_of_times part low i) (ends_of_counts part (low + 1) numbers i) j (counts_in part (low + 1) numbers k i j (omega (arith, ne)) (omega arith) h))
]

pub counts_of : (part : ℕ → List ℕ) (low numbers i j : ℕ) → IsAmong (ends_of_counts part low numbers i) j → (k : ℕ) × (low ≤ k) × (k < low + numbers) × IsAmong (ends_of_times part k i) j
counts_of part low zero i j h = absurd h
counts_of part low (suc numbers) i j h = elim (among_either (ends_of_times part low i) (ends_of_counts part (low + 1) numbers i) j h) [
  | inl a ↦ (low, omega arith, omega arith, a)
  | inr b ↦ (let x = counts_of part (low + 1) numbers i j b in (x.0, omega (arith, x.1), omega (arith, x.2), x.3))
]
