-- Where an extended regular expression matches.
use Rattle.std.specs.Prelude.{◌≡◌, ℕ, zero, suc, ◌+◌, ◌≤◌, ◌⊎◌, Bool, true, IsTrue, List, length, Option, Some, None, slice_get}
use Rattle.rawk_ere_tree.specs.declared.node.Count.{Count}
use Rattle.rawk_ere_tree.specs.declared.node.Count.TheVariants.{Star, Plus, Maybe, AtLeast, Between}
use Rattle.rawk_ere_tree.specs.ByteSets.{IsIn}
use Rattle.rawk_ere_tree.specs.Tree.{Tree, Empty, OneOf, Start, End, Join, Either, Group, Repeat}

-- the count allows k times
abbrev pub Allows : Count → ℕ → Type 0
Allows Star k = Unit {0}
Allows Plus k = 1 ≤ k
Allows Maybe k = k ≤ 1
Allows (AtLeast m) k = m ≤ k
Allows (Between m more) k = (m ≤ k) × (k ≤ m + more)

-- k matches, one after the other, lead from i to j
abbrev pub Times : (ℕ → ℕ → Type 0) → ℕ → ℕ → ℕ → Type 0
Times Match zero i j = i ≡ j
Times Match (suc k) i j = (middle : ℕ) × Match i middle × Times Match k middle j

-- Matches in the text s. If it is closed, no byte follows it, so `$` holds at its end.
module _ (closed : Bool) (s : List ℕ) where
  -- `$` holds at i
  abbrev pub IsLast : ℕ → Type 0
  IsLast i = IsTrue closed × (i ≡ length s)

  -- the expression matches the text from i to j
  abbrev pub Ends : Tree → ℕ → ℕ → Type 0
  Ends Empty i j = i ≡ j
  Ends (OneOf set) i j = (b : ℕ) × (slice_get s i ≡ Some b) × IsIn b set × (i + 1 ≡ j)
  Ends Start i j = (i ≡ 0) × (i ≡ j)
  Ends End i j = IsLast i × (i ≡ j)
  Ends (Join a b) i j = (middle : ℕ) × Ends a i middle × Ends b middle j
  Ends (Either a b) i j = Ends a i j ⊎ Ends b i j
  Ends (Group a) i j = Ends a i j
  Ends (Repeat a count) i j = (k : ℕ) × Allows count k × Times (Ends a) k i j

-- j is the greatest place that the expression matches to from i
abbrev pub IsLongest : List ℕ → Tree → ℕ → Option ℕ → Type 0
IsLongest s e i None = (j : ℕ) → Ends true s e i j → ⊥
IsLongest s e i (Some j) = Ends true s e i j × ((k : ℕ) → Ends true s e i k → k ≤ j)

-- the text has a match
abbrev pub HasMatch : List ℕ → Tree → Type 0
HasMatch s e = (i : ℕ) × (j : ℕ) × (i ≤ length s) × Ends true s e i j

-- the leftmost match from p on, and the longest there
abbrev pub IsMatch : List ℕ → Tree → ℕ → Option (ℕ × ℕ) → Type 0
IsMatch s e p None = (i j : ℕ) → p ≤ i → i ≤ length s → Ends true s e i j → ⊥
IsMatch s e p (Some m) =
    (p ≤ m.0) × Ends true s e m.0 m.1 × ((i j : ℕ) → p ≤ i → Ends true s e i j → m.0 ≤ i) × ((k : ℕ) → Ends true s e m.0 k → k ≤ m.1)
