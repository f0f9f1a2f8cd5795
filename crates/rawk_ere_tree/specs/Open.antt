-- Matches in a text that may go on.
use Rattle.std.specs.Prelude.{◌≡◌, ℕ, ◌+◌, ◌<◌, ◌≤◌, ◌⊎◌, Bool, false, List, ◌++◌, length, Option, Some, None}
use Rattle.rawk_ere_tree.specs.declared.node.Count.{Count}
use Rattle.rawk_ere_tree.specs.declared.node.Count.TheVariants.{Star, Plus, Maybe, AtLeast, Between}
use Rattle.rawk_ere_tree.specs.Tree.{Tree, Empty, OneOf, Start, End, Join, Either, Group, Repeat}
use Rattle.rawk_ere_tree.specs.Ends.{Times, Ends}

-- the count allows one more after k
abbrev pub AllowsMore : Count → ℕ → Type 0
AllowsMore Star k = Unit {0}
AllowsMore Plus k = Unit {0}
AllowsMore Maybe k = k < 1
AllowsMore (AtLeast m) k = Unit {0}
AllowsMore (Between m more) k = k < m + more

-- reading the expression from i wants to know what follows the text s, of which it is not known whether it goes on
abbrev pub Needs : List ℕ → Tree → ℕ → Type 0
Needs s Empty i = ⊥
Needs s (OneOf set) i = i ≡ length s
Needs s Start i = ⊥
Needs s End i = i ≡ length s
Needs s (Join a b) i = Needs s a i ⊎ ((middle : ℕ) × Ends false s a i middle × Needs s b middle)
Needs s (Either a b) i = Needs s a i ⊎ Needs s b i
Needs s (Group a) i = Needs s a i
Needs s (Repeat a count) i = (k : ℕ) × (middle : ℕ) × AllowsMore count k × Times (Ends false s a) k i middle × Needs s a middle

-- m is the leftmost nonempty match from p on, and the longest there
abbrev pub IsNonempty : Bool → List ℕ → Tree → ℕ → ℕ × ℕ → Type 0
IsNonempty closed s e p m =
    (p ≤ m.0) × (m.0 < m.1) × Ends closed s e m.0 m.1 × ((i j : ℕ) → p ≤ i → i < j → Ends closed s e i j → m.0 ≤ i) × ((k : ℕ) → Ends closed s e m.0 k → k ≤ m.1)

-- the leftmost nonempty match from p on, if no reading from a place up to there wants to know what follows the text
abbrev pub IsOpenMatch : List ℕ → Tree → ℕ → Option (ℕ × ℕ) → Type 0
IsOpenMatch s e p None = (i j : ℕ) → p ≤ i → i < j → Ends false s e i j → (k : ℕ) × (p ≤ k) × (k ≤ i) × Needs s e k
IsOpenMatch s e p (Some m) = IsNonempty false s e p m × ((k : ℕ) → p ≤ k → k ≤ m.0 → Needs s e k → ⊥)

-- m is that match in each text that begins with s, whether or not the text goes on
abbrev pub IsSettled : List ℕ → Tree → ℕ → ℕ × ℕ → Type 0
IsSettled s e p m = (more : List ℕ) (closed : Bool) → IsNonempty closed (s ++ more) e p m

-- a nonempty match may begin at the place, in s or in a longer text
abbrev pub MayBegin : List ℕ → Tree → ℕ → Type 0
MayBegin s e i = Needs s e i ⊎ ((j : ℕ) × (i < j) × Ends false s e i j)

-- f is the first place from p on where a nonempty match may begin, or the end of the text
pub record IsOpenFrom (s : List ℕ) (e : Tree) (p f : ℕ) : Type 0 where
  pub within : (p ≤ f) × (f ≤ length s)
  pub before : (i : ℕ) → p ≤ i → i < f → MayBegin s e i → ⊥
  pub here : f < length s → MayBegin s e f
  pub settled : (more : List ℕ) (closed : Bool) (i j : ℕ) → p ≤ i → i < j → Ends closed (s ++ more) e i j → f ≤ i
