-- The states that are reached at a place.
use Rattle.std.specs.Prelude.{◌≡◌, ℕ, zero, suc, ◌+◌, ◌<◌, ◌≤◌, Bool, List, Option, None, length, Some, slice_get, Contains}
use Rattle.rawk_ere_tree.specs.declared.code.Instruction.{Instruction}
use Rattle.rawk_ere_tree.specs.declared.code.Instruction.TheVariants.{Bytes, Start, End, Split, Go, Back, Fork}
use Rattle.rawk_ere_tree.specs.Code.{Hops, Takes, Path}

-- the state q leads to r without reading
abbrev pub HopsFrom : List Instruction → Type 0 → Type 0 → ℕ → ℕ → Type 0
HopsFrom code First Last q r = (x : Instruction) × (slice_get code q ≡ Some x) × Hops First Last q x r

-- the state q leads to r in n steps without reading
abbrev pub HopsBy : List Instruction → Type 0 → Type 0 → ℕ → ℕ → ℕ → Type 0
HopsBy code First Last zero q r = q ≡ r
HopsBy code First Last (suc n) q r = (m : ℕ) × HopsFrom code First Last q m × HopsBy code First Last n m r

-- the state q takes the byte
abbrev pub TakesFrom : List Instruction → ℕ → ℕ → Type 0
TakesFrom code q b = (x : Instruction) × (slice_get code q ≡ Some x) × Takes x b

-- new has what old has and where that leads without reading, below room
pub record Closes (room : ℕ) (code : List Instruction) (First Last : Type 0) (old new : List ℕ) : Type 0 where
  pub keeps : (q : ℕ) → Contains old q → Contains new q
  pub closed : (q r : ℕ) → Contains new q → HopsFrom code First Last q r → r < room → Contains new r
  pub only : (r : ℕ) → Contains new r → (q : ℕ) × Contains old q × ((n : ℕ) × HopsBy code First Last n q r)

-- new has the states after those of old that read the byte, below room
pub record AdvancesBy (room : ℕ) (code : List Instruction) (b : ℕ) (old new : List ℕ) : Type 0 where
  pub has : (q : ℕ) → Contains old q → TakesFrom code q b → q + 1 < room → Contains new (q + 1)
  pub only : (r : ℕ) → Contains new r → (q : ℕ) × Contains old q × TakesFrom code q b × (r ≡ q + 1)

module _ (code : List Instruction) (closed : Bool) (s : List ℕ) where
  -- the states are those that a way from the first state at i reaches at the place
  pub record AreReached (i at : ℕ) (states : List ℕ) : Type 0 where
    pub sound : (q : ℕ) → Contains states q → (n : ℕ) × Path code closed s n 0 i q at
    pub all : (q n : ℕ) → q ≤ length code → Path code closed s n 0 i q at → Contains states q

  -- j is the last place before `at` where a way from i goes through the code
  abbrev pub IsFarthestBefore : ℕ → ℕ → Option ℕ → Type 0
  IsFarthestBefore i at None = (j n : ℕ) → j < at → Path code closed s n 0 i (length code) j → ⊥
  IsFarthestBefore i at (Some j) =
      ((n : ℕ) × Path code closed s n 0 i (length code) j) × ((k n : ℕ) → k < at → Path code closed s n 0 i (length code) k → k ≤ j)

  -- the same of all places
  abbrev pub IsFarthest : ℕ → Option ℕ → Type 0
  IsFarthest i None = (j n : ℕ) → Path code closed s n 0 i (length code) j → ⊥
  IsFarthest i (Some j) =
      ((n : ℕ) × Path code closed s n 0 i (length code) j) × ((k n : ℕ) → Path code closed s n 0 i (length code) k → k ≤ j)

-- the instruction wants to know what follows the text
abbrev pub Asks : Instruction → Type 0
Asks (Bytes set) = Unit {0}
Asks Start = ⊥
Asks End = Unit {0}
Asks (Split d) = ⊥
Asks (Go d) = ⊥
Asks (Back d) = ⊥
Asks (Fork d) = ⊥

-- the state has such an instruction
abbrev pub AsksAt : List Instruction → ℕ → Type 0
AsksAt code q = (x : Instruction) × (slice_get code q ≡ Some x) × Asks x

-- one of the states does
abbrev pub AsksIn : List Instruction → List ℕ → Type 0
AsksIn code states = (q : ℕ) × Contains states q × AsksAt code q

-- a way from the first state at i reaches such a state at the end of the text
abbrev pub WantsFrom : List Instruction → Bool → List ℕ → ℕ → Type 0
WantsFrom code closed s i = (q : ℕ) × (n : ℕ) × Path code closed s n 0 i q (length s) × AsksAt code q

-- the states are those that a way from the first state, begun at a place from `from` to `upto`, reaches at the place
pub record HasReached (code : List Instruction) (closed : Bool) (s : List ℕ) (from upto at : ℕ) (states : List ℕ) : Type 0 where
  pub sound : (q : ℕ) → Contains states q → (i : ℕ) × (n : ℕ) × (from ≤ i) × (i ≤ upto) × Path code closed s n 0 i q at
  pub all : (i q n : ℕ) → from ≤ i → i ≤ upto → i ≤ at → q ≤ length code → Path code closed s n 0 i q at → Contains states q
