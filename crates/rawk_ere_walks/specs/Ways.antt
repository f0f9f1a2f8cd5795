-- Ways through a code.
use Rattle.std.specs.Prelude.{ℕ, ◌<◌, ◌≤◌, ◌⊎◌, Bool, true, false, List, length, Option, Some, None}
use Rattle.rawk_ere_tree.specs.declared.code.Instruction.{Instruction}
use Rattle.rawk_ere_tree.specs.Code.{Path}
use Rattle.rawk_ere_walks.specs.Sets.{WantsFrom}

module _ (code : List Instruction) (s : List ℕ) where
  -- a way through the code
  abbrev pub Way : Bool → ℕ → ℕ → Type 0
  Way closed i j = (n : ℕ) × Path code closed s n 0 i (length code) j

  -- a way begins at a place from `from` to `upto`
  abbrev pub BeginsIn : ℕ → ℕ → Type 0
  BeginsIn from upto = (i : ℕ) × (j : ℕ) × (from ≤ i) × (i ≤ upto) × Way true i j

  -- such a way ends at the place; without a place, there is none
  abbrev pub EndsFrom : ℕ → ℕ → Option ℕ → Type 0
  EndsFrom from upto None = BeginsIn from upto → ⊥
  EndsFrom from upto (Some j) = (i : ℕ) × (from ≤ i) × (i ≤ upto) × Way true i j

  -- a way that reads a byte may begin at the place, in the text or in a longer one
  abbrev pub MayStart : ℕ → Type 0
  MayStart i = WantsFrom code false s i ⊎ ((j : ℕ) × (i < j) × Way false i j)

  -- there is such a place from `from` to `upto`
  abbrev pub MayIn : ℕ → ℕ → Type 0
  MayIn from upto = (k : ℕ) × (from ≤ k) × (k ≤ upto) × MayStart k

  -- there is one up to the given place; without a place, there is none
  abbrev pub MayBy : ℕ → ℕ → Option ℕ → Type 0
  MayBy from upto None = MayIn from upto → ⊥
  MayBy from upto (Some by) = (from ≤ by) × (by ≤ upto) × MayIn from by
