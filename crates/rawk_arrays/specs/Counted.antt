-- How many elements each array has.
use Rattle.std.specs.Prelude.{◌≡◌, ℕ, ◌<◌, ◌≤◌, ◌⊎◌, List, length, slice_get, slice_index, Option, Some}
use Rattle.std.specs.FinMap.{len}
use Rattle.rawk_value.specs.declared.value.Value.{Value}
use Rattle.rawk_slots.specs.Journaled.{Journaled}
use Rattle.rawk_keys.specs.ArrayKey.{ArrayKey}
use Rattle.rawk_arrays.specs.Laid.{AreLaid, elements_of}

-- the count of each array is that of its elements, and an array that has a key has a count
pub record AreCounted (index : List ArrayKey) (slots : List (Option Value)) (counts : List ℕ) : Type 0 where
  pub counted : (a : ℕ) → slice_index counts a ≡ len (elements_of a index slots)
  pub room : (i : ℕ) (name : ArrayKey) → slice_get index i ≡ Some name → name.array < length counts

-- counts of no elements were added
pub record HasMore (counts more : List ℕ) : Type 0 where
  pub longer : length counts ≤ length more
  pub same : (a : ℕ) → slice_index more a ≡ slice_index counts a

-- each key is an old one, or one of this array
abbrev pub IsAddedTo : ℕ → List ArrayKey → List ArrayKey → Type 0
IsAddedTo a index more = (i : ℕ) (name : ArrayKey) → slice_get more i ≡ Some name → (slice_get index i ≡ Some name) ⊎ (name.array ≡ a)

-- what holds of all arrays: how they lie, and what is counted now
pub record AreKept (index : List ArrayKey) (slots : Journaled (List (Option Value))) (counts : List ℕ) : Type 0 where
  pub laid : AreLaid index slots
  pub counted : AreCounted index slots.now counts
