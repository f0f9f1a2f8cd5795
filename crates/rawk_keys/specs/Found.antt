-- How a search for an entry stands.
use Rattle.std.specs.Prelude.{◌≡◌, ◌≢◌, ◌<◌, ◌≤◌, ℕ, ◌+◌, List, length, slice_get, slice_index, Option, None, Some}
use Rattle.rawk_keys.specs.ArrayKey.{ArrayKey}
use Rattle.rawk_keys.specs.Hash.{hash_of}

-- the place comes after the one at which the search stands
abbrev pub IsAfter : Option ℕ → ℕ → Type 0
IsAfter None j = Unit {0}
IsAfter (Some i) j = i < j

-- how far the search still goes
abbrev pub left : Option ℕ → ℕ
left None = 0
left (Some i) = i + 1

-- a search, from the newest entry on, for one that has this hash: it stands at none of those that come after
pub record IsSearching (basis : ℕ) (keys : List ArrayKey) (hashes : List ℕ) (entry : ArrayKey) (at : Option ℕ) : Type 0 where
  pub within : left at ≤ length hashes
  pub here : (i : ℕ) → at ≡ Some i → slice_index hashes i ≡ hash_of basis entry.array entry.key
  pub none : (j : ℕ) → IsAfter at j → slice_get keys j ≢ Some entry
