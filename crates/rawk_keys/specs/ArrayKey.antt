-- Keys with their arrays, in a list.
use Rattle.std.specs.Prelude.{◌≡◌, ◌≢◌, ◌<◌, ◌⊎◌, ◌++◌, ◌∷◌, [], ℕ, List, slice_get, Option, None, Some}

abbrev pub Bytes : Type 0
Bytes = List ℕ

-- a key of an array
pub record ArrayKey : Type 0 where
  pub array : ℕ
  pub key : Bytes

abbrev pub array_key : ℕ → Bytes → ArrayKey
array_key array key = record { array = array; key = key }

-- the entry stands at none of the first n places
abbrev pub IsAbsent : ArrayKey → List ArrayKey → Type 0
IsAbsent entry keys = (i : ℕ) → slice_get keys i ≢ Some entry

-- nothing was added, or the entry, which was not there
abbrev pub HasEntry : ArrayKey → List ArrayKey → List ArrayKey → Type 0
HasEntry entry keys new = (new ≡ keys) ⊎ (IsAbsent entry keys × (new ≡ keys ++ entry ∷ []))

-- of the first n keys, the last one of an array's, if it has one there
abbrev pub IsLastOf : ℕ → List ArrayKey → ℕ → Option ℕ → Type 0
IsLastOf array keys n None = (j : ℕ) (entry : ArrayKey) → j < n → slice_get keys j ≡ Some entry → entry.array ≢ array
IsLastOf array keys n (Some i) =
    (i < n) × ((entry : ArrayKey) → slice_get keys i ≡ Some entry → entry.array ≡ array) × ((j : ℕ) (entry : ArrayKey) → i < j → j < n → slice_get keys j ≡ Some entry → entry.array ≢ array)
