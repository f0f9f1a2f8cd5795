-- The newest item with a label.
use Rattle.std.specs.Prelude.{◌≡◌, ◌≢◌, ℕ, ◌<◌, List, slice_index, Option, None, Some}

-- of the first n items, the newest that has the label, if one has it
abbrev pub IsNearest : List ℕ → ℕ → ℕ → Option ℕ → Type 0
IsNearest xs n label None = (j : ℕ) → j < n → slice_index xs j ≢ label
IsNearest xs n label (Some i) = (i < n) × (slice_index xs i ≡ label) × ((j : ℕ) → i < j → j < n → slice_index xs j ≢ label)
