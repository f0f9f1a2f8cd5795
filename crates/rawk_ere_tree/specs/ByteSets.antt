-- Sets of bytes, as four words of 64 bits.
use Rattle.std.specs.Prelude.{◌≡◌, ℕ, ◌/◌, ◌%◌, ◌^◌, ◌<◌, ◌≤◌, ◌⊎◌, ◌↔◌, List, [], ◌∷◌, length, slice_index}

-- the byte is in the set: its bit is set in its word
abbrev pub IsIn : ℕ → List ℕ → Type 0
IsIn b words = slice_index words (b / 64) / 2 ^ (b % 64) % 2 ≡ 1

-- the new set has what the old one has, and those with P
pub record HasAlso (old new : List ℕ) (P : ℕ → Type 0) : Type 0 where
  pub words : length new ≡ length old
  pub fits : ((i : ℕ) → slice_index old i < 2 ^ 64) → (i : ℕ) → slice_index new i < 2 ^ 64
  pub by : (b : ℕ) → b < 256 → IsIn b new ↔ (IsIn b old ⊎ P b)

-- the set has the bytes with P, and no other
pub record IsSetOf (P : ℕ → Type 0) (set : List ℕ) : Type 0 where
  pub words : length set ≡ 4
  pub fits : (i : ℕ) → slice_index set i < 2 ^ 64
  pub by : (b : ℕ) → b < 256 → IsIn b set ↔ P b

-- the byte is in one of the ranges, which are given by their first and last bytes
abbrev pub IsInRanges : ℕ → List (ℕ × ℕ) → Type 0
IsInRanges b [] = ⊥
IsInRanges b (r ∷ rs) = ((r.0 ≤ b) × (b ≤ r.1)) ⊎ IsInRanges b rs
