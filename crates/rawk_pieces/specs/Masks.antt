-- Masks of 32 bytes.
use Rattle.std.specs.Prelude.{◌≡◌, ℕ, ◌+◌, ◌<◌, ◌≤◌, Bool, true, List, length, slice_index}
use Rattle.std.specs.Int.{bit_at}

-- the bits that are set are those of the bytes that pass
pub record IsMaskOf (p : ℕ → Bool) (block : List ℕ) (mask : ℕ) : Type 0 where
  pub marks : (k : ℕ) → bit_at mask k ≡ 1 → (k < 32) × (p (slice_index block k) ≡ true)
  pub all : (k : ℕ) → k < 32 → p (slice_index block k) ≡ true → bit_at mask k ≡ 1

-- the bits that are set are those of the bytes that pass, from one place on where the bits begin, and not before another
pub record IsMaskFrom (p : ℕ → Bool) (text : List ℕ) (at from mask : ℕ) : Type 0 where
  pub marks : (k : ℕ) → bit_at mask k ≡ 1 → (k < 32) × (at + k < length text) × (from ≤ at + k) × (p (slice_index text (at + k)) ≡ true)
  pub all : (k : ℕ) → k < 32 → at + k < length text → from ≤ at + k → p (slice_index text (at + k)) ≡ true → bit_at mask k ≡ 1
