-- The first bytes of a key as numbers, by which most keys are told apart.
use Rattle.std.specs.Prelude.{◌≡◌, ℕ, ◌+◌, ◌*◌, ◌<◌, List, map, slice_index_or}
use Rattle.std.proofs.Common.{suc, zero}
use Rattle.rawk_value.specs.Values.{Bytes}
use Rattle.rawk_arrays.specs.declared.heads.HeadedKey.{HeadedKey}

-- `count` bytes of a key from a place on, written behind a number to the base 256; past the end stand zeros
abbrev pub number_with : ℕ → ℕ → ℕ → Bytes → ℕ
number_with number zero place key = number
number_with number (suc count) place key = number_with (number * 256 + slice_index_or key place 0) count (suc place) key

-- a key behind its first eight bytes and its next eight
pub record IsHeaded (h : HeadedKey) : Type 0 where
  pub first : h.first ≡ number_with 0 8 0 h.key.now
  pub second : h.second ≡ number_with 0 8 8 h.key.now
  pub bytes : (place : ℕ) → slice_index_or h.key.now place 0 < 256

-- the keys alone
abbrev pub headed_keys : List HeadedKey → List Bytes
headed_keys hs = map (λ h. h.key.now) hs
