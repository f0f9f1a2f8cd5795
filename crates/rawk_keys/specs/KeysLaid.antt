-- How keys lie.
use Rattle.std.specs.Prelude.{◌≡◌, ◌≤◌, ℕ, List, [], ◌∷◌, length, map, slice_range}
use Rattle.rawk_keys.specs.declared.keys.KeyRange.{KeyRange}
use Rattle.rawk_keys.specs.ArrayKey.{Bytes, ArrayKey}
use Rattle.rawk_keys.specs.Hash.{hash_of}

-- the keys: the array of each, and where its key stands in the text
abbrev pub keys_of : Bytes → List ℕ → List KeyRange → List ArrayKey
keys_of text [] spans = []
keys_of text (a ∷ arrays) [] = []
keys_of text (a ∷ arrays) (s ∷ spans) = record { array = a; key = slice_range text s.start s.end } ∷ keys_of text arrays spans

abbrev pub hashes_of : ℕ → List ArrayKey → List ℕ
hashes_of basis keys = map (λ entry. hash_of basis entry.array entry.key) keys

-- a key stands within the text
pub record IsWithin (text : Bytes) (s : KeyRange) : Type 0 where
  pub ordered : s.start ≤ s.end
  pub inside : s.end ≤ length text

abbrev pub AreWithin : Bytes → List KeyRange → Type 0
AreWithin text [] = Unit {0}
AreWithin text (s ∷ spans) = IsWithin text s × AreWithin text spans

-- every key has its array and its hash, from a basis on
pub record AreLaid (basis : ℕ) (text : Bytes) (spans : List KeyRange) (hashes arrays : List ℕ) : Type 0 where
  pub within : AreWithin text spans
  pub arrays_size : length arrays ≡ length spans
  pub hashed : hashes ≡ hashes_of basis (keys_of text arrays spans)
