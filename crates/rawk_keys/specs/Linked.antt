-- How the chains lie.
use Rattle.std.specs.Prelude.{◌≡◌, ◌≢◌, ℕ, ◌-◌, ◌<◌, ◌≤◌, List, length, map, slice_index, bit_and}
use Rattle.rawk_keys.specs.declared.chains.Link.{Link}

abbrev pub labels : List Link → List ℕ
labels links = map (λ l. l.label) links

abbrev pub earliers : List Link → List ℕ
earliers links = map (λ l. l.earlier) links

-- the chain that a label belongs to
abbrev pub chain_of : ℕ → ℕ → ℕ
chain_of count label = bit_and label (count - 1)

-- among the first n items the label stands at none from this place on, and the place leads on in the label's chain
pub record IsPast (count : ℕ) (xs : List ℕ) (n label at : ℕ) : Type 0 where
  pub within : at ≤ n
  pub none : (j : ℕ) → at ≤ j → j < n → slice_index xs j ≢ label
  pub here : 0 < at → chain_of count (slice_index xs (at - 1)) ≡ chain_of count label

-- the first n items stand in their chains
pub record IsLinked (count : ℕ) (xs nexts heads : List ℕ) (n : ℕ) : Type 0 where
  pub size : length heads ≡ count
  pub head_past : (label : ℕ) → IsPast count xs n label (slice_index heads (chain_of count label))
  pub link_past : (i label : ℕ) → i < n → chain_of count (slice_index xs i) ≡ chain_of count label → IsPast count xs i label (slice_index nexts i)
