-- Where a paragraph stands, place by place.
use Rattle.std.specs.Prelude.{◌≡◌, ◌≢◌, ◌≤◌, ◌<◌, ℕ, ◌+◌, length, slice_index}
use Rattle.rawk_value.specs.Values.{Bytes}
use Rattle.rawk_tape.specs.declared.found.Found.{Found as Place}

-- only newlines stand from i up to j
abbrev pub AllNewlines : Bytes → ℕ → ℕ → Type 0
AllNewlines bytes i j = (k : ℕ) → i ≤ k → k < j → slice_index bytes k ≡ 10

-- another byte follows each newline from i up to j
abbrev pub NoBreak : Bytes → ℕ → ℕ → Type 0
NoBreak bytes i j = (k : ℕ) → i ≤ k → k < j → slice_index bytes k ≡ 10 → (k + 1 < length bytes) × (slice_index bytes (k + 1) ≢ 10)

-- newlines do not go on at a place
abbrev pub Stops : Bytes → ℕ → Type 0
Stops bytes place = place < length bytes → slice_index bytes place ≢ 10

-- at a place stands a newline that a newline or the end follows, unless it is the end itself
pub record Breaks (bytes : Bytes) (place : ℕ) : Type 0 where
  pub here : place < length bytes → slice_index bytes place ≡ 10
  pub behind : place + 1 < length bytes → slice_index bytes (place + 1) ≡ 10

-- what is known of a paragraph from the bytes scanned so far, and stays true in a longer text
pub record IsScanned (bytes : Bytes) (start : ℕ) (place : Place) : Type 0 where
  pub low : start ≤ place.start
  pub text : place.start ≤ place.end
  pub after : place.end ≤ place.count
  pub high : place.count ≤ length bytes
  pub before : AllNewlines bytes start place.start
  pub inside : NoBreak bytes place.start place.end
  pub behind : AllNewlines bytes place.end place.count

-- the paragraph of a text from a place on
pub record IsParagraph (bytes : Bytes) (start : ℕ) (place : Place) : Type 0 where
  pub scanned : IsScanned bytes start place
  pub begins : Stops bytes place.start
  pub ends : Breaks bytes place.end
  pub stops : Stops bytes place.count
