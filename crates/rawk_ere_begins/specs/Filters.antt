-- Marks of bytes, and what they tell of the places of a text.
use Rattle.std.specs.Prelude.{◌≡◌, ◌≢◌, ◌↔◌, ℕ, ◌+◌, ◌-◌, ◌*◌, ◌/◌, ◌%◌, ◌<◌, ◌≤◌, ◌⊎◌, Bool, true, false, List, length, slice_index, slice_index_or, bit_and}
use Rattle.std.specs.Int.{bit_at}
use Rattle.rawk_ere_begins.specs.declared.block.Block.{Block}
use Rattle.rawk_ere_begins.specs.declared.nibbles.Nibbles.{Nibbles}
use Rattle.rawk_ere_begins.specs.declared.filter.Filter.{Filter}
use Rattle.rawk_ere_begins.specs.declared.filter.Asked.{Asked}
use Rattle.rawk_ere_begins.specs.declared.filter.Asked.TheVariants as asked

-- the byte has the mark
abbrev pub HasMark : Nibbles → ℕ → ℕ → Type 0
HasMark n b i = (bit_at (slice_index n.low (b % 16)) i ≡ 1) × (bit_at (slice_index n.high (b / 16)) i ≡ 1)

-- the marks of the byte, as the bits of a number
abbrev pub marks_of : Nibbles → ℕ → ℕ
marks_of n b = bit_and (slice_index n.low (b % 16)) (slice_index n.high (b / 16))

-- what has a mark in the old one has it in the new one
abbrev pub KeepsMarks : Nibbles → Nibbles → Type 0
KeepsMarks old new = (b i : ℕ) → HasMark old b i → HasMark new b i

-- the marks that both bytes have
abbrev pub pair_marks : Filter → ℕ → ℕ → ℕ
pair_marks f a b = bit_and (marks_of f.first a) (marks_of f.second b)

-- the two bytes are the only ones that have a mark in common
abbrev pub IsOnly : Nibbles → Nibbles → ℕ × ℕ → Type 0
IsOnly first second p = (x y : ℕ) → x < 256 → y < 256 → (bit_and (marks_of first x) (marks_of second y) ≢ 0) ↔ ((x ≡ p.0) × (y ≡ p.1))

-- of bytes that have a mark in common the first has one, and where it is as was asked they have one in common
abbrev pub IsAsked : Nibbles → Nibbles → Asked → Type 0
IsAsked first second asked.Marks = Unit {0}
IsAsked first second asked.First = (x y : ℕ) → x < 256 → y < 256 → marks_of first x ≢ 0 → bit_and (marks_of first x) (marks_of second y) ≢ 0
IsAsked first second (asked.Byte a) = (x y : ℕ) → x < 256 → y < 256 → (bit_and (marks_of first x) (marks_of second y) ≢ 0) ↔ (x ≡ a)
IsAsked first second (asked.Pair a b) = IsOnly first second (a, b)

-- each byte leads from the row to that one
abbrev pub AllLeadTo : List ℕ → ℕ → ℕ → Type 0
AllLeadTo next to row = (b : ℕ) → b < 256 → slice_index next (row * 256 + b) ≡ to

-- the row `later` is no end, and each byte leads from there to `dead`, or to an end from which each byte leads to `dead`
pub record AreSingle (next : List ℕ) (ends : List Bool) (later dead : ℕ) : Type 0 where
  pub begin : slice_index_or ends later false ≡ false
  pub each : (a : ℕ) → a < 256 → (slice_index next (later * 256 + a) ≡ dead)
      ⊎ ((slice_index_or ends (slice_index next (later * 256 + a)) false ≡ true) × AllLeadTo next dead (slice_index next (later * 256 + a)))

-- In a table of rows, of which `next` has 256 entries each for where the bytes lead: where the filter is empty, all bytes lead
-- from the row `later` to the row `dead`; where it says so, ways are one byte long; so does a byte without marks; and of two bytes without a mark in common so does the first, or it leads to a row that is no end, and the second from there to `dead`.
pub record IsFilter (next : List ℕ) (ends : List Bool) (later dead : ℕ) (f : Filter) : Type 0 where
  pub asked : IsAsked f.first f.second f.asked
  pub empty : f.is_empty ≡ true → (a : ℕ) → a < 256 → slice_index next (later * 256 + a) ≡ dead
  pub one : f.is_single ≡ true → AreSingle next ends later dead
  pub single : (a : ℕ) → a < 256 → marks_of f.first a ≡ 0 → slice_index next (later * 256 + a) ≡ dead
  pub pair : (a b : ℕ) → a < 256 → b < 256 → pair_marks f a b ≡ 0
      → (slice_index next (later * 256 + a) ≡ dead)
      ⊎ ((slice_index_or ends (slice_index next (later * 256 + a)) false ≡ false) × (slice_index next (slice_index next (later * 256 + a) * 256 + b) ≡ dead))

-- no place passes, or the byte at the place has no marks, or it and the next one have none in common
abbrev pub IsPassedOver : Filter → List ℕ → ℕ → Type 0
IsPassedOver f s k = (f.is_empty ≡ true) ⊎ ((marks_of f.first (slice_index s k) ≡ 0) ⊎ ((k + 1 < length s) × (pair_marks f (slice_index s k) (slice_index s (k + 1)) ≡ 0)))

-- the block tells of 32 places of the text: its bits are set where the byte and the next one have a mark in common
pub record Tells (f : Filter) (s : List ℕ) (b : Block) : Type 0 where
  pub long : b.start + 33 ≤ length s
  pub set : (k : ℕ) → k < 32 → pair_marks f (slice_index s (b.start + k)) (slice_index s (b.start + k + 1)) ≢ 0 → bit_at b.marked k ≡ 1
  pub only : (k : ℕ) → bit_at b.marked k ≡ 1 → (k < 32) × (pair_marks f (slice_index s (b.start + k)) (slice_index s (b.start + k + 1)) ≢ 0)

-- the places of its bits that are set are less than n
abbrev pub StandsBelow : Block → ℕ → Type 0
StandsBelow b n = (k : ℕ) → bit_at b.marked k ≡ 1 → b.start + k < n

-- at the place a bit is set, and at none from `from` on before it, of which the block tells
pub record IsNextMarked (b : Block) (from at : ℕ) : Type 0 where
  pub start : b.start ≤ from
  pub tells : from < b.start + 32
  pub low : from ≤ at
  pub here : bit_at b.marked (at - b.start) ≡ 1
  pub before : (k : ℕ) → from ≤ k → k < at → bit_at b.marked (k - b.start) ≡ 0

-- the block tells of the place, and its bit is not set
abbrev pub IsUnmarked : Block → ℕ → Type 0
IsUnmarked b k = (b.start ≤ k) × (k < b.start + 32) × (bit_at b.marked (k - b.start) ≡ 0)
