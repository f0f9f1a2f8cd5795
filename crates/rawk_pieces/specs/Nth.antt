-- One run of a text, where those before it are counted.
use Rattle.std.specs.Prelude.{◌≡◌, ℕ, ◌+◌, Bool, true, if◌then◌else◌, List, length, Option, None, Some, slice_get, slice_range}
use Rattle.rawk_value.specs.Values.{Bytes}
use Rattle.rawk_pieces.specs.declared.nth.Sought.{Sought}
use Rattle.rawk_pieces.specs.declared.nth.Sought.TheVariants.{Found, Behind}
use Rattle.rawk_pieces.specs.declared.pieces.Piece.{Piece}
use Rattle.rawk_pieces.specs.Pieces.{IsCut, IsInRange, runs_by}

-- behind a run that counts or not: how many are left before the one that is sought, or it is that one
abbrev pub IsPassed : Bool → ℕ → Option ℕ → Type 0
IsPassed counts left None = (counts ≡ true) × (left ≡ 0)
IsPassed counts left (Some more) = (if counts then more + 1 else more) ≡ left

-- the runs that ended before `scanned` are counted, the last one begins at `start`, and `left` are left before the one that is sought
pub record IsCounted (is : ℕ → Bool) (empty_too : Bool) (text : Bytes) (place start scanned left : ℕ) : Type 0 where
  pub pieces : List Piece
  pub cut : IsCut is empty_too text pieces start scanned
  pub count : length pieces + left ≡ place

-- the run that is sought
abbrev pub IsNth : (ℕ → Bool) → Bool → Bytes → ℕ → Piece → Type 0
IsNth is empty_too text place piece = (slice_get (runs_by empty_too is text) place ≡ Some (slice_range text piece.start piece.end)) × IsInRange text piece

-- it was found, or it does not end before `scanned`
abbrev pub IsSought : (ℕ → Bool) → Bool → Bytes → ℕ → ℕ → Sought → Type 0
IsSought is empty_too text place scanned (Found piece) = IsNth is empty_too text place piece
IsSought is empty_too text place scanned (Behind start left) = IsCounted is empty_too text place start scanned left
