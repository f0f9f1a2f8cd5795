-- Fields as places in a text.
use Rattle.std.specs.Prelude.{◌≡◌, ◌≢◌, ℕ, ◌≤◌, ◌<◌, ◌==◌, ◌&&◌, ◌||◌, Bool, true, false, not, nat_lt, if◌then◌else◌, List, [], ◌∷◌, ◌++◌, drop, slice_index, map, filter, length, slice_range, All, Option, Result, Ok, Err}
use Rattle.std.specs.List.{slice_split}
use Rattle.rawk_value.specs.Values.{Bytes, is_empty}
use Rattle.rawk_value.specs.declared.fault.Fault.{Fault}
use Rattle.rawk_value.specs.declared.fault.Fault.TheVariants.{OutOfMemory}
use Rattle.rawk_ere_tree.specs.Tree.{Tree}
use Rattle.rawk_pieces.specs.Fields.{words, byte_parts, ere_parts, dynamic_parts, fields_of}
use Rattle.rawk_pieces.specs.declared.pieces.Piece.{Piece}
use Rattle.rawk_pieces.specs.declared.pieces.Separator.{Separator}
use Rattle.rawk_pieces.specs.declared.pieces.Separator.TheVariants.{Blanks, Byte, Nothing, Matches}
use Rattle.rawk_pieces.specs.declared.pieces.Fields.{Fields}

-- the bytes of pieces of a text
abbrev pub texts : Bytes → List Piece → List Bytes
texts text pieces = map (λ p. slice_range text p.start p.end) pieces

abbrev pub IsInRange : Bytes → Piece → Type 0
IsInRange text piece = (piece.start ≤ piece.end) × (piece.end ≤ length text)

-- each piece lies within the text
abbrev pub AllInRange : Bytes → List Piece → Type 0
AllInRange text pieces = All (IsInRange text) pieces

abbrev pub has_bytes : Bytes → Bool
has_bytes word = not (is_empty word)

-- the runs of bytes that are no separators
abbrev pub words_by : (ℕ → Bool) → Bytes → List Bytes
words_by is s = filter has_bytes (slice_split is s)

-- the runs of bytes that are no separators, without the empty ones or with them
abbrev pub runs_by : Bool → (ℕ → Bool) → Bytes → List Bytes
runs_by true is s = slice_split is s
runs_by false is s = words_by is s

-- a run's piece, where it is kept
abbrev pub run_piece : Bool → ℕ → ℕ → List Piece
run_piece empty_too start end = if empty_too || nat_lt start end then record { start = start; end = end } ∷ [] else []

-- the runs that ended before `scanned` are cut, and the last one begins at `start`
pub record IsCut (is : ℕ → Bool) (empty_too : Bool) (text : Bytes) (pieces : List Piece) (start scanned : ℕ) : Type 0 where
  pub so_far : texts text pieces ++ runs_by empty_too is (drop start text) ≡ runs_by empty_too is text
  pub low : start ≤ scanned
  pub high : scanned ≤ length text
  pub none : (k : ℕ) → start ≤ k → k < scanned → is (slice_index text k) ≡ false
  pub in_range : AllInRange text pieces

-- each byte
abbrev pub singles : Bytes → List Bytes
singles s = map (λ b. b ∷ []) s

-- the fields of a text by a separator; `newline` says whether a newline separates too
abbrev pub split_by : Separator → Bool → Bytes → List Bytes
split_by Blanks newline s = words s
split_by (Byte b) newline s = byte_parts (λ c. c == b || newline && c == 10) s
split_by Nothing newline s = singles s
split_by (Matches e) newline s = ere_parts e.now newline s

-- the separator splits every text as the field separator does, or the field separator is refused for every text; memory may be refused
abbrev pub Decides : Bytes → Result Separator Fault → Type 0
Decides fs (Ok separator) = (s : Bytes) (newline : Bool) → fields_of s fs newline ≡ Ok (split_by separator newline s)
Decides fs (Err fault) = fault ≢ OutOfMemory → (s : Bytes) (newline : Bool) → fields_of s fs newline ≡ Err fault

-- the same of a field separator that is an expression, or none
abbrev pub ExpressionDecides : Option Tree → Result Separator Fault → Type 0
ExpressionDecides e (Ok separator) = (s : Bytes) (newline : Bool) → dynamic_parts e newline s ≡ Ok (split_by separator newline s)
ExpressionDecides e (Err fault) = (s : Bytes) (newline : Bool) → dynamic_parts e newline s ≡ Err fault

-- the pieces are the fields, or the fault is theirs; memory may be refused
abbrev pub IsFieldsAnswer : Bytes → Result (List Bytes) Fault → Result Fields Fault → Type 0
IsFieldsAnswer text fields (Ok f) = (fields ≡ Ok (texts text f.pieces.items)) × AllInRange text f.pieces.items
IsFieldsAnswer text fields (Err OutOfMemory) = Unit {0}
IsFieldsAnswer text fields (Err fault) = fields ≡ Err fault
