-- Records in the making.
use Rattle.std.specs.Prelude.{◌≡◌, ℕ, ◌≤◌, ◌++◌, List, [], ◌∷◌, length, map, Option, None, Some, slice_range}
use Rattle.rawk_value.specs.Values.{Bytes, text_of}
use Rattle.rawk_value.specs.declared.value.Value.{Value}
use Rattle.rawk_value.specs.declared.value.Value.TheVariants.{Input}
use Rattle.rawk_pieces.specs.Pieces.{AllInRange, IsInRange}
use Rattle.rawk_record.specs.Shown.{Shown, values, piece_value}
use Rattle.rawk_record.specs.Changed.{joined}
use Rattle.rawk_pieces.specs.declared.pieces.Piece.{Piece}
use Rattle.rawk_record.specs.declared.parts.Parts.{Parts}

abbrev pub values_of : Parts → List Value
values_of parts = values parts.text.items parts.pieces.items parts.kept.items

-- the record of these parts
abbrev pub shown_of : Parts → Shown
shown_of parts = record { text = parts.text.items; fields = values_of parts }

abbrev pub IsPlaced : Parts → Type 0
IsPlaced parts = AllInRange parts.text.items parts.pieces.items

-- a field's own value is the field's; one without is an input text
abbrev pub IsOwn : Value → Option Value → Type 0
IsOwn value None = value ≡ Input (text_of value)
IsOwn value (Some own) = own ≡ value

-- own values take one more, or none, for the field behind `count` others
abbrev pub IsKept : ℕ → Option Value → List (Option Value) → List (Option Value) → Type 0
IsKept count own old new = (text : Bytes) (pieces : List Piece) (piece : Piece) → length pieces ≡ count → values text (pieces ++ piece ∷ []) new ≡ values text pieces old ++ piece_value text piece own ∷ []

-- each field has a place, and the text is the fields' texts with the separator between two
pub record IsDraftOf (separator built : Bytes) (pieces : List Piece) (kept : List (Option Value)) : Type 0 where
  pub aligned : length kept ≤ length pieces
  pub placed : AllInRange built pieces
  pub text : built ≡ joined separator (map text_of (values built pieces kept))

abbrev pub IsDraft : Bytes → Parts → Type 0
IsDraft separator parts = IsDraftOf separator parts.text.items parts.pieces.items parts.kept.items

-- a text, and the bytes of another one that are still to be copied behind it
abbrev pub with_ahead : Bytes → Bytes → Piece → Bytes
with_ahead text from ahead = text ++ slice_range from ahead.start ahead.end

abbrev pub ahead_values : Parts → Bytes → Piece → List Value
ahead_values parts from ahead = values (with_ahead parts.text.items from ahead) parts.pieces.items parts.kept.items

-- the same of parts with the bytes of another text that are still to be copied
pub record IsAhead (separator : Bytes) (parts : Parts) (from : Bytes) (ahead : Piece) : Type 0 where
  pub draft : IsDraftOf separator (with_ahead parts.text.items from ahead) parts.pieces.items parts.kept.items
  pub range : IsInRange from ahead
