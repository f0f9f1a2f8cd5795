-- What contracts see of a record.
use Rattle.std.specs.Prelude.{List, [], ◌∷◌, map, slice_range, Bool, Option, None, Some, Result, Ok}
use Rattle.rawk_value.specs.Values.{Bytes, next_ok}
use Rattle.rawk_value.specs.declared.value.Value.{Value}
use Rattle.rawk_value.specs.declared.value.Value.TheVariants.{Input}
use Rattle.rawk_value.specs.declared.fault.Fault.{Fault}
use Rattle.rawk_pieces.specs.Fields.{fields_of}
use Rattle.rawk_pieces.specs.Pieces.{split_by}
use Rattle.rawk_pieces.specs.declared.pieces.Piece.{Piece}
use Rattle.rawk_pieces.specs.declared.pieces.Separator.{Separator}

-- the bytes of `$0`, and the values of the fields
pub record Shown : Type 0 where
  pub text : Bytes
  pub fields : List Value

abbrev pub no_record : Shown
no_record = record { text = []; fields = [] }

-- a field with a value of its own, or a place in the text
abbrev pub piece_value : Bytes → Piece → Option Value → Value
piece_value text piece None = Input (slice_range text piece.start piece.end)
piece_value text piece (Some value) = value

abbrev pub values : Bytes → List Piece → List (Option Value) → List Value
values text [] kept = []
values text (piece ∷ pieces) [] = piece_value text piece None ∷ values text pieces []
values text (piece ∷ pieces) (own ∷ kept) = piece_value text piece own ∷ values text pieces kept

-- the record that a text is split into
abbrev pub split_record : Separator → Bool → Bytes → Shown
split_record separator newline text = record { text = text; fields = map Input (split_by separator newline text) }

-- the record that was saved, if one was
abbrev pub record_back : Shown → Option Shown → Shown
record_back now None = now
record_back now (Some earlier) = earlier

-- the record that a text becomes by a field separator, or the fault
abbrev pub read_as : Bytes → Bytes → Bool → Result Shown Fault
read_as text fs newline = next_ok (fields_of text fs newline) (λ texts. Ok (record { text = text; fields = map Input texts }))
