-- Texts that are not cut.
use Rattle.std.specs.Prelude.{◌≡◌, Bool, ◌==◌, ◌&&◌, ◌||◌, List, Option, None, Some, map}
use Rattle.rawk_value.specs.Values.{Bytes}
use Rattle.rawk_value.specs.declared.value.Value.TheVariants.{Input}
use Rattle.rawk_pieces.specs.Fields.{words, byte_parts}
use Rattle.rawk_pieces.specs.Pieces.{split_by}
use Rattle.rawk_record.specs.Shown.{Shown}
use Rattle.rawk_pieces.specs.declared.pieces.Separator.{Separator}
use Rattle.rawk_record.specs.declared.uncut.Divider.{Divider}
use Rattle.rawk_record.specs.declared.uncut.Divider.TheVariants.{Blanks, Byte}

-- the fields of a text by a divider
abbrev pub divided : Divider → Bytes → List Bytes
divided Blanks s = words s
divided (Byte class) s = byte_parts (λ c. c == class.byte || class.newline && c == 10) s

-- the record that a text is by a divider
abbrev pub divided_record : Divider → Bytes → Shown
divided_record divider text = record { text = text; fields = map Input (divided divider text) }

-- a divider separates every text as the separator does
abbrev pub DividesAs : Separator → Bool → Option Divider → Type 0
DividesAs separator newline None = Unit {0}
DividesAs separator newline (Some divider) = (s : Bytes) → divided divider s ≡ split_by separator newline s
