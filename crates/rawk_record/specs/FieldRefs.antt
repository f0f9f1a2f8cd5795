-- Fields that are lent.
use Rattle.rawk_value.specs.declared.value.Value.{Value}
use Rattle.rawk_value.specs.declared.value.Value.TheVariants.{Input}
use Rattle.rawk_record.specs.declared.parts.FieldRef.{FieldRef}
use Rattle.rawk_record.specs.declared.parts.FieldRef.TheVariants.{Piece, Kept}

-- a split field is an input text
abbrev pub ref_value : FieldRef → Value
ref_value (Piece bytes) = Input bytes.now
ref_value (Kept value) = value.now
