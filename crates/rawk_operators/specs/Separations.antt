-- The parts of a text, as places in it.
use Rattle.std.specs.Prelude.{◌≡◌, List, Result, Ok, Err}
use Rattle.rawk_value.specs.Values.{Bytes}
use Rattle.rawk_value.specs.declared.fault.Fault.{Fault}
use Rattle.rawk_pieces.specs.Pieces.{texts, AllInRange}
use Rattle.rawk_pieces.specs.declared.pieces.Fields.{Fields}

-- the pieces are these parts of a text, and lie within it; or the fault is theirs
abbrev pub Separates : Bytes → Result (List Bytes) Fault → Result Fields Fault → Type 0
Separates text parts (Ok fields) = (parts ≡ Ok (texts text fields.pieces.items)) × AllInRange text fields.pieces.items
Separates text parts (Err fault) = parts ≡ Err fault
