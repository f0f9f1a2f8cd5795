-- Records that assignments make.
use Rattle.std.specs.Prelude.{◌≡◌, Option, None, Some, Result, Ok, Err}
use Rattle.rawk_value.specs.declared.value.Value.{Value}
use Rattle.rawk_value.specs.declared.fault.Fault.{Fault}
use Rattle.rawk_value.specs.Values.{Bytes, next_ok, number_of}
use Rattle.rawk_record.specs.Changed.{rebuilt, resized}
use Rattle.rawk_record.specs.Shown.{Shown}
use Rattle.rawk_store.specs.State.{field_number}

-- the record is this one, or there is a fault and it stays
abbrev pub Becomes : Option Fault → Result Shown Fault → Shown → Shown → Type 0
Becomes None made old new = made ≡ Ok new
Becomes (Some fault) made old new = (made ≡ Err fault) × (new ≡ old)

-- with as many fields as the number of a value says, and a separator between the texts of two
abbrev pub counted_as : Value → Bytes → Shown → Result Shown Fault
counted_as v separator s = next_ok (number_of v) (λ z. next_ok (field_number z) (λ n. Ok (rebuilt separator (resized n s.fields))))
