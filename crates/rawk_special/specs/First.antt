-- What the table of the special variables holds.
use Rattle.rawk_value.specs.declared.value.Value.{Value}
use Rattle.rawk_value.specs.declared.value.Value.TheVariants as value
use Rattle.rawk_special.specs.declared.special.First.{First}
use Rattle.rawk_special.specs.declared.special.First.TheVariants.{Number, Text}

-- the value that is made
abbrev pub value_of : First → Value
value_of (Number n) = value.Number n
value_of (Text text) = value.String text.now
