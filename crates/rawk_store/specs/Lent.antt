-- Values that are lent.
use Rattle.std.specs.Prelude.{◌++◌}
use Rattle.rawk_value.specs.declared.value.Value.{Value}
use Rattle.rawk_value.specs.declared.value.Value.TheVariants.{String}
use Rattle.rawk_store.specs.declared.lent.ValueRef.{ValueRef}
use Rattle.rawk_store.specs.declared.lent.ValueRef.TheVariants.{Whole, Text}

-- the value that is lent: of a text in parts the one behind the other
abbrev pub lent : ValueRef → Value
lent (Whole value) = value.now
lent (Text front behind) = String (front.now ++ behind.now)
