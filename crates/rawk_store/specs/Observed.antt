-- What a watch can see of a state.
use Rattle.std.specs.Prelude.{List}
use Rattle.rawk_value.specs.Values.{Bytes}
use Rattle.rawk_value.specs.declared.value.Value.{Value}
use Rattle.rawk_arrays.specs.Elements.{Elements}
use Rattle.rawk_store.specs.State.{State}

pub record Observed : Type 0 where
  pub globals : List Value
  pub arrays : List Elements
  pub whole : Bytes
  pub fields : List Value

abbrev pub seen : State → Observed
seen s = record { globals = s.globals; arrays = s.arrays; whole = s.whole; fields = s.fields }
