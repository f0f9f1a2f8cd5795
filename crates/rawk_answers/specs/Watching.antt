-- What can be watched, and when it differs.
use Rattle.std.specs.Prelude.{◌-◌, pos, Bool, true, false, not, ◌==◌, length, if◌then◌else◌, slice_index_or, Option, Some, None}
use Rattle.std.specs.Ordering.{int_eq}
use Rattle.std.specs.Str.{bytes_eq}
use Rattle.rawk_value.specs.declared.value.Value.{Value}
use Rattle.rawk_value.specs.declared.value.Value.TheVariants.{Uninitialized, Number, String, Input}
use Rattle.rawk_arrays.specs.Elements.{element_at}
use Rattle.rawk_store.specs.Observed.{Observed}
use Rattle.rawk_answers.specs.declared.stop.Scalar.{Scalar}
use Rattle.rawk_answers.specs.declared.stop.Scalar.TheVariants.{Global, FieldCount, Field}
use Rattle.rawk_answers.specs.declared.stop.Watched.{Watched}
use Rattle.rawk_answers.specs.declared.stop.Watched.TheVariants as watched

-- a scalar's value; a field past the last is uninitialised
abbrev pub scalar_at : Scalar → Observed → Value
scalar_at (Global x) s = slice_index_or s.globals x Uninitialized
scalar_at FieldCount s = Number (pos (length s.fields))
scalar_at (Field n) s = if n == 0 then Input s.whole else slice_index_or s.fields (n - 1) Uninitialized

-- what a place holds: an element that is not there holds nothing
abbrev pub value_at : Watched → Observed → Option Value
value_at (watched.Scalar place) s = Some (scalar_at place s)
value_at (watched.Element array key) s = element_at array key s.arrays

-- whether two values are the same, in kind and content
abbrev pub same_value : Value → Value → Bool
same_value Uninitialized Uninitialized = true
same_value (Number m) (Number n) = int_eq m n
same_value (String s) (String t) = bytes_eq s t
same_value (Input s) (Input t) = bytes_eq s t
same_value v w = false

-- whether neither is there, or both are and are the same
abbrev pub same_held : Option Value → Option Value → Bool
same_held None None = true
same_held (Some v) (Some w) = same_value v w
same_held v w = false

abbrev pub differs : Watched → Observed → Observed → Bool
differs place s t = not (same_held (value_at place s) (value_at place t))
