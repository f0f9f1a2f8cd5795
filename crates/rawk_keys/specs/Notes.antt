-- Entries of keys that are numbers.
use Rattle.std.specs.Prelude.{◌≡◌, ℕ, ◌-◌, ◌<◌, List, slice_get, Some}
use Rattle.rawk_value.specs.Values.{text_of}
use Rattle.rawk_value.specs.declared.value.Value.TheVariants.{Number}
use Rattle.rawk_keys.specs.declared.notes.Note.{Note}
use Rattle.rawk_keys.specs.ArrayKey.{ArrayKey, array_key}

-- each note has the entry of its array's key, its number in decimal, or none
pub record AreNoted (notes : List Note) (keys : List ArrayKey) : Type 0 where
  pub at : (place : ℕ) (own : Note) → slice_get notes place ≡ Some own → 0 < own.above → slice_get keys (own.above - 1) ≡ Some (array_key own.array (text_of (Number own.key)))
