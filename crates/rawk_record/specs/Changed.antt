-- Records that are changed (POSIX awk, Expressions in awk; Variables and Special Variables, NF).
use Rattle.std.specs.Prelude.{ℕ, ◌-◌, List, [], ◌∷◌, ◌++◌, length, max, take, replicate, map, slice_set}
use Rattle.rawk_value.specs.Values.{Bytes, text_of}
use Rattle.rawk_value.specs.declared.value.Value.{Value}
use Rattle.rawk_value.specs.declared.value.Value.TheVariants.{Uninitialized}
use Rattle.rawk_record.specs.Shown.{Shown}

-- texts with a separator between two
abbrev pub joined : Bytes → List Bytes → Bytes
joined separator [] = []
joined separator (t ∷ []) = t
joined separator (t ∷ u ∷ more) = t ++ separator ++ joined separator (u ∷ more)

-- cut, or extended with uninitialised fields
abbrev pub resized : ℕ → List Value → List Value
resized n fields = take n fields ++ replicate (n - length fields) Uninitialized

-- with a value for the field of a number, from 1; the fields between are uninitialised
abbrev pub with_value : ℕ → Value → List Value → List Value
with_value n v fields = slice_set (resized (max (length fields) n) fields) (n - 1) v

-- the record of these fields: `$0` is their texts with the separator between two
abbrev pub rebuilt : Bytes → List Value → Shown
rebuilt separator fields = record { text = joined separator (map text_of fields); fields = fields }
