-- Keys of an array that are the numbers from one on, one behind another.
use Rattle.std.specs.Prelude.{◌≡◌, ℕ, ◌+◌, ◌<◌, pos, List, slice_get, Some}
use Rattle.rawk_value.specs.Values.{text_of}
use Rattle.rawk_value.specs.declared.value.Value.TheVariants.{Number}
use Rattle.rawk_keys.specs.declared.keys.KeyRange.{KeyRange}
use Rattle.rawk_keys.specs.declared.series.Series.{Series}
use Rattle.rawk_keys.specs.declared.series.Run.{Run}
use Rattle.rawk_keys.specs.declared.notes.Note.{Note}
use Rattle.rawk_keys.specs.ArrayKey.{Bytes, ArrayKey, array_key}
use Rattle.rawk_keys.specs.KeysLaid.{AreLaid, keys_of}
use Rattle.rawk_keys.specs.Notes.{AreNoted}

-- the entries of a series are an array's keys of the numbers from one on, in decimal
abbrev pub IsSeries : ℕ → Series → List ArrayKey → Type 0
IsSeries array series keys = (i : ℕ) → i < series.count → slice_get keys (series.first + i) ≡ Some (array_key array (text_of (Number (pos (series.from + i)))))

-- the entries are an array's keys of the numbers from 1 on, in decimal
abbrev pub IsRun : ℕ → Run → List ArrayKey → Type 0
IsRun array run keys = (i : ℕ) → i < run.count → slice_get keys (run.first + i) ≡ Some (array_key array (text_of (Number (pos (i + 1)))))

-- each series that stands at an array's number is one of that array
pub record AreSeries (series : List Series) (keys : List ArrayKey) : Type 0 where
  pub at : (array : ℕ) (own : Series) → slice_get series array ≡ Some own → IsSeries array own keys

-- what holds of all keys: how they lie, and which of them are known, as series and by notes
pub record AreKept (basis : ℕ) (text : Bytes) (spans : List KeyRange) (hashes arrays : List ℕ) (series : List Series) (notes : List Note) : Type 0 where
  pub laid : AreLaid basis text spans hashes arrays
  pub known : AreSeries series (keys_of text arrays spans)
  pub noted : AreNoted notes (keys_of text arrays spans)
