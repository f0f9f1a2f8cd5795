-- The state of a program, and what can be assigned in it.
use Rattle.std.specs.Prelude.{ℕ, zero, suc, ◌-◌, ℤ, pos, negsuc, int_le, ◌==◌, Bool, false, if◌then◌else◌, List, [], ◌∷◌, length, map, slice_index_or, slice_set, Option, None, Some, Result, Ok, Err}
use Rattle.std.specs.Option.{unwrap_or}
use Rattle.std.specs.FinMap.{len}
use Rattle.rawk_words.specs.declared.array.Array.{Array}
use Rattle.rawk_words.specs.declared.array.Array.TheVariants as array
use Rattle.rawk_limits.specs.declared.TheConstants.{LAST_FIELD}
use Rattle.rawk_value.specs.declared.value.Value.{Value}
use Rattle.rawk_value.specs.declared.value.Value.TheVariants.{Uninitialized, Number, Input}
use Rattle.rawk_value.specs.declared.fault.Fault.{Fault}
use Rattle.rawk_value.specs.declared.fault.Fault.TheVariants.{FieldNumber}
use Rattle.rawk_value.specs.Values.{Bytes, next_ok, is_empty, number_of, text_of}
use Rattle.rawk_arrays.specs.Elements.{Elements, array_at, cleared, element_at, is_element, keys_at, touched, with_element, without_element}
use Rattle.rawk_frames.specs.declared.frames.Local.{Local}
use Rattle.rawk_frames.specs.declared.frames.Local.TheVariants.{Holds, Names}
use Rattle.rawk_frames.specs.Frame.{Frame, locals_now, with_local}
use Rattle.rawk_pieces.specs.Fields.{fields_of}
use Rattle.rawk_record.specs.Changed.{resized, with_value}
pub use Rattle.rawk_record.specs.Changed.{joined}
pub use Rattle.rawk_special.specs.declared.special.TheConstants.{NR, FNR, FS, OFS, ORS, RS, SUBSEP, CONVFMT, OFMT, RSTART, RLENGTH}
use Rattle.rawk_store.specs.declared.target.Target as target
use Rattle.rawk_store.specs.declared.target.Target.TheVariants as place

-- the state: the special variables come first among the globals, `whole` is `$0`, `here` is the last point reached at the present depth (0 before the first; after `exit` or `next` in a function, the point of that jump), and `site` its site
pub record State : Type 0 where
  pub globals : List Value
  pub arrays : List Elements
  pub frames : List Frame
  pub ranges : List Bool
  pub whole : Bytes
  pub fields : List Value
  pub consumed : ℕ
  pub output : Bytes
  pub status : ℕ
  pub here : ℕ
  pub site : Option ℕ

abbrev pub global_value : ℕ → State → Value
global_value x s = slice_index_or s.globals x Uninitialized

abbrev pub global_text : ℕ → State → Bytes
global_text x s = text_of (global_value x s)

-- the value of a field: `$0` is field 0, and a field past the last is uninitialised
abbrev pub field_value : ℕ → State → Value
field_value n s = if n == 0 then Input s.whole else slice_index_or s.fields (n - 1) Uninitialized

abbrev pub field_count : State → Value
field_count s = Number (pos (length s.fields))

-- with an empty record separator, a newline separates fields too
abbrev pub is_paragraph : State → Bool
is_paragraph s = is_empty (global_text RS s)

abbrev pub with_global : ℕ → Value → State → State
with_global x v s = record s { globals = slice_set s.globals x v }

-- the value of a local; one that names an array has none
abbrev pub held : Local → Value
held (Holds v) = v
held (Names array) = Uninitialized

-- a local of the innermost activation
abbrev pub local_value : ℕ → State → Value
local_value i s = held (slice_index_or (locals_now s.frames) i (Holds Uninitialized))

abbrev pub with_local_value : ℕ → Value → State → State
with_local_value i v s = record s { frames = with_local i (Holds v) s.frames }

-- the array that a local names; one that holds a value names none
abbrev pub named_by : Local → Option ℕ
named_by (Holds v) = None
named_by (Names array) = Some array

-- the number of an array, by its name and the activations
abbrev pub array_in : Array → List Frame → Option ℕ
array_in (array.Global a) frames = Some a
array_in (array.Local i) frames = named_by (slice_index_or (locals_now frames) i (Holds Uninitialized))

-- the element at a key of the array with a number, if both are there
abbrev pub element_in : Option ℕ → Bytes → List Elements → Option Value
element_in None key arrays = None
element_in (Some a) key arrays = element_at a key arrays

-- whether it is there
abbrev pub has_element : Option ℕ → Bytes → List Elements → Bool
has_element None key arrays = false
has_element (Some a) key arrays = is_element a key arrays

-- the arrays where it is there: what is read comes to be (POSIX awk, Expressions in awk)
abbrev pub read_element : Option ℕ → Bytes → List Elements → List Elements
read_element None key arrays = arrays
read_element (Some a) key arrays = touched a key arrays

-- the arrays with a value at a key
abbrev pub put_element : Option ℕ → Bytes → Value → List Elements → List Elements
put_element None key v arrays = arrays
put_element (Some a) key v arrays = with_element a key v arrays

-- the arrays without the element at a key
abbrev pub delete_element : Option ℕ → Bytes → List Elements → List Elements
delete_element None key arrays = arrays
delete_element (Some a) key arrays = without_element a key arrays

-- the arrays without all elements of one
abbrev pub clear_elements : Option ℕ → List Elements → List Elements
clear_elements None arrays = arrays
clear_elements (Some a) arrays = cleared a arrays

-- the arrays with these texts of an input at the keys of a number and those behind it
abbrev pub numbered : ℕ → ℕ → List Bytes → List Elements → List Elements
numbered a n [] arrays = arrays
numbered a n (text ∷ texts) arrays = numbered a (suc n) texts (with_element a (text_of (Number (pos n))) (Input text) arrays)

-- the arrays where one has these texts at the keys from 1 on, and no other elements (POSIX awk, String Functions, split)
abbrev pub fill_elements : Option ℕ → List Bytes → List Elements → List Elements
fill_elements None texts arrays = arrays
fill_elements (Some a) texts arrays = numbered a 1 texts (cleared a arrays)

-- the keys of an array, in byte order
abbrev pub keys_in : Option ℕ → List Elements → List Bytes
keys_in None arrays = []
keys_in (Some a) arrays = keys_at a arrays

-- how many elements it has
abbrev pub count_in : Option ℕ → List Elements → ℕ
count_in None arrays = 0
count_in (Some a) arrays = len (array_at a arrays)

abbrev pub element_value : Array → Bytes → State → Value
element_value a key s = unwrap_or (element_in (array_in a s.frames) key s.arrays) Uninitialized

abbrev pub with_element_read : Array → Bytes → State → State
with_element_read a key s = record s { arrays = read_element (array_in a s.frames) key s.arrays }

abbrev pub with_element_value : Array → Bytes → Value → State → State
with_element_value a key v s = record s { arrays = put_element (array_in a s.frames) key v s.arrays }

abbrev pub without_element_at : Array → Bytes → State → State
without_element_at a key s = record s { arrays = delete_element (array_in a s.frames) key s.arrays }

abbrev pub without_elements : Array → State → State
without_elements a s = record s { arrays = clear_elements (array_in a s.frames) s.arrays }

abbrev pub with_elements : Array → List Bytes → State → State
with_elements a texts s = record s { arrays = fill_elements (array_in a s.frames) texts s.arrays }

abbrev pub array_keys : Array → State → List Bytes
array_keys a s = keys_in (array_in a s.frames) s.arrays

abbrev pub element_count : Array → State → Value
element_count a s = Number (pos (count_in (array_in a s.frames) s.arrays))

-- the key that subscripts are: their texts with the SUBSEP of now between two
abbrev pub key_of : List Value → State → Bytes
key_of vs s = joined (global_text SUBSEP s) (map text_of vs)

-- a place whose subscripts and field number are settled
abbrev pub Target : Type 0
Target = target.Target

-- a field number, within its limit
abbrev pub field_number : ℤ → Result ℕ Fault
field_number (pos n) = if int_le (pos n) (pos LAST_FIELD) then Ok n else Err FieldNumber
field_number (negsuc n) = Err FieldNumber

-- with these fields, and `$0` made of their texts with the OFS of now between two
abbrev pub with_fields : List Value → State → State
with_fields fields s = record s { fields = fields; whole = joined (global_text OFS s) (map text_of fields) }

-- with a value for the field of a number, from 1; the fields between are uninitialised
abbrev pub with_field : ℕ → Value → State → State
with_field n v s = with_fields (with_value n v s.fields) s

-- with this many fields, cut or extended with uninitialised ones
abbrev pub with_field_count : ℕ → State → State
with_field_count n s = with_fields (resized n s.fields) s

-- `$0` is split by the separators of now
abbrev pub with_record : Bytes → State → Result State Fault
with_record text s = next_ok (fields_of text (global_text FS s) (is_paragraph s)) (λ texts. Ok (record s { whole = text; fields = map Input texts }))

-- the state after an assignment to a field, or its fault: `$0` is field 0
abbrev pub with_field_value : ℕ → Value → State → Result State Fault
with_field_value zero v s = with_record (text_of v) s
with_field_value (suc m) v s = Ok (with_field (suc m) v s)

-- the state after an assignment to NF, which counts by its number, or its fault
abbrev pub with_count_value : Value → State → Result State Fault
with_count_value v s = next_ok (number_of v) (λ z. next_ok (field_number z) (λ n. Ok (with_field_count n s)))

-- the state after an assignment, or its fault
abbrev pub assigned : Target → Value → State → Result State Fault
assigned (place.Global x) v s = Ok (with_global x v s)
assigned (place.Local i) v s = Ok (with_local_value i v s)
assigned place.FieldCount v s = with_count_value v s
assigned (place.Field n) v s = with_field_value n v s
assigned (place.Element a key) v s = Ok (with_element_value a key v s)
