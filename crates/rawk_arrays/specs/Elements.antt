-- Arrays, each a finite map from keys to values.
use Rattle.std.specs.Prelude.{ℕ, Bool, if◌then◌else◌, List, ◌++◌, replicate, slice_index_or, slice_set, take, Option, None, Some}
use Rattle.std.specs.FinMap.{FinMap, empty, get, insert, remove, contains_key, keys}
use Rattle.std.specs.Ordering.{nat_cmp}
use Rattle.std.specs.Cmp.Lexicographic.{slice_cmp}
use Rattle.rawk_value.specs.Values.{Bytes}
use Rattle.rawk_value.specs.declared.value.Value.{Value}
use Rattle.rawk_value.specs.declared.value.Value.TheVariants.{Uninitialized}
use Rattle.rawk_arrays.specs.declared.arrays.ArraysChange.{ArraysChange}
use Rattle.rawk_arrays.specs.declared.arrays.ArraysChange.TheVariants.{Set, Touch, Delete, Clear, AddEmpty, Truncate}

-- the elements of an array, in byte order of their keys
abbrev pub Elements : Type 0
Elements = FinMap (slice_cmp nat_cmp) Value

abbrev pub no_elements : Elements
no_elements = empty

-- the array of a number; a number that has none is an empty array
abbrev pub array_at : ℕ → List Elements → Elements
array_at a arrays = slice_index_or arrays a no_elements

-- the element at a key, if it is there
abbrev pub element_at : ℕ → Bytes → List Elements → Option Value
element_at a key arrays = get (array_at a arrays) key

abbrev pub is_element : ℕ → Bytes → List Elements → Bool
is_element a key arrays = contains_key (array_at a arrays) key

-- the element at the key is this one, or there is none
abbrev pub put : Elements → Bytes → Option Value → Elements
put m key (Some value) = insert m key value
put m key None = remove m key

abbrev pub with_put : ℕ → Bytes → Option Value → List Elements → List Elements
with_put a key value arrays = slice_set arrays a (put (array_at a arrays) key value)

-- an assignment to an element
abbrev pub with_element : ℕ → Bytes → Value → List Elements → List Elements
with_element a key value arrays = with_put a key (Some value) arrays

-- a deletion
abbrev pub without_element : ℕ → Bytes → List Elements → List Elements
without_element a key arrays = with_put a key None arrays

-- an element that is read comes to be
abbrev pub touched : ℕ → Bytes → List Elements → List Elements
touched a key arrays = if is_element a key arrays then arrays else with_element a key Uninitialized arrays

-- a deletion of all elements
abbrev pub cleared : ℕ → List Elements → List Elements
cleared a arrays = slice_set arrays a no_elements

-- the keys of an array, in byte order
abbrev pub map_keys : Elements → List Bytes
map_keys m = keys m

abbrev pub keys_at : ℕ → List Elements → List Bytes
keys_at a arrays = map_keys (array_at a arrays)

-- the arrays after a change
abbrev pub changed_arrays : ArraysChange → List Elements → List Elements
changed_arrays (Set a key value) arrays = with_element a key.items value arrays
changed_arrays (Touch a key) arrays = touched a key.items arrays
changed_arrays (Delete a key) arrays = without_element a key.items arrays
changed_arrays (Clear a) arrays = cleared a arrays
changed_arrays (AddEmpty count) arrays = arrays ++ replicate count no_elements
changed_arrays (Truncate count) arrays = take count arrays
