-- How arrays lie: their keys, each with a slot for its value, and how many arrays there are.
use Rattle.std.specs.Prelude.{◌≡◌, ◌≢◌, ℕ, pos, ◌+◌, ◌<◌, ◌≤◌, ◌==◌, if◌then◌else◌, List, [], ◌∷◌, ◌++◌, length, map, max, replicate, slice_get, slice_index_or, Option, None, Some}
use Rattle.std.specs.List.{range_with_len}
use Rattle.rawk_value.specs.Values.{Bytes, text_of}
use Rattle.rawk_value.specs.declared.value.Value.TheVariants.{Number}
use Rattle.rawk_slots.specs.Journaled.{Journaled, Longer}
use Rattle.rawk_value.specs.declared.value.Value.{Value}
pub use Rattle.rawk_keys.specs.declared.series.Run.{Run}
use Rattle.rawk_keys.specs.ArrayKey.{ArrayKey, array_key}
use Rattle.rawk_arrays.specs.Elements.{Elements, no_elements, put}

-- the keys of all arrays, their slots, and how many arrays there are
pub record Laid : Type 0 where
  pub index : List ArrayKey
  pub slots : List (Option Value)
  pub live : ℕ

abbrev pub no_arrays : Laid
no_arrays = record { index = []; slots = []; live = 0 }

-- the elements of an array: its keys whose slots are filled
abbrev pub elements_of : ℕ → List ArrayKey → List (Option Value) → Elements
elements_of a [] slots = no_elements
elements_of a (name ∷ index) [] = no_elements
elements_of a (name ∷ index) (slot ∷ slots) = if name.array == a then put (elements_of a index slots) name.key slot else elements_of a index slots

-- the arrays that lie there
abbrev pub arrays_of : Laid → List Elements
arrays_of l = map (λ a. elements_of a l.index l.slots) (range_with_len 0 l.live)

-- what stands in a slot; nothing stands past the last
abbrev pub slot : List (Option Value) → ℕ → Option Value
slot slots i = slice_index_or slots i None

-- no name stands twice
abbrev pub AreDistinct : List ArrayKey → Type 0
AreDistinct index = (i j : ℕ) (name : ArrayKey) → slice_get index i ≡ Some name → slice_get index j ≡ Some name → i ≡ j

-- no name stands twice, and no slot is without its name
pub record IsLaid (index : List ArrayKey) (slots : List (Option Value)) : Type 0 where
  pub distinct : AreDistinct index
  pub array_key : length slots ≤ length index

-- the same, of the slots now and of those when the step began, which are as many
pub record AreLaid (index : List ArrayKey) (slots : Journaled (List (Option Value))) : Type 0 where
  pub distinct : AreDistinct index
  pub array_key : length slots.now ≤ length index
  pub sizes : length slots.start ≡ length slots.now

-- slots were added, all of them empty
pub record IsSpread (slots more : List (Option Value)) : Type 0 where
  pub longer : length slots ≤ length more
  pub same : (i : ℕ) → slot more i ≡ slot slots i

-- empty slots were added up to a count, to the slots now and to those when the step began
pub record IsCovered (count : ℕ) (old new : Journaled (List (Option Value))) : Type 0 where
  pub added : ℕ
  pub now : new.now ≡ old.now ++ replicate added None
  pub start : new.start ≡ old.start ++ replicate added None
  pub most : length new.now ≤ max (length old.now) count

-- the element at a key is this one now, or there is none, and every other is as it was
pub record IsPut (a : ℕ) (key : Bytes) (value : Option Value) (index : List ArrayKey) (slots : List (Option Value)) (new_names : List ArrayKey) (new_slots : List (Option Value)) : Type 0 where
  pub here : elements_of a new_names new_slots ≡ put (elements_of a index slots) key value
  pub other : (b : ℕ) → b ≢ a → elements_of b new_names new_slots ≡ elements_of b index slots

-- an array with what one more slot holds, if the slot is one of its own
abbrev pub with_slot : ℕ → ArrayKey → Option Value → Elements → Elements
with_slot b name None m = m
with_slot b name (Some v) m = if name.array == b then put m name.key (Some v) else m

-- the arrays below a number have what one more slot holds
abbrev pub IsPacked : ℕ → ArrayKey → Option Value → List ArrayKey → List (Option Value) → List ArrayKey → List (Option Value) → Type 0
IsPacked live name s index slots new_names new_slots = (b : ℕ) → b < live → elements_of b new_names new_slots ≡ with_slot b name s (elements_of b index slots)

-- an array has no elements any more, and every other is as it was
pub record IsEmptied (a : ℕ) (index : List ArrayKey) (slots new_slots : List (Option Value)) : Type 0 where
  pub here : elements_of a index new_slots ≡ no_elements
  pub other : (b : ℕ) → b ≢ a → elements_of b index new_slots ≡ elements_of b index slots

-- the slot is that of the key in an array that there is
pub record IsPlaceOf (a : ℕ) (key : Bytes) (place : ℕ) (l : Laid) : Type 0 where
  pub array_key : slice_get l.index place ≡ Some (array_key a key)
  pub within : place < length l.slots
  pub live : a < l.live

-- the slots are those of the keys from 1 on
abbrev pub ArePlaces : ℕ → Run → Laid → Type 0
ArePlaces a run l = (i : ℕ) → i < run.count → IsPlaceOf a (text_of (Number (pos (i + 1)))) (run.first + i) l

-- index and empty slots were added, and nothing else was done
pub record GrownArrays (l m : Laid) : Type 0 where
  pub index : Longer l.index m.index
  pub slots : IsSpread l.slots m.slots
  pub live : m.live ≡ l.live

-- index and empty slots were added, and the arrays are the same
pub record IsSameArrays (l m : Laid) : Type 0 where
  pub grown : GrownArrays l m
  pub same : arrays_of m ≡ arrays_of l
