-- Old values, and what they lead back to.
use Rattle.std.specs.Prelude.{◌≡◌, ℕ, ◌<◌, ◌≤◌, List, [], ◌∷◌, ◌++◌, length, map, slice_set, slice_get, slice_index, Option, None, Some}
use Rattle.rawk_slots.specs.declared.saved.Saved.{Saved}

-- the slots with each saved value put back at its place, the newest first
abbrev pub back : {T : Type 0} → List T → List (Saved T) → List T
back xs [] = xs
back xs (e ∷ es) = slice_set (back xs es) e.place e.old

-- what was saved, or else what stands there
abbrev pub saved_or : {T : Type 0} → Option T → Option T → Option T
saved_or None now = now
saved_or (Some old) now = Some old

-- each place is one of n
abbrev pub AreBelow : {T : Type 0} → ℕ → List (Saved T) → Type 0
AreBelow n [] = Unit {0}
AreBelow n (e ∷ es) = (e.place < n) × AreBelow n es

-- the saved value at j is of this place
abbrev pub IsSavedAt : {T : Type 0} → List (Saved T) → ℕ → ℕ → Type 0
IsSavedAt {T} saved j place = (e : Saved T) × (slice_get saved j ≡ Some e) × (e.place ≡ place)

-- the places of old values
abbrev pub places : {T : Type 0} → List (Saved T) → List ℕ
places saved = map (λ e. e.place) saved

-- no place stands twice from a number on
abbrev pub AreDistinctFrom : {T : Type 0} → ℕ → List (Saved T) → Type 0
AreDistinctFrom began saved = (i j : ℕ) → began ≤ i → began ≤ j → i < length (places saved) → j < length (places saved) → slice_index (places saved) i ≡ slice_index (places saved) j → i ≡ j

-- no place stands twice
abbrev pub HasDistinctPlaces : {T : Type 0} → List (Saved T) → Type 0
HasDistinctPlaces saved = AreDistinctFrom 0 saved

-- a list behind which stands what a step changed: what is now leads so back to the start
pub record HasAdded {T : Type 0} (items start : List T) (list longer : List (Saved T)) : Type 0 where
  pub entries : List (Saved T)
  pub is : longer ≡ list ++ entries
  pub back : back items entries ≡ start
  pub below : AreBelow (length items) entries
  pub distinct : HasDistinctPlaces entries

-- each saved place has its mark, so that no place is saved twice
pub record IsJournal {T : Type 0} (items : List T) (marks : List ℕ) (saved : List (Saved T)) : Type 0 where
  pub marked : length marks ≡ length items
  pub below : AreBelow (length items) saved
  pub once : (j : ℕ) (e : Saved T) → slice_get saved j ≡ Some e → slice_index marks e.place ≡ j
