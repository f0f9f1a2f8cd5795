-- Names of which each stands once, with the number of the group that it belongs to.
use Rattle.std.specs.Prelude.{◌≡◌, ◌==◌, ℕ, ◌+◌, Bool, ◌&&◌, if◌then◌else◌, List, [], ◌∷◌, ◌++◌, length, slice_get, Option, None, Some}
use Rattle.std.specs.Str.{bytes_eq}
use Rattle.rawk_keys.specs.ArrayKey.{ArrayKey}

abbrev pub key_eq : ArrayKey → ArrayKey → Bool
key_eq a b = (a.array == b.array) && bytes_eq a.key b.key

-- one place further on
abbrev pub later : Option ℕ → Option ℕ
later None = None
later (Some place) = Some (place + 1)

-- the first place of a key
abbrev pub place_of : ArrayKey → List ArrayKey → Option ℕ
place_of key [] = None
place_of key (k ∷ keys) = if key_eq key k then Some 0 else later (place_of key keys)

-- each key stands once
abbrev pub AreOnce : List ArrayKey → Type 0
AreOnce keys = (i : ℕ) (key : ArrayKey) → slice_get keys i ≡ Some key → place_of key keys ≡ Some i

abbrev pub numbered_at : ArrayKey → List ArrayKey → Option ℕ → ℕ × List ArrayKey
numbered_at key keys (Some place) = (place, keys)
numbered_at key keys None = (length keys, keys ++ key ∷ [])

-- the place of a key, and the keys then: a new one comes last
unfoldable pub numbered : ArrayKey → List ArrayKey → ℕ × List ArrayKey
numbered key keys = numbered_at key keys (place_of key keys)
