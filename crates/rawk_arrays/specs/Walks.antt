-- How a walk over the index of an array stands, from the last one to the first.
use Rattle.std.specs.Prelude.{◌≡◌, ◌≢◌, ℕ, ◌+◌, ◌≤◌, nat_lt, is_some, Bool, false, if◌then◌else◌, List, length, slice_get, Option, None, Some}
use Rattle.std.specs.List.{sum_by}
use Rattle.std.specs.Ordering.{nat_cmp, eq_by_cmp}
use Rattle.std.specs.Cmp.Lexicographic.{slice_cmp}
use Rattle.std.specs.FinMap.{contains_key}
use Rattle.rawk_value.specs.Values.{Bytes}
use Rattle.rawk_arrays.specs.Elements.{Elements}
use Rattle.rawk_value.specs.declared.value.Value.{Value}
use Rattle.rawk_keys.specs.ArrayKey.{ArrayKey}
use Rattle.rawk_keys.specs.Found.{IsAfter, left}
use Rattle.rawk_arrays.specs.Place.{place}
use Rattle.rawk_arrays.specs.Laid.{slot}

-- one slot is empty now
pub record IsSlotEmptied (number : ℕ) (slots new : List (Option Value)) : Type 0 where
  pub here : slot new number ≡ None
  pub other : (j : ℕ) → j ≢ number → slot new j ≡ slot slots j
  pub size : length new ≡ length slots

-- the walk stands at a name of the array, or is over
pub record IsWalking (a : ℕ) (index : List ArrayKey) (at : Option ℕ) : Type 0 where
  pub within : left at ≤ length index
  pub here : (i : ℕ) (name : ArrayKey) → at ≡ Some i → slice_get index i ≡ Some name → name.array ≡ a

-- the slots of the array's index that come after are empty, and those of other arrays are as they were
pub record IsEmptying (a : ℕ) (index : List ArrayKey) (slots new : List (Option Value)) (at : Option ℕ) : Type 0 where
  pub gone : (j : ℕ) (name : ArrayKey) → IsAfter at j → slice_get index j ≡ Some name → name.array ≡ a → slot new j ≡ None
  pub rest : (j : ℕ) → ((name : ArrayKey) → slice_get index j ≡ Some name → name.array ≢ a) → slot new j ≡ slot slots j
  pub size : length new ≡ length slots

abbrev pub one : Bool → ℕ
one b = if b then 1 else 0

-- how often a key stands in a list
abbrev pub times : Bytes → List Bytes → ℕ
times q keys = sum_by (λ k. one (eq_by_cmp (slice_cmp nat_cmp) q k)) keys

-- the list has each key of the array once, and no other
abbrev pub IsEach : List Bytes → Elements → Type 0
IsEach keys m = (q : Bytes) → times q keys ≡ one (contains_key m q)

-- a slot that is filled, and not before a place
abbrev pub is_seen : ℕ → ℕ → Option Value → Bool
is_seen from p s = if nat_lt p from then false else is_some s

-- the keys found so far: each key of the array whose name comes after, once
pub record IsFinding (a : ℕ) (index : List ArrayKey) (slots : List (Option Value)) (at : Option ℕ) (keys : List Bytes) : Type 0 where
  pub each : (q : Bytes) → times q keys ≡ one (is_seen (left at) (place a q index) (slot slots (place a q index)))
  pub room : length keys + left at ≤ length index
