-- Keys that loops still visit: on one stack their lists, on another how many of each were visited.
use Rattle.std.specs.Prelude.{◌≡◌, ℕ, List, [], ◌∷◌, drop}
use Rattle.std.specs.Global.{Vec}
use Rattle.rawk_value.specs.Values.{Bytes}
use Rattle.rawk_slots.specs.Stacked.{Stacked, GrownStack, IsLive, empty_stack, live_values}

pub record LaidKeys : Type 0 where
  pub lists : Stacked (Vec Bytes)
  pub visited : Stacked ℕ

abbrev pub no_keys : LaidKeys
no_keys = record { lists = empty_stack; visited = empty_stack }

-- the lists without what was visited
abbrev pub left_lists : List ℕ → List (Vec Bytes) → List (List Bytes)
left_lists [] lists = []
left_lists (n ∷ visited) [] = []
left_lists (n ∷ visited) (l ∷ lists) = drop n l.items ∷ left_lists visited lists

-- for each loop the keys that are left, the innermost loop first
abbrev pub keys_of : LaidKeys → List (List Bytes)
keys_of l = left_lists (live_values l.visited) (live_values l.lists)

-- the keys of the innermost loop
abbrev pub keys_now : List (List Bytes) → List Bytes
keys_now [] = []
keys_now (keys ∷ rest) = keys

-- the innermost loop has visited one more
abbrev pub without_first : List (List Bytes) → List (List Bytes)
without_first [] = []
without_first (keys ∷ rest) = drop 1 keys ∷ rest

-- slots were added beyond the live ones, and nothing else was done
pub record GrownKeys (l m : LaidKeys) : Type 0 where
  pub lists : GrownStack l.lists m.lists
  pub visited : GrownStack l.visited m.visited

-- slots were added beyond the live ones, and the keys that are left are the same
pub record IsSameKeys (l m : LaidKeys) : Type 0 where
  pub grown : GrownKeys l m
  pub same : keys_of m ≡ keys_of l

-- the live lengths are within the slots
pub record AreKeysLive (l : LaidKeys) : Type 0 where
  pub lists : IsLive l.lists
  pub visited : IsLive l.visited
