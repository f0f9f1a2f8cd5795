-- What steps changed in a stack, as contracts see it.
use Rattle.std.specs.Prelude.{◌≡◌, ℕ, ◌≤◌, Bool, false, true, List, [], ◌∷◌, drop, length, take, Option, None, Some}
use Rattle.rawk_slots.specs.declared.saved.Saved.{Saved}
use Rattle.rawk_slots.specs.declared.stack_groups.Begins.{Begins}
use Rattle.rawk_slots.specs.Back.{AreDistinctFrom}

-- old values, each with its place, and how many values were live
pub record StackGroup (T : Type 0) : Type 0 where
  pub entries : List (Saved T)
  pub live : ℕ

-- what steps changed, the newest first, and a number that is greater than that of the old values for which there is room in one step more: 0 where there is room for no step
pub record StackGroups (T : Type 0) : Type 0 where
  pub groups : List (StackGroup T)
  pub room : ℕ

-- the first of a list, where a step has one there, and the others
abbrev pub first_if : {T : Type 0} → Bool → List T → Option T
first_if false xs = None
first_if true [] = None
first_if true (x ∷ xs) = Some x

abbrev pub rest_if : {T : Type 0} → Bool → List T → List T
rest_if false xs = xs
rest_if true xs = drop 1 xs

-- what steps changed whose old values lie behind one another: those of each from the number in its mark on
abbrev pub groups_of : {T : Type 0} → List Begins → List (Saved T) → List (StackGroup T)
groups_of [] entries = []
groups_of (b ∷ bs) entries = record { entries = drop b.entries entries; live = b.live } ∷ groups_of bs (take b.entries entries)

-- the old values of each step begin within the list, and no place stands twice among them; nothing stands before those of the oldest
abbrev pub AreBegun : {T : Type 0} → List Begins → List (Saved T) → Type 0
AreBegun [] entries = entries ≡ []
AreBegun (b ∷ bs) entries = (b.entries ≤ length entries) × AreDistinctFrom b.entries entries × AreBegun bs (take b.entries entries)
