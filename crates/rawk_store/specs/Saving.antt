-- How many old values a group holds.
use Rattle.std.specs.Prelude.{◌≡◌, ℕ, ◌+◌, [], IfSome, length, Option, None, Some}
use Rattle.rawk_slots.specs.Back.{HasDistinctPlaces}
use Rattle.std.specs.Global.{Box}
use Rattle.rawk_store.specs.declared.rare_changes.FewGroup.{FewGroup}
use Rattle.rawk_store.specs.declared.rare_changes.RareChanges.{RareChanges}
use Rattle.rawk_store.specs.Groups.{Group}
use Rattle.rawk_store.specs.GroupBack.{grown_in}

abbrev pub one_if_some : {T : Type 0} → Option T → ℕ
one_if_some None = 0
one_if_some (Some x) = 1

-- the old values of elements
abbrev pub saved_elements : Option (Box FewGroup) → ℕ
saved_elements None = 0
saved_elements (Some f) = length f.value.arrays.slots.entries.items

-- these, and that of a text that grew, among those of the parts that few steps change
abbrev pub saved_in_part : RareChanges → ℕ
saved_in_part o = saved_elements o.few + one_if_some o.grown

abbrev pub saved_others : Option RareChanges → ℕ
saved_others None = 0
saved_others (Some o) = saved_in_part o

-- the old values of globals, of elements and of the record that a group holds; an absence counts
abbrev pub saved_in : Group → ℕ
saved_in group = length group.globals + saved_others group.others + one_if_some group.current

-- no element's slot stands twice among them
abbrev pub FewOnce : Option (Box FewGroup) → Type 0
FewOnce None = Unit {0}
FewOnce (Some f) = HasDistinctPlaces f.value.arrays.slots.entries.items

abbrev pub ElementsOnce : Option RareChanges → Type 0
ElementsOnce None = Unit {0}
ElementsOnce (Some o) = FewOnce o.few

-- a group holds one old value at most of each global and of each element
pub record SavesOnce (group : Group) : Type 0 where
  pub globals : HasDistinctPlaces group.globals
  pub elements : ElementsOnce group.others
  pub alone : IfSome (grown_in group.others) (λ a. group.globals ≡ [])
