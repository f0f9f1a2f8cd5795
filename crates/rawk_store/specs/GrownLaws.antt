-- How many globals there are, with and without what came behind a text.
use Rattle.std.specs.Prelude.{◌≡◌, List, length, refl, slice_index_or, Option, None, Some}
use Rattle.std.proofs.Common.{◌∙◌}
use Rattle.std.proofs.lemmas.List.{length-set}
use Rattle.std.specs.Global.{Box}
use Rattle.rawk_value.specs.declared.value.Value.{Value}
use Rattle.rawk_value.specs.declared.value.Value.TheVariants.{Uninitialized}
use Rattle.rawk_slots.specs.declared.saved.Saved.{Saved}
use Rattle.rawk_slots.specs.Back.{back}
use Rattle.rawk_slots.specs.BackLaws.{length-back}
use Rattle.rawk_cells.specs.declared.cells.Appended.{Appended}
use Rattle.rawk_cells.specs.Cells.{lengthened, shortened, with_again, without}
use Rattle.rawk_store.specs.declared.rare_changes.RareChanges.{RareChanges}
use Rattle.rawk_store.specs.GroupBack.{globals_in, globals_on, grown_in}

length-without : (a : Option (Box Appended)) (xs : List Value) → length (without a xs) ≡ length xs
length-without None xs = refl
length-without (Some a) xs = length-set xs a.value.place (shortened a.value.count (slice_index_or xs a.value.place Uninitialized))

length-with_again : (a : Option (Box Appended)) (xs : List Value) → length (with_again a xs) ≡ length xs
length-with_again None xs = refl
length-with_again (Some a) xs = length-set xs a.value.place (lengthened a.value.more (slice_index_or xs a.value.place Uninitialized))

pub length-globals_in : (xs : List Value) (o : Option RareChanges) → length (globals_in xs o) ≡ length xs
length-globals_in xs o = length-without (grown_in o) xs

pub length-globals_on : (xs : List Value) (newer : List (Saved Value)) (o : Option RareChanges) → length (globals_on xs newer o) ≡ length xs
length-globals_on xs newer o = length-with_again (grown_in o) (back xs newer) ∙ length-back xs newer
