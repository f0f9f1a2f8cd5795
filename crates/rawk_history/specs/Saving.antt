-- How many old values are kept.
use Rattle.std.specs.Prelude.{◌≡◌, ℕ, ◌+◌, ◌^◌, ◌<◌, List, reverse}
use Rattle.std.specs.List.{sum_by}
use Rattle.std.specs.Global.{Vec}
use Rattle.std.proofs.lemmas.List.Sorted.{sum_by-IsPermutation, IsPermutation-reverse}
use Rattle.rawk_store.specs.declared.rare_changes.RareChanges.{RareChanges}
use Rattle.rawk_store.specs.Groups.{Group}
use Rattle.rawk_store.specs.Saving.{saved_in, saved_in_part}
use Rattle.rawk_history.specs.Steps.{Kept}

abbrev pub saved_in_groups : List Group → ℕ
saved_in_groups groups = sum_by saved_in groups

abbrev pub saved_in_others : List RareChanges → ℕ
saved_in_others all = sum_by saved_in_part all

abbrev pub saved_in_sets : List (Vec Group) → ℕ
saved_in_sets sets = sum_by (λ (v : Vec Group). saved_in_groups v.items) sets

-- those of a step, and of the sets made at the point that it left
abbrev pub saved_by : Kept → ℕ
saved_by item = saved_in item.step + saved_in_groups item.sets

abbrev pub saved_by_all : List Kept → ℕ
saved_by_all items = sum_by saved_by items

-- the count is n, or stays at the greatest number of 128 bits
abbrev pub Counts : ℕ → ℕ → Type 0
Counts n count = n < 2 ^ 128 → count ≡ n

-- in whatever order they are counted
pub saved_in_groups-reverse : (groups : List Group) → saved_in_groups (reverse groups) ≡ saved_in_groups groups
saved_in_groups-reverse groups = sum_by-IsPermutation saved_in groups (reverse groups) (IsPermutation-reverse groups)
