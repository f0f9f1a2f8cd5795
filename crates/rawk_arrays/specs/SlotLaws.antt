-- An element is what stands in the slot of its key.
use Rattle.std.specs.Prelude.{◌≡◌, ℕ, ◌<◌, ◌≤◌, length, slice_get, List, [], ◌∷◌, Option, None, Some}
use Rattle.std.proofs.Common.{suc, zero, inl, inr, ap, ◌∙◌, arith}
use Rattle.std.proofs.lemmas.Bool.{cases_lt}
use Rattle.std.proofs.lemmas.List.{get_or_past}
use Rattle.std.specs.FinMap.{get, get-empty}
use Rattle.std.specs.Ordering.{nat_cmp}
use Rattle.std.specs.Cmp.Lexicographic.{slice_cmp}
use Rattle.rawk_value.specs.Values.{Bytes}
use Rattle.rawk_value.specs.declared.value.Value.{Value}
use Rattle.rawk_arrays.specs.Elements.{Elements, element_at}
use Rattle.rawk_arrays.specs.Laid.{Laid, IsLaid, arrays_of, slot}
use Rattle.rawk_arrays.specs.Place.{place}
use Rattle.rawk_arrays.specs.PlaceLaws.{found_slot, get_at, place_there}
use Rattle.rawk_arrays.specs.ListLaws.{array_there, array_past}
use Rattle.rawk_arrays.specs.Slotted.{IsSlotOf, held_in}

held_slot : (slots : List (Option Value)) (i : ℕ) (s : Option (Option Value)) → slice_get slots i ≡ s → slot slots i ≡ held_in s
held_slot [] i s e = ap held_in e
held_slot (x ∷ slots) zero s e = ap held_in e
held_slot (x ∷ slots) (suc i) s e = held_slot slots i s e

pub slot_element : (a : ℕ) (key : Bytes) (i : ℕ) (l : Laid) (s : Option (Option Value)) → IsLaid l.index l.slots → a < l.live → IsSlotOf a key l (Some i) → slice_get l.slots i ≡ s → element_at a key (arrays_of l) ≡ held_in s
slot_element a key i l s laid lt (_, is) e = ap (λ (m : Elements). get m key) (array_there l a lt) ∙ (found_slot a key l.index l.slots i laid is ∙ held_slot l.slots i s e)

-- an array that is not there has no element
pub past_element : (a : ℕ) (key : Bytes) (l : Laid) → l.live ≤ a → element_at a key (arrays_of l) ≡ None
past_element a key l le = ap (λ (m : Elements). get m key) (array_past l a le) ∙ get-empty (slice_cmp nat_cmp) key

unslotted : (a : ℕ) (key : Bytes) (l : Laid) → IsLaid l.index l.slots → IsSlotOf a key l None → slot l.slots (place a key l.index) ≡ None
unslotted a key l laid none = elim (cases_lt (place a key l.index) (length l.slots)) [
  | inl lt ↦ absurd (none (place a key l.index) lt (place_there a key l.index (omega (arith, lt, laid.array_key))))
  | inr ge ↦ get_or_past l.slots (place a key l.index) None ge
]

-- nor has a key without a slot
pub no_element : (a : ℕ) (key : Bytes) (l : Laid) → IsLaid l.index l.slots → IsSlotOf a key l None → element_at a key (arrays_of l) ≡ None
no_element a key l laid none = elim (cases_lt a l.live) [
  | inl lt ↦ ap (λ (m : Elements). get m key) (array_there l a lt) ∙ (get_at a key l.index l.slots laid.array_key ∙ unslotted a key l laid none)
  | inr ge ↦ past_element a key l ge
]
